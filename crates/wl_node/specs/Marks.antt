-- Where a node was, so that it can go back or on to there: what it keeps beside its lists, and how long those were. This project's profile.
-- For a reader who knows simulation: a checkpoint, as optimistic execution has it (Jefferson 1985); the lists of a history only grow.
use Rattle.std.specs.Prelude.{◌≡◌, ℕ, ◌+◌, List, ◌++◌, length, count_by, Some}
use Rattle.std.specs.List.{flat_map}
use Rattle.wl_level.specs.declared.Level.{Level}
use Rattle.wl_sync.specs.Running.{clock_after}
use Rattle.wl_confine.specs.Counts.{counts_of}
use Rattle.wl_frame.specs.Grammar.{Content}
use Rattle.wl_machine.specs.Judged.{stretch_of, drive_of, head_of}
use Rattle.wl_machine.specs.Reached.{IsMachine}
use Rattle.wl_node.specs.declared.setup.NodeSetup.{NodeSetup}
use Rattle.wl_node.specs.declared.setup.QueueOrder.TheVariants.{Fifo}
use Rattle.wl_node.specs.declared.staying_mark.StayingMark.{StayingMark}
use Rattle.wl_node.specs.declared.staying_node.StayingNode.{StayingNode}
use Rattle.wl_node.specs.declared.mark.Mark.{Mark}
use Rattle.wl_node.specs.declared.node.Node.{Node}
use Rattle.wl_node.specs.History.{History, staying_history, history_of, levels_there, levels_away, is_sent, unsent_of, error_count, phase_of, is_hard}
use Rattle.wl_node.specs.Extremes.{phase_totals}
use Rattle.wl_node.specs.Reached.{IsNode, node_setup}
use Rattle.wl_node.specs.Staying.{IsStaying}
use Rattle.wl_node.specs.Unsent.{IsChosen}

-- a mark of a node that is on the bus is of this history
pub record FitsMark (setup : NodeSetup) (mark : StayingMark) (h : History) : Type 0 where
  pub clock : mark.clock ≡ clock_after setup.segments h.seen
  pub drive : mark.drive ≡ h.drive
  pub quanta : mark.quanta ≡ length h.seen
  pub hards : mark.hards ≡ count_by is_hard h.syncs
  pub totals : mark.totals ≡ phase_totals (flat_map phase_of h.syncs)
  pub machine : IsMachine mark.machine h.inputs
  pub counters : mark.counters ≡ counts_of h.happened
  pub pending : mark.pending ≡ drive_of (stretch_of h.inputs)
  pub sent : setup.order ≡ Fifo → mark.sent ≡ count_by is_sent h.frames
  pub errors : mark.errors ≡ error_count h
  pub samples : mark.samples ≡ length h.samples
  pub frames : mark.frames ≡ length h.frames
  pub sends : (frame : Content) → head_of (stretch_of h.inputs).sort ≡ Some frame → IsChosen setup.order (unsent_of setup h) frame mark.place

-- it marks where these levels put a node of this setup that is on the bus
pub record IsStayingMark (setup : NodeSetup) (levels : List Level) (mark : StayingMark) : Type 0 where
  pub counted : length (staying_history setup levels).seen ≡ length levels
  pub place : FitsMark setup mark (staying_history setup levels)

-- such a node was there, and some levels came since
abbrev pub HasStayed : StayingMark → StayingNode → Type 0
HasStayed mark node = ∥ ((levels : List Level) × (more : List Level) × IsStayingMark node.setup levels mark × IsStaying (levels ++ more) node) ∥₁

-- such a node will be there after some levels more
abbrev pub StaysAhead : StayingMark → StayingNode → Type 0
StaysAhead mark node = ∥ ((levels : List Level) × (more : List Level) × IsStaying levels node × IsStayingMark node.setup (levels ++ more) mark) ∥₁

-- it marks where these levels put a node of this setup
pub record IsMark (setup : NodeSetup) (levels : List Level) (mark : Mark) : Type 0 where
  pub stayed : IsStayingMark setup (levels_there setup.until levels) mark.staying
  pub away : mark.away ≡ length (levels_away setup.until levels)

-- after these levels the node was where the mark is, and some came since
pub record HasGoneOn (mark : Mark) (levels more : List Level) (node : Node) : Type 0 where
  pub marked : IsMark (node_setup node) levels mark
  pub stands : IsNode (levels ++ more) node

-- some levels after which the node was there
abbrev pub HasPassed : Mark → Node → Type 0
HasPassed mark node = ∥ ((levels : List Level) × (more : List Level) × HasGoneOn mark levels more node) ∥₁

-- these levels put the node where it is, and some more put one where the mark is
pub record HasAhead (mark : Mark) (levels more : List Level) (node : Node) : Type 0 where
  pub stands : IsNode levels node
  pub marked : IsMark (node_setup node) (levels ++ more) mark

-- some levels after which the node will be there
abbrev pub LiesAhead : Mark → Node → Type 0
LiesAhead mark node = ∥ ((levels : List Level) × (more : List Level) × HasAhead mark levels more node) ∥₁

-- over these levels more a node of this setup neither sends nor receives a frame to its end
abbrev pub NoFrameIn : NodeSetup → List Level → List Level → Type 0
NoFrameIn setup levels more = (history_of setup (levels ++ more)).frames ≡ (history_of setup levels).frames

-- how many quanta the node had run
abbrev pub quanta_marked : Mark → ℕ
quanta_marked mark = mark.staying.quanta + mark.away
