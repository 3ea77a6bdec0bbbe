-- What holds of every node.
use Rattle.std.specs.Prelude.{◌≡◌, ◌⊎◌, ℕ, suc, ◌+◌, ◌/◌, ◌≤◌, List, ◌++◌, length, replicate, None, Some}
use Rattle.wl_level.specs.declared.Level.{Level}
use Rattle.wl_level.specs.declared.Level.TheVariants.{Recessive}
use Rattle.wl_segments.specs.Lengths.{AreLengths, least_way}
use Rattle.wl_sync.specs.SampleLaws.{quanta_to_sample}
use Rattle.wl_node.specs.declared.setup.NodeSetup.{NodeSetup}
use Rattle.wl_node.specs.declared.node.Node.{Node}
use Rattle.wl_node.specs.History.{history_of, staying_history}
use Rattle.wl_node.specs.Limits.{most_quiet}
use Rattle.wl_node.specs.Quiet.{pending_of, floor_at, quiet_at, quiet_of, changes_of}
use Rattle.wl_node.specs.Reached.{IsNode, quanta_of}
use Rattle.wl_node.specs.Stays.{stay_at, stay_of}

pub record NodeLaws : Type 0 where
  -- each node is where some levels put it
  pub reached : (node : Node) → ∥ ((levels : List Level) × IsNode levels node) ∥₁
  -- and those are as many as it has run quanta
  pub counted : (node : Node) (levels : List Level) → IsNode levels node → quanta_of node ≡ length levels

-- What holds of the drive of a node that stays on the bus, whatever it sees.
pub record StayingLaws : Type 0 where
  -- between the start of a bit and its sample a node drives what its machine wants
  pub settled : (setup : NodeSetup) (levels : List Level) (n : ℕ) → quanta_to_sample setup.segments (staying_history setup levels).seen ≡ Some n
      → (staying_history setup levels).drive ≡ pending_of (staying_history setup levels)
  -- no list of at most so many levels as it is quiet for changes its drive
  pub quiet : (setup : NodeSetup) (levels more : List Level) → length more ≤ quiet_at setup (staying_history setup levels)
      → (staying_history setup (levels ++ more)).drive ≡ (staying_history setup levels).drive
  -- and where it sees recessive only it keeps its drive for as long as it stays so
  pub stays : (setup : NodeSetup) (levels : List Level) (m : ℕ) → m ≤ stay_at setup (staying_history setup levels)
      → (staying_history setup (levels ++ replicate m Recessive)).drive ≡ (staying_history setup levels).drive
  -- it is quiet up to its next sample at least
  pub floor : (setup : NodeSetup) (levels : List Level) → AreLengths setup.segments → floor_at setup (staying_history setup levels) ≤ quiet_at setup (staying_history setup levels)

-- What holds of the drive of every node, whatever it sees.
pub record DriveLaws : Type 0 where
  -- no list of at most so many levels as it is quiet for changes its drive
  pub quiet : (setup : NodeSetup) (levels more : List Level) → length more ≤ quiet_of setup levels
      → (history_of setup (levels ++ more)).drive ≡ (history_of setup levels).drive
  -- and where it sees recessive only it keeps its drive for as long as it stays so
  pub stays : (setup : NodeSetup) (levels : List Level) (m : ℕ) → m ≤ stay_of setup levels
      → (history_of setup (levels ++ replicate m Recessive)).drive ≡ (history_of setup levels).drive
  -- it is quiet for no more than what a record can promise
  pub most : (setup : NodeSetup) (levels : List Level) → quiet_of setup levels ≤ most_quiet
  -- Two changes are as far apart as a start and its sample: the quanta of that part of a bit give room for one change, and there is one more. A node that leaves,
  -- with segments of a bit, changes its drive no more often.
  pub few_changes : (setup : NodeSetup) (levels : List Level) → (setup.until ≡ None) ⊎ AreLengths setup.segments → changes_of setup levels ≤ length levels / suc (least_way setup.segments) + 1
