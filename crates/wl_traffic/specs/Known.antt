-- Quanta that clocks know.
use Rattle.std.specs.Prelude.{ℕ, ◌<◌, ◌≤◌, length, List, Option, Some, None}
use Rattle.std.specs.List.{All}
use Rattle.wl_clock.specs.Timing.{Timing, tick_of}
use Rattle.wl_node.specs.declared.setup.Passed.{Passed}
use Rattle.wl_node.specs.Limits.{most_run_quanta}
use Rattle.wl_plan.specs.declared.plan.Plan.{Plan}
use Rattle.wl_plan.specs.Limits.{latest_end}
use Rattle.wl_plan.specs.PlanLine.{setup_at}
use Rattle.wl_serial.specs.declared.outcome.NodeOutcome.{NodeOutcome}
use Rattle.wl_serial.specs.Outcome.{node_outcome_of}
use Rattle.wl_traffic.specs.declared.entries.Entry.{Entry}
use Rattle.wl_traffic.specs.declared.queues.NodeQueue.{NodeQueue}

-- a clock knows the quantum, if there is one
abbrev pub IsKnownQuantum : Option ℕ → Type 0
IsKnownQuantum None = Unit {0}
IsKnownQuantum (Some quantum) = quantum ≤ most_run_quanta

-- and so that at which a frame was sent
abbrev pub IsKnown : Entry → Type 0
IsKnown e = IsKnownQuantum e.sent

-- the quantum begins before any plan ends, if there is one
abbrev pub IsSoonQuantum : Timing → Option ℕ → Type 0
IsSoonQuantum clock None = Unit {0}
IsSoonQuantum clock (Some quantum) = tick_of clock quantum < latest_end

-- and so that at which a frame was sent
abbrev pub IsSoon : Timing → Entry → Type 0
IsSoon clock e = IsSoonQuantum clock e.sent

-- A clock knows the quanta at which a node with it sampled, and they begin before any plan ends.
pub record AreKnown (clock : Timing) (node : NodeOutcome) : Type 0 where
  pub samples : All (λ s. s.0 ≤ most_run_quanta) node.samples
  pub soon : All (λ s. tick_of clock s.0 < latest_end) node.samples

-- of each node of a plan
abbrev pub QuantaAreKnown : Plan → Type 0
QuantaAreKnown plan = (i : ℕ) → i < length plan.nodes → AreKnown (setup_at plan i).clock (node_outcome_of plan i)

-- a clock knows the quanta of frames
abbrev pub AreKnownFrames : List Passed → Type 0
AreKnownFrames frames = All (λ p. p.quantum ≤ most_run_quanta) frames

abbrev pub FramesAreKnown : Plan → Type 0
FramesAreKnown plan = (i : ℕ) → i < length plan.nodes → AreKnownFrames (node_outcome_of plan i).frames

-- A clock knows the quanta of a node's frames, and of its eleventh recessive sample in a row and its last sample; those of frames that were sent begin before
-- any plan ends.
pub record IsKnownQueue (q : NodeQueue) : Type 0 where
  pub joined : IsKnownQuantum q.joined
  pub last : IsKnownQuantum q.last
  pub frames : AreKnownFrames q.frames
  pub entries : All IsKnown q.entries
  pub soon : All (IsSoon q.clock) q.entries
