-- What a place finds: which of a node's changes have come, and how long the line stays as it is. This project's profile.
use Rattle.std.specs.Prelude.{◌≡◌, ℕ, suc, ◌+◌, ◌-◌, ◌<◌, ◌≤◌, ◌&&◌, Bool, false, List, [], Option, length, nat_le, slice_index_or}
use Rattle.wl_topology.specs.Driven.{driven}
use Rattle.wl_topology.specs.Limits.{most_places}
use Rattle.wl_record_core.specs.declared.record.Record.{Record}
use Rattle.wl_replica.specs.Slots.{Contents}
use Rattle.wl_replica.specs.Known.{tick_in, after_edges, run_length}
use Rattle.wl_replica.specs.State.{State, slots_of}
use Rattle.wl_plan.specs.declared.plan.Plan.{Plan}
use Rattle.wl_plan.specs.PlanLine.{line_of, disturbed}
use Rattle.wl_plan.specs.Line.{Line, found}
use Rattle.wl_plan.specs.Simulation.{level}
use Rattle.wl_pulse.specs.declared.pulse.Pulse.{Pulse}
use Rattle.wl_pulse.specs.Pulses.{IsPulse}
use Rattle.wl_group.specs.declared.cell.Cell.{Cell}
use Rattle.wl_group.specs.declared.heard.Source.{Source}
use Rattle.wl_group.specs.Kept.{IsKept}

-- So many of the first m changes of node i, and no more, are not after a tick.
pub record AreNotAfter (w : Contents) (i m tick count : ℕ) : Type 0 where
  pub few : count ≤ m
  pub come : 0 < count → tick_in (w.edge i (count - 1)) ≤ tick
  pub others : count < m → tick < tick_in (w.edge i count)

-- the tick of a node's change of this number, as a replica has it
abbrev pub edge_tick : State → ℕ → ℕ → ℕ
edge_tick replica node count = tick_in ((slots_of replica).edge node count)

-- whether node i drives dominant
abbrev pub IsDrive : Line → ℕ → Pulse → Type 0
IsDrive l i s = IsPulse (level l i) s

-- whether node j finds node i alone dominant
abbrev pub IsHeardOf : Line → ℕ → ℕ → Pulse → Type 0
IsHeardOf l i j s = IsPulse (λ t. nat_le (l.delay i j) t && level l i (t - l.delay i j)) s

-- the last of node i's changes that are known has come to node j by a tick
abbrev pub HasComeBy : Line → Contents → ℕ → ℕ → ℕ → Type 0
HasComeBy l w i j tick = after_edges (w.edge i) (run_length w i) + l.delay i j ≤ suc tick

-- whether it finds some node dominant, without disturbances
abbrev pub IsDriven : Line → ℕ → Pulse → Type 0
IsDriven l j s = IsPulse (driven l.nodes l.delay (level l) j) s

-- whether it finds the line dominant: a stretch of it
abbrev pub IsStretch : Line → ℕ → Pulse → Type 0
IsStretch l j s = IsPulse (found l (level l) j) s

-- whether it finds a disturbance
abbrev pub IsDisturbed : Plan → ℕ → Pulse → Type 0
IsDisturbed plan j s = IsPulse (disturbed plan j) s

-- a stretch of no tick
abbrev pub no_stretch : Pulse
no_stretch = record { from = 0; until = 0; dominant = false }

-- of each node its own
abbrev pub AreStretches : Line → List Pulse → Type 0
AreStretches l heard = (j : ℕ) → IsStretch l j (slice_index_or heard j no_stretch)

abbrev pub AreDisturbed : Plan → List Pulse → Type 0
AreDisturbed plan disturbances = (j : ℕ) → IsDisturbed plan j (slice_index_or disturbances j no_stretch)

-- what is kept of a node that was not asked
abbrev pub no_source : Source
no_source = record { heard = no_stretch; come = 0 }

-- what place j keeps of each node is what it finds of it alone
abbrev pub AreHeardOf : Line → ℕ → List Source → Type 0
AreHeardOf l j sources = (i : ℕ) → IsHeardOf l i j (slice_index_or sources i no_source).heard

-- What each place keeps of the nodes.
pub record ArePlaceSources (l : Line) (places : List (List Source)) : Type 0 where
  pub count : length places ≡ most_places
  pub each : (j : ℕ) → AreHeardOf l j (slice_index_or places j [])

-- What a group keeps, with what its members found last.
pub record IsKeptWithStretches (plan : Plan) (lists : Bool) (cells : List (Option Cell)) (replica : State) (emitted : List Record) (heard pulses : List Pulse) (places : List (List Source)) : Type 0 where
  pub kept : IsKept plan lists cells replica emitted
  pub stretches : AreStretches (line_of plan) heard
  pub disturbances : AreDisturbed plan pulses
  pub sources : ArePlaceSources (line_of plan) places
