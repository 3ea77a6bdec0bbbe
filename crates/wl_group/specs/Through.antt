-- Quanta of a member in a row, through one stretch of the line after another. This project's profile, after Chandy and Misra 1979.
use Rattle.std.specs.Prelude.{◌≡◌, ℕ, suc, ◌+◌, ◌-◌, ◌<◌, ◌≤◌, All, Bool, List, length, slice_index_or}
use Rattle.wl_level.specs.Levels.{level_of}
use Rattle.wl_record_core.specs.declared.record.Record.{Record}
use Rattle.wl_replica.specs.State.{Fits}
use Rattle.wl_node.specs.Reached.{keeps_lists, quanta_of}
use Rattle.wl_plan.specs.declared.plan.Plan.{Plan}
use Rattle.wl_plan.specs.Line.{Line, found}
use Rattle.wl_plan.specs.PlanLine.{line_of}
use Rattle.wl_plan.specs.Simulation.{level, seen}
use Rattle.wl_pulse.specs.declared.pulse.Pulse.{Pulse}
use Rattle.wl_group.specs.declared.cell.Cell.{Cell}
use Rattle.wl_group.specs.Heard.{IsStretch, no_stretch}
use Rattle.wl_group.specs.Kept.{IsCell}
use Rattle.wl_group.specs.Member.{emission, turns}
use Rattle.wl_group.specs.GroupValue.{member_after}

-- what node i says at its quantum k in the one-thread simulation
abbrev pub spoken : Line → ℕ → ℕ → List Record
spoken l i k = emission l i (member_after l i k) (level_of (found l (level l) i (l.instant i k)))

-- whether its drive turns then
abbrev pub turned_at : Line → ℕ → ℕ → Bool
turned_at l i k = turns l i (member_after l i k) (level_of (found l (level l) i (l.instant i k)))

-- what node i of a cell says after its last quantum, and whether its drive turned then
abbrev pub said_last : Plan → ℕ → Cell → List Record
said_last plan i cell = spoken (line_of plan) i (quanta_of cell.node - 1)

abbrev pub turned_last : Plan → ℕ → Cell → Bool
turned_last plan i cell = turned_at (line_of plan) i (quanta_of cell.node - 1)

-- The first n of a list are stretches of the line at node j, one after another: the first has tick t.
pub record AreAhead (l : Line) (j t : ℕ) (ss : List Pulse) (n : ℕ) : Type 0 where
  pub few : n ≤ length ss
  pub each : (m : ℕ) → m < n → IsStretch l j (slice_index_or ss m no_stretch)
  pub from : 0 < n → (slice_index_or ss 0 no_stretch).from ≤ t
  pub until : 0 < n → t < (slice_index_or ss 0 no_stretch).until
  pub joined : (m : ℕ) → suc m < n → (slice_index_or ss (suc m) no_stretch).from ≤ (slice_index_or ss m no_stretch).until

-- Up to quantum n after the next one node i of a cell would drive what it drives now.
pub record Stays (plan : Plan) (i k n : ℕ) : Type 0 where
  pub drive : (line_of plan).drives i (seen (line_of plan) i (k + n)) ≡ (line_of plan).drives i (seen (line_of plan) i k)
  pub changed : (member_after (line_of plan) i (k + n)).changed ≡ (member_after (line_of plan) i k).changed

-- One cell and a later one: node i of the plan ran n quanta and one, all before a tick, and its drive turned at the last if at any; and what it said of them.
pub record HasGoneOver (plan : Plan) (i end : ℕ) (old new : Cell) (said : List Record) : Type 0 where
  pub n : ℕ
  pub quanta : quanta_of new.node ≡ quanta_of old.node + suc n
  pub keeps : keeps_lists new.node ≡ keeps_lists old.node
  pub early : (j : ℕ) → j ≤ n → (line_of plan).instant i (quanta_of old.node + j) < end
  pub stays : Stays plan i (quanta_of old.node) n
  pub after : IsCell plan i new
  pub says : said ≡ spoken (line_of plan) i (quanta_of old.node + n)

-- The same before it said anything: whether its drive turned at the last.
pub record HasGoneIn (plan : Plan) (i end : ℕ) (old new : Cell) (turned : Bool) : Type 0 where
  pub over : HasGoneOver plan i end old new (said_last plan i new)
  pub turned_is : turned ≡ turned_last plan i new

-- What it may say of quanta before a tick fits a replica of so many nodes.
abbrev pub MaySayOver : Plan → ℕ → ℕ → Cell → ℕ → Type 0
MaySayOver plan i end cell nodes =
    (n : ℕ) → ((j : ℕ) → j ≤ n → (line_of plan).instant i (quanta_of cell.node + j) < end) → Stays plan i (quanta_of cell.node) n
    → All (Fits nodes) (spoken (line_of plan) i (quanta_of cell.node + n))
