-- The headline, of a world as its calls see it: what it knows and where its nodes are is as in the one-thread simulation.
-- Chandy and Misra 1979 show it of processes that send messages in order; the form here is this project's profile.
use Rattle.std.specs.Prelude.{◌≡◌, ℕ, ◌<◌, true, ◌⊎◌, List, ◌++◌, length, Contains, Some, slice_get}
use Rattle.wl_record_core.specs.declared.record.Record.{Record}
use Rattle.wl_record_core.specs.Truth.{AreTrueOf}
use Rattle.wl_replica.specs.State.{slots_of, state_of, states_joined}
use Rattle.wl_replica.specs.Slots.{HoldsTrue}
use Rattle.wl_replica.specs.Known.{horizon, wave_at}
use Rattle.wl_plan.specs.Simulation.{history, level, seen}
use Rattle.wl_plan.specs.PlanLine.{line_of, table_of}
use Rattle.wl_group.specs.Holds.{IsMember}
use Rattle.wl_group.specs.GroupValue.{GroupValue, quanta_at, members_now, may_run}
use Rattle.wl_world.specs.WorldValue.{WorldValue, IsWorldValue}
use Rattle.wl_world.specs.Ended.{AreAtEnd}

pub record IsFaithfulValue (v : WorldValue) : Type 0 where
  -- every emitted record is true, and what a group has emitted is among it
  pub records_true : AreTrueOf (length v.plan.nodes) (table_of v.plan) v.emitted
  pub told_emitted : (h : ℕ) (g : GroupValue) → slice_get v.groups h ≡ Some g → (r : Record) → Contains g.emitted r → Contains v.emitted r
  -- every group's replica holds what is true, and below each horizon its wave is the level of the one-thread simulation
  pub replicas_true : (h : ℕ) (g : GroupValue) → slice_get v.groups h ≡ Some g → HoldsTrue (length v.plan.nodes) (table_of v.plan) (slots_of g.replica)
  pub waves_agree : (h i t : ℕ) (g : GroupValue) → slice_get v.groups h ≡ Some g → i < length v.plan.nodes
      → t < horizon (slots_of g.replica) i → wave_at (slots_of g.replica) i t ≡ level (line_of v.plan) i t
  -- each node that has run k quanta in its group is where the simulation has it before the tick of its next one, by quanta at which
  -- the line at its place was known
  pub nodes_placed : (h i k : ℕ) (g : GroupValue) → slice_get v.groups h ≡ Some g → quanta_at g i ≡ Some k
      → IsMember (line_of v.plan) i (members_now g i) (slots_of g.replica)
      × (seen (line_of v.plan) i k ≡ (history (line_of v.plan) ((line_of v.plan).instant i k)).seen i)

-- the list of emitted records only grows
abbrev pub HasGrown : WorldValue → WorldValue → Type 0
HasGrown old new = (more : List Record) × (new.emitted ≡ old.emitted ++ more)

abbrev pub WorldsAreFaithful : Type 0
WorldsAreFaithful = (v : WorldValue) → IsWorldValue v → IsFaithfulValue v

-- ---- no stall

-- each group knows all that was emitted: taking it again would tell it nothing
abbrev pub KnowEmitted : WorldValue → Type 0
KnowEmitted v = (h : ℕ) (g : GroupValue) → slice_get v.groups h ≡ Some g → states_joined g.replica (state_of (length v.plan.nodes) v.emitted) ≡ g.replica

-- a node may run its next quantum in its group
pub record SomeMayRun (v : WorldValue) : Type 0 where
  pub place : ℕ
  pub node : ℕ
  pub group : GroupValue
  pub there : slice_get v.groups place ≡ Some group
  pub may : may_run group node ≡ true

-- where each group knows all that was emitted, some node can advance, or all are at the end
abbrev pub WorldsDoNotStall : Type 0
WorldsDoNotStall = (v : WorldValue) → IsWorldValue v → KnowEmitted v → SomeMayRun v ⊎ AreAtEnd v
