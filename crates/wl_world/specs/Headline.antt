-- The headline: whatever the groups do, in whatever order records come, all is as in the one-thread simulation; and no stall.
-- Chandy and Misra 1979 show both of processes that send messages in order; the form here is this project's profile.
use Rattle.std.specs.Prelude.{◌≡◌, ℕ, ◌<◌, ◌≤◌, ◌⊎◌, true, List, ◌++◌, length, Contains}
use Rattle.wl_level.specs.Levels.{level_of}
use Rattle.wl_record_core.specs.declared.record.Record.{Record}
use Rattle.wl_record_core.specs.Truth.{AreTrueOf}
use Rattle.wl_lattice.specs.Maps.{SameMembers}
use Rattle.wl_replica.specs.State.{state_of, states_joined, slots_of}
use Rattle.wl_replica.specs.Laws.{IsJoining}
use Rattle.wl_replica.specs.Slots.{Contents, HoldsTrue}
use Rattle.wl_replica.specs.Known.{horizon, wave_at}
use Rattle.wl_world.specs.declared.events.Event.{Event}
use Rattle.wl_world.specs.declared.events.Event.TheVariants.{Advance}
use Rattle.wl_plan.specs.Line.{Line, found}
use Rattle.wl_plan.specs.Simulation.{history, level, changes}
use Rattle.wl_plan.specs.Sound.{IsSound}
use Rattle.wl_group.specs.Member.{Member, next_tick, level_read}
use Rattle.wl_group.specs.Party.{Party, slots}
use Rattle.wl_group.specs.Holds.{IsMember}
use Rattle.wl_world.specs.Scene.{Cast, Scene, start, possible, run}

-- ---- of replicas alone, whatever the records say; the replica of a group is the state of all that the group has taken

-- who took the same records knows the same: in any order, however often, in this world or another
abbrev pub SameRecordsSameReplica : Type 0
SameRecordsSameReplica = (nodes : ℕ) (p q : Party) → SameMembers p.taken q.taken → state_of nodes p.taken ≡ state_of nodes q.taken

-- a join counts as all that the other took
abbrev pub JoinCountsAll : Type 0
JoinCountsAll = (nodes : ℕ) (p q : Party) → states_joined (state_of nodes p.taken) (state_of nodes q.taken) ≡ state_of nodes (p.taken ++ q.taken)

-- what a group knows, slot by slot, is what its replica holds
abbrev pub ReplicaHasSlots : Type 0
ReplicaHasSlots = (nodes : ℕ) (p : Party) → slots_of (state_of nodes p.taken) ≡ slots p

-- ---- of a scene that some events led to

-- member i of group h
abbrev pub member_of : Scene → ℕ → ℕ → Member
member_of w h i = (w.parties h).members i

-- What holds of every such scene.
pub record IsFaithful (l : Line) (c : Cast) (w : Scene) : Type 0 where
  -- every emitted record is true, and what a group has emitted is among it
  pub records_true : AreTrueOf l.nodes (changes l) w.emitted
  pub told_emitted : (h : ℕ) → h < c.groups → (r : Record) → Contains (w.parties h).emitted r → Contains w.emitted r
  -- every group's replica holds what is true, and below each horizon its wave is the level of the one-thread simulation
  pub replicas_true : (h : ℕ) → h < c.groups → HoldsTrue l.nodes (changes l) (slots (w.parties h))
  pub waves_agree : (h i t : ℕ) → h < c.groups → i < l.nodes → t < horizon (slots (w.parties h)) i → wave_at (slots (w.parties h)) i t ≡ level l i t
  -- each node of a group is where the simulation has it, by quanta at which the line at its place was known
  pub nodes_placed : (h i : ℕ) → h < c.groups → i < l.nodes → c.group_of i ≡ h → IsMember l i (member_of w h i) (slots (w.parties h))
  -- it has seen exactly what its node has seen in the simulation before the tick of its next quantum
  pub nodes_agree : (h i : ℕ) → h < c.groups → i < l.nodes → c.group_of i ≡ h
      → (member_of w h i).saw ≡ (history l (next_tick l i (member_of w h i))).seen i
  -- where that is the end or later it has seen all, and has made all its changes
  pub nodes_ended : (h i : ℕ) → h < c.groups → i < l.nodes → c.group_of i ≡ h → l.stop ≤ next_tick l i (member_of w h i)
      → ((member_of w h i).saw ≡ (history l l.stop).seen i) × ((member_of w h i).changed ≡ length (changes l i))
  -- a quantum that may run reads the line as it is there
  pub reads_agree : (h i : ℕ) → possible l c w (Advance h i) ≡ true
      → level_read l i (member_of w h i) (slots (w.parties h)) ≡ level_of (found l (level l) i (next_tick l i (member_of w h i)))

-- the list of emitted records only grows
abbrev pub Grows : Scene → Scene → Type 0
Grows w x = (more : List Record) × (x.emitted ≡ w.emitted ++ more)

-- The headline, for every sound line, every cast and every list of events.
pub record Headline : Type 0 where
  pub faithful : (l : Line) → IsSound l → (c : Cast) (events : List Event) → IsFaithful l c (run l c events (start l c))
  pub grows : (l : Line) (c : Cast) (events : List Event) (w : Scene) → Grows w (run l c events w)
  pub equal : SameRecordsSameReplica
  -- joining is commutative, associative and idempotent
  pub joining : IsJoining
  pub counts_all : JoinCountsAll
  pub has_slots : ReplicaHasSlots
  -- and of every replica that holds what is true, whatever way the records came
  pub replicas_agree : (l : Line) → IsSound l → (w : Contents) → HoldsTrue l.nodes (changes l) w → (i t : ℕ) → i < l.nodes → t < horizon w i → wave_at w i t ≡ level l i t

-- ---- no stall

-- group h has taken every emitted record
abbrev pub HasAll : Scene → ℕ → Type 0
HasAll w h = (r : Record) → Contains w.emitted r → Contains (w.parties h).taken r

-- each node's next quantum is at the end or later
abbrev pub AllAtEnd : Line → Cast → Scene → Type 0
AllAtEnd l c w = (i : ℕ) → i < l.nodes → l.stop ≤ next_tick l i (member_of w (c.group_of i) i)

-- Where each group has taken all that was emitted, some node can advance, or all are at the end.
abbrev pub NoStall : Type 0
NoStall = (l : Line) → IsSound l → (c : Cast) → ((i : ℕ) → i < l.nodes → c.group_of i < c.groups)
    → (events : List Event) → ((h : ℕ) → h < c.groups → HasAll (run l c events (start l c)) h)
    → ((i : ℕ) × (i < l.nodes) × (possible l c (run l c events (start l c)) (Advance (c.group_of i) i) ≡ true))
    ⊎ AllAtEnd l c (run l c events (start l c))
