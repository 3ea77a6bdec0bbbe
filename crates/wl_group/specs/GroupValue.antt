-- A group that runs, as the contracts of its calls see it, and when it is a group of the machine. This project's profile.
-- A node's quanta tell all of it: it has seen what the one-thread simulation shows its node at as many, so its value needs no history.
use Rattle.std.specs.Prelude.{◌≡◌, ℕ, suc, ◌==◌, ◌&&◌, Bool, true, List, [], ◌++◌, length, map, Option, None, Some, is_some, slice_index_or, slice_set, nat_le, if◌then◌else◌}
use Rattle.wl_level.specs.declared.Level.{Level}
use Rattle.std.specs.List.{list_any, range_with_len}
use Rattle.wl_record_core.specs.declared.record.Record.{Record}
use Rattle.wl_record_core.specs.Truth.{count_below, AreTrueOf}
use Rattle.wl_replica.specs.State.{State, state_of, slots_of, state_with_records, states_joined, IsOfRecords}
use Rattle.wl_plan.specs.declared.plan.Plan.{Plan}
use Rattle.wl_plan.specs.Line.{Line}
use Rattle.wl_plan.specs.PlanLine.{line_of, table_of}
use Rattle.wl_plan.specs.Simulation.{seen, changes}
use Rattle.wl_plan.specs.Checked.{IsChecked}
use Rattle.wl_group.specs.Member.{Member, fresh, next_tick, can_run, emission, level_read}
use Rattle.wl_group.specs.Party.{Party, initial_silences}
use Rattle.wl_group.specs.Holds.{IsGroup}

pub record GroupValue : Type 0 where
  pub plan : Plan
  -- whether its nodes list their samples and phase errors, or only count them
  pub lists : Bool
  -- for each node of the plan: how many quanta it has run, where it is a member
  pub ran : List (Option ℕ)
  -- what it knows of all nodes
  pub replica : State
  -- the records that its advances have emitted since it began or began again, the oldest first
  pub emitted : List Record

-- how many quanta node i has run, if it is a member
abbrev pub quanta_at : GroupValue → ℕ → Option ℕ
quanta_at g i = slice_index_or g.ran i None

-- whether node i is a member; a number that is no node is not
abbrev pub belongs : GroupValue → ℕ → Bool
belongs g i = is_some (quanta_at g i)

-- where the simulation has node i after k quanta: what it has seen, and how often it has changed by its next one
abbrev pub member_after : Line → ℕ → ℕ → Member
member_after l i k = record { saw = seen l i k; changed = count_below (l.instant i k) (changes l i) }

abbrev pub member_at : Line → ℕ → Option ℕ → Member
member_at l i None = fresh
member_at l i (Some k) = member_after l i k

-- the members, as the machine has them
abbrev pub members_now : GroupValue → ℕ → Member
members_now g i = member_at (line_of g.plan) i (quanta_at g i)

-- What holds of every group: it knows what some records say, all of it is true of its plan, each member is where the simulation has it, by quanta at which
-- the line at its place was known, and all that it emitted is true.
pub record IsGroupValue (g : GroupValue) : Type 0 where
  pub checked : IsChecked g.plan
  pub one_each : length g.ran ≡ length g.plan.nodes
  pub of_all : g.replica.nodes ≡ length g.plan.nodes
  pub of_records : IsOfRecords g.replica
  pub holds : IsGroup (line_of g.plan) (belongs g) (members_now g) (slots_of g.replica)
  pub emitted_true : AreTrueOf (length g.plan.nodes) (table_of g.plan) g.emitted

-- The group is this party of the machine: it knows what the party has taken, and its members are the party's.
pub record Matches (p : Party) (g : GroupValue) : Type 0 where
  pub replica : g.replica ≡ state_of (length g.plan.nodes) p.taken
  pub members : (i : ℕ) → belongs g i ≡ true → p.members i ≡ members_now g i
  pub emitted : g.emitted ≡ p.emitted

-- whether a list names node i
abbrev pub names : List ℕ → ℕ → Bool
names members i = list_any (λ m. m == i) members

-- a group that begins, or begins again; whether its nodes list their samples and phase errors
abbrev pub initial_group : Bool → Plan → (ℕ → Bool) → GroupValue
initial_group lists plan chosen = record {
  plan = plan;
  lists = lists;
  ran = map (λ i. if chosen i then Some 0 else None) (range_with_len 0 (length plan.nodes));
  replica = state_of (length plan.nodes) (initial_silences (line_of plan) chosen (length plan.nodes));
  emitted = [];
}

-- whether node i may run its next quantum, for any number
abbrev pub may_run : GroupValue → ℕ → Bool
may_run g i = belongs g i && can_run (line_of g.plan) i (members_now g i) (slots_of g.replica)

-- whether node i is a member whose next quantum is not below the end, for any number
abbrev pub has_ended : GroupValue → ℕ → Bool
has_ended g i = belongs g i && nat_le g.plan.end (next_tick (line_of g.plan) i (members_now g i))

-- the group with these records taken, and with what another knows
abbrev pub with_records : List Record → GroupValue → GroupValue
with_records rs g = record { plan = g.plan; lists = g.lists; ran = g.ran; replica = state_with_records g.replica rs; emitted = g.emitted }

abbrev pub with_state : State → GroupValue → GroupValue
with_state s g = record { plan = g.plan; lists = g.lists; ran = g.ran; replica = states_joined g.replica s; emitted = g.emitted }

-- ---- its next quanta

-- the level that node i reads at its next quantum, and what it emits then
abbrev pub reads_at : GroupValue → ℕ → Level
reads_at g i = level_read (line_of g.plan) i (members_now g i) (slots_of g.replica)

abbrev pub emission_at : GroupValue → ℕ → List Record
emission_at g i = emission (line_of g.plan) i (members_now g i) (reads_at g i)

-- the group after node i, which has run k quanta, ran its next one
abbrev pub run_on : ℕ → ℕ → GroupValue → GroupValue
run_on i k g = record {
  plan = g.plan;
  lists = g.lists;
  ran = slice_set g.ran i (Some (suc k));
  replica = state_with_records g.replica (emission_at g i);
  emitted = g.emitted ++ emission_at g i;
}
