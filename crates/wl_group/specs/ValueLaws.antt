-- What holds of groups as their calls see them, beside the parties of the machine: they begin alike, take alike and run alike, and
-- every group stays where the one-thread simulation has it. Chandy and Misra 1979, for groups.
use Rattle.std.specs.Prelude.{◌≡◌, ℕ, ◌<◌, ◌≤◌, Bool, true, false, List, length, Some}
use Rattle.wl_record_core.specs.declared.record.Record.{Record}
use Rattle.wl_record_core.specs.Truth.{AreTrueOf}
use Rattle.wl_replica.specs.State.{State, state_of, slots_of, IsOfRecords}
use Rattle.wl_replica.specs.Slots.{HoldsTrue}
use Rattle.wl_plan.specs.declared.plan.Plan.{Plan}
use Rattle.wl_plan.specs.Limits.{most_quanta}
use Rattle.wl_plan.specs.PlanLine.{line_of, table_of}
use Rattle.wl_plan.specs.Simulation.{AreInside}
use Rattle.wl_plan.specs.Checked.{IsChecked}
use Rattle.wl_group.specs.Member.{member_after_quantum}
use Rattle.wl_group.specs.Party.{Party, initial_party, party_with}
use Rattle.wl_group.specs.Advanced.{can_advance, emission_of, run_next, Steps}
use Rattle.wl_group.specs.Running.{Ran, HasRunOn}
use Rattle.wl_group.specs.GroupValue.{GroupValue, IsGroupValue, Matches, quanta_at, belongs, members_now, initial_group, may_run, with_records, with_state, reads_at, emission_at, run_on}

pub record ValueLaws : Type 0 where
  -- a group begins with the nodes that were chosen, as the party does
  pub begins : (lists : Bool) (plan : Plan) → IsChecked plan → (chosen : ℕ → Bool) → IsGroupValue (initial_group lists plan chosen)
  pub begins_as : (lists : Bool) (plan : Plan) → IsChecked plan → (chosen : ℕ → Bool) → Matches (initial_party (line_of plan) chosen) (initial_group lists plan chosen)
  pub begins_with : (lists : Bool) (plan : Plan) (chosen : ℕ → Bool) → ((i : ℕ) → length plan.nodes ≤ i → chosen i ≡ false) → belongs (initial_group lists plan chosen) ≡ chosen
  -- every group is some party
  pub some_party : (g : GroupValue) → IsGroupValue g → (p : Party) × Matches p g
  -- a member is a node, and has run few quanta, all of them below the end
  pub quanta_few : (g : GroupValue) → IsGroupValue g → (i k : ℕ) → quanta_at g i ≡ Some k → (i < length g.plan.nodes) × (k ≤ most_quanta) × AreInside (line_of g.plan) i k
  -- it takes what is true and stays a group; so does its party
  pub joins : (g : GroupValue) → IsGroupValue g → (s : State) → s.nodes ≡ length g.plan.nodes → IsOfRecords s
      → HoldsTrue (length g.plan.nodes) (table_of g.plan) (slots_of s) → IsGroupValue (with_state s g)
  pub joins_as : (g : GroupValue) (p : Party) (s : State) (rs : List Record) → Matches p g → s ≡ state_of (length g.plan.nodes) rs → Matches (party_with rs p) (with_state s g)
  pub takes : (g : GroupValue) → IsGroupValue g → (rs : List Record) → AreTrueOf (length g.plan.nodes) (table_of g.plan) rs → IsGroupValue (with_records rs g)
  pub takes_as : (g : GroupValue) (p : Party) (rs : List Record) → Matches p g → Matches (party_with rs p) (with_records rs g)
  -- it may run a member's next quantum where its party may; what it emits is what the party emits, and true
  pub may_as : (g : GroupValue) (p : Party) (i : ℕ) → Matches p g → may_run g i ≡ can_advance (line_of g.plan) (belongs g) p i
  pub emits_as : (g : GroupValue) (p : Party) (i : ℕ) → Matches p g → belongs g i ≡ true → emission_at g i ≡ emission_of (line_of g.plan) p i
  pub emits_true : (g : GroupValue) → IsGroupValue g → (i : ℕ) → may_run g i ≡ true → AreTrueOf (length g.plan.nodes) (table_of g.plan) (emission_at g i)
  -- and after it both are where they were to come
  pub runs : (g : GroupValue) → IsGroupValue g → (i k : ℕ) → quanta_at g i ≡ Some k → may_run g i ≡ true → IsGroupValue (run_on i k g)
  pub runs_as : (g : GroupValue) → IsGroupValue g → (p : Party) (i k : ℕ) → Matches p g → quanta_at g i ≡ Some k → may_run g i ≡ true
      → Matches (run_next (line_of g.plan) i p) (run_on i k g)
  -- the member is then the machine's, one quantum on
  pub steps_to : (g : GroupValue) → IsGroupValue g → (i k : ℕ) → quanta_at g i ≡ Some k → may_run g i ≡ true
      → member_after_quantum (line_of g.plan) i (members_now g i) (reads_at g i) ≡ members_now (run_on i k g) i
  pub runs_with : (g : GroupValue) (i k : ℕ) → quanta_at g i ≡ Some k → belongs (run_on i k g) ≡ belongs g
  -- quanta that run one after another leave a group, and what they leave the party leaves as well
  pub all_run : (g h : GroupValue) (rs : List Record) → IsGroupValue g → Ran g rs h → HasRunOn g h rs
  pub all_run_as : (g h : GroupValue) (rs : List Record) → IsGroupValue g → (p : Party) → Matches p g → Ran g rs h
      → (q : Party) × Steps (line_of g.plan) (belongs g) p rs q × Matches q h
