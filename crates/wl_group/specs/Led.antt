-- What a group comes to by true records and its own quanta, in whatever order and number: that is where the machine leads a party with its members.
-- This project's profile, after Chandy and Misra 1979; for a reader who knows simulation: each process is a schedule of arrivals and safe events.
use Rattle.std.specs.Prelude.{◌≡◌, ℕ, ◌<◌, Bool, true, List, [], ◌∷◌, length, Contains}
use Rattle.wl_record_core.specs.declared.record.Record.{Record}
use Rattle.wl_record_core.specs.Truth.{IsTrueOf, AreTrueOf}
use Rattle.wl_replica.specs.State.{state_of}
use Rattle.wl_replica.specs.Slots.{HoldsTrue}
use Rattle.wl_plan.specs.Line.{Line}
use Rattle.wl_plan.specs.PlanLine.{line_of, table_of}
use Rattle.wl_plan.specs.Simulation.{changes}
use Rattle.wl_group.specs.Party.{Party, slots, initial_party, party_with}
use Rattle.wl_group.specs.Advanced.{can_advance, run_next}
use Rattle.wl_group.specs.GroupValue.{GroupValue, IsGroupValue, Matches, belongs, members_now, initial_group, with_records}
use Rattle.wl_group.specs.Running.{Ran}

-- One thing after another that happens to a party: it takes a record that is true, a member that may runs its next quantum, or it begins again.
pub data Led (l : Line) (belongs : ℕ → Bool) : Party → Party → Type 0 where
  none : {p : Party} → Led l belongs p p
  deliver : {p q : Party} (r : Record) → IsTrueOf l.nodes (changes l) r → Led l belongs (party_with (r ∷ []) p) q → Led l belongs p q
  advance : {p q : Party} (i : ℕ) → i < l.nodes → can_advance l belongs p i ≡ true → Led l belongs (run_next l i p) q → Led l belongs p q
  restart : {p q : Party} → Led l belongs (initial_party l belongs) q → Led l belongs p q

-- The members of the party are the group's. What the group knows, some records say that the party has taken, and those that it emitted the party
-- emitted. All that the party knows is true.
pub record Covers (p : Party) (g : GroupValue) : Type 0 where
  pub members : (i : ℕ) → belongs g i ≡ true → p.members i ≡ members_now g i
  pub known : List Record
  pub replica : g.replica ≡ state_of (length g.plan.nodes) known
  pub taken : (r : Record) → Contains known r → Contains p.taken r
  pub emitted : (r : Record) → Contains g.emitted r → Contains p.emitted r
  pub truth : HoldsTrue (length g.plan.nodes) (table_of g.plan) (slots p)

-- Each party that covers the old group is led to one that covers the new group, which has the same plan and members.
pub record LedTo (old new : GroupValue) : Type 0 where
  pub plan : new.plan ≡ old.plan
  pub lists : new.lists ≡ old.lists
  pub members : belongs new ≡ belongs old
  pub led : (p : Party) → Covers p old → (q : Party) × Led (line_of old.plan) (belongs old) p q × Covers q new

pub record LedLaws : Type 0 where
  -- the party that a group is covers it
  pub matched : (g : GroupValue) → IsGroupValue g → (p : Party) → Matches p g → Covers p g
  -- nothing happens, or one thing after another
  pub stays : (g : GroupValue) → LedTo g g
  pub joined : (f g h : GroupValue) → LedTo f g → LedTo g h → LedTo f h
  -- records that are true are taken, members run, or the group begins again
  pub takes : (g : GroupValue) (rs : List Record) → AreTrueOf (length g.plan.nodes) (table_of g.plan) rs → LedTo g (with_records rs g)
  pub runs : (g h : GroupValue) (rs : List Record) → IsGroupValue g → Ran g rs h → LedTo g h
  pub begins : (g : GroupValue) → IsGroupValue g → LedTo g (initial_group g.lists g.plan (belongs g))
