-- A group begins, takes and runs as the party that it is, and stays where the one-thread simulation has it.
use Rattle.std.proofs.Common.{◌≡◌, ℕ, zero, suc, ◌<◌, ◌≤◌, ◌&&◌, Bool, true, false, inl, inr, List, [], ◌∷◌, ◌++◌, length, map, refl, sym, ◌∙◌, ap, subst, arith, length-append, append-nil, append_assoc, add-one, Some, None, Option, is_some, if◌then◌else◌}
use Rattle.std.specs.Prelude.{All}
use Rattle.std.specs.List.{range_with_len}
use Rattle.std.proofs.lemmas.List.Elements.{All-append}
use Rattle.std.proofs.Math.ListN.{length-set}
use Rattle.std.proofs.lemmas.Bool.{cases_lt, cases_eq, cases_Bool, and_parts, false≢true}
use Rattle.std.proofs.lemmas.List.{get_or-set_same, get_or-set_other, get_or_past}
use Rattle.std.proofs.lemmas.List.FromFn.{length-map-range_with_len, get_or-map-range_with_len}
use Rattle.wl_record_core.specs.declared.record.Record.{Record}
use Rattle.wl_record_core.specs.Truth.{AreTrueOf}
use Rattle.wl_record_core.specs.TableLaws.{TableLaws}
use Rattle.wl_replica.specs.State.{State, state_of, slots_of, state_with_records, states_joined, Fits, IsOfRecords}
use Rattle.wl_replica.specs.Slots.{Contents, slots_joined, slots_of_records, HoldsTrue}
use Rattle.wl_replica.specs.KnownLaws.{SlotsLaws, KnownLaws}
use Rattle.wl_replica.specs.SlotsOf.{SlotsOfStates}
use Rattle.wl_replica.specs.Laws.{TakingIsJoining, IsJoining}
use Rattle.wl_plan.specs.declared.plan.Plan.{Plan}
use Rattle.wl_plan.specs.Limits.{most_quanta}
use Rattle.wl_plan.specs.Line.{Line}
use Rattle.wl_plan.specs.PlanLine.{line_of, table_of}
use Rattle.wl_plan.specs.Simulation.{seen, AreInside}
use Rattle.wl_plan.specs.SimulationLaws.{SimulationLaws}
use Rattle.wl_plan.specs.Checked.{IsChecked, CheckedIsSound}
use Rattle.wl_group.specs.Member.{Member, fresh, can_run, member_after_quantum, emission, level_read}
use Rattle.wl_group.specs.Party.{Party, slots, initial_silences, initial_party, party_with}
use Rattle.wl_group.specs.Advanced.{can_advance, emission_of, run_next, Steps}
use Rattle.wl_group.specs.Advanced as steps_of
use Rattle.wl_group.specs.Running.{Ran, HasRunOn}
use Rattle.wl_group.specs.Running as runs_of
use Rattle.wl_group.specs.Holds.{IsMember, IsGroup}
use Rattle.wl_group.specs.GroupLaws.{GroupLaws}
use Rattle.wl_group.specs.GroupValue.{GroupValue, IsGroupValue, Matches, quanta_at, belongs, member_after, member_at, members_now, initial_group, may_run, with_records, with_state, reads_at, emission_at, run_on}
use Rattle.wl_group.specs.ValueLaws.{ValueLaws}
use Rattle.wl_group.proofs.RunProofs.{true_fits}
use Rattle.wl_group.proofs.Facts.{put_at, true_append, is_there}
use Rattle.wl_group.proofs.GroupProofs.{group_laws, group_joins, member_keeps, member_joined}

-- ---- the list of quanta

abbrev first_if : Bool → Option ℕ
first_if b = if b then Some 0 else None

is_some_first : (b : Bool) → is_some (first_if b) ≡ b
is_some_first true = refl
is_some_first false = refl

begun_inside : (lists : Bool) (plan : Plan) (chosen : ℕ → Bool) (i : ℕ) → i < length plan.nodes → quanta_at (initial_group lists plan chosen) i ≡ first_if (chosen i)
begun_inside lists plan chosen i b = get_or-map-range_with_len (λ j. first_if (chosen j)) 0 (length plan.nodes) i i None b (omega arith)

begun_outside : (lists : Bool) (plan : Plan) (chosen : ℕ → Bool) (i : ℕ) → length plan.nodes ≤ i → quanta_at (initial_group lists plan chosen) i ≡ None
begun_outside lists plan chosen i b =
    let e = length-map-range_with_len (λ j. first_if (chosen j)) 0 (length plan.nodes) in
    get_or_past (map (λ j. first_if (chosen j)) (range_with_len 0 (length plan.nodes))) i None (omega arith)

begins_at : (lists : Bool) (plan : Plan) (chosen : ℕ → Bool) → ((i : ℕ) → length plan.nodes ≤ i → chosen i ≡ false) → (i : ℕ) → belongs (initial_group lists plan chosen) i ≡ chosen i
begins_at lists plan chosen past i = elim (cases_lt i (length plan.nodes)) [
  | inl inside ↦ ap is_some (begun_inside lists plan chosen i inside) ∙ is_some_first (chosen i)
  | inr outside ↦ ap is_some (begun_outside lists plan chosen i outside) ∙ sym (past i outside)
]

begins_with : (lists : Bool) (plan : Plan) (chosen : ℕ → Bool) → ((i : ℕ) → length plan.nodes ≤ i → chosen i ≡ false) → belongs (initial_group lists plan chosen) ≡ chosen
begins_with lists plan chosen past = λ k i. begins_at lists plan chosen past i k

-- who belongs to a group that begins was chosen, and is a node
was_chosen : (lists : Bool) (plan : Plan) (chosen : ℕ → Bool) (i : ℕ) → belongs (initial_group lists plan chosen) i ≡ true → (i < length plan.nodes) × (chosen i ≡ true)
was_chosen lists plan chosen i h = elim (cases_lt i (length plan.nodes)) [
  | inl inside ↦ (inside, sym (is_some_first (chosen i)) ∙ (sym (ap is_some (begun_inside lists plan chosen i inside)) ∙ h))
  | inr outside ↦ absurd (false≢true (sym (ap is_some (begun_outside lists plan chosen i outside)) ∙ h))
]

at_first : (lists : Bool) (plan : Plan) (chosen : ℕ → Bool) (i : ℕ) → belongs (initial_group lists plan chosen) i ≡ true → quanta_at (initial_group lists plan chosen) i ≡ Some 0
at_first lists plan chosen i h =
    let c = was_chosen lists plan chosen i h in
    begun_inside lists plan chosen i c.0 ∙ ap first_if c.1

-- a place of the list holds something only inside it
member_inside : (g : GroupValue) (i k : ℕ) → quanta_at g i ≡ Some k → i < length g.ran
member_inside g i k e = elim (cases_lt i (length g.ran)) [
  | inl inside ↦ inside
  | inr outside ↦ absurd (false≢true (sym (ap is_some (get_or_past g.ran i None outside)) ∙ ap is_some e))
]

-- one more quantum, in its place and in another
on_here : (g : GroupValue) (i k : ℕ) → quanta_at g i ≡ Some k → quanta_at (run_on i k g) i ≡ Some (suc k)
on_here g i k e = get_or-set_same g.ran i (Some (suc k)) None (member_inside g i k e)

on_else : (g : GroupValue) (i k j : ℕ) → (j ≡ i → ⊥) → quanta_at (run_on i k g) j ≡ quanta_at g j
on_else g i k j n = get_or-set_other g.ran i j (Some (suc k)) None n

runs_at : (g : GroupValue) (i k : ℕ) → quanta_at g i ≡ Some k → (j : ℕ) → belongs (run_on i k g) j ≡ belongs g j
runs_at g i k e j = elim (cases_eq j i) [
  | inl same ↦ ap (belongs (run_on i k g)) same ∙ (ap is_some (on_here g i k e) ∙ (sym (ap is_some e) ∙ ap (belongs g) (sym same)))
  | inr other ↦ ap is_some (on_else g i k j other)
]

runs_with : (g : GroupValue) (i k : ℕ) → quanta_at g i ≡ Some k → belongs (run_on i k g) ≡ belongs g
runs_with g i k e = λ d j. runs_at g i k e j d

-- ---- members

-- a member is the one after its number of quanta
member_is : (l : Line) (i : ℕ) (m : Member) (w : Contents) → IsMember l i m w → m ≡ member_after l i (length m.saw)
member_is l i m w h = λ d. record { saw = h.state d; changed = h.count d }

nothing_seen : (l : Line) (i : ℕ) → seen l i 0 ≡ []
unfolding seen
nothing_seen l i = refl

same_member : (m n : Member) → m.saw ≡ n.saw → m.changed ≡ n.changed → m ≡ n
same_member m n e f = λ d. record { saw = e d; changed = f d }

module _ (tables : TableLaws) (joins : SlotsLaws) (knows : KnownLaws) (sims : SimulationLaws) (states : SlotsOfStates) (takings : TakingIsJoining) (joinings : IsJoining) (sound : CheckedIsSound) where
  groups : GroupLaws
  groups = group_laws tables joins knows sims

  -- before its first quantum
  fresh_is : (plan : Plan) → IsChecked plan → (i : ℕ) → i < length plan.nodes → fresh ≡ member_after (line_of plan) i 0
  fresh_is plan c i b =
      same_member fresh (member_after (line_of plan) i 0) (sym (nothing_seen (line_of plan) i)) (sym (sims.none_at_first (line_of plan) i (sound plan c).causal b))

  begun_member : (lists : Bool) (plan : Plan) → IsChecked plan → (chosen : ℕ → Bool) (i : ℕ) → belongs (initial_group lists plan chosen) i ≡ true → fresh ≡ members_now (initial_group lists plan chosen) i
  begun_member lists plan c chosen i h =
      fresh_is plan c i (was_chosen lists plan chosen i h).0 ∙ sym (ap (member_at (line_of plan) i) (at_first lists plan chosen i h))

  begins_as : (lists : Bool) (plan : Plan) → IsChecked plan → (chosen : ℕ → Bool) → Matches (initial_party (line_of plan) chosen) (initial_group lists plan chosen)
  begins_as lists plan c chosen = record { replica = refl; members = λ i h. begun_member lists plan c chosen i h; emitted = refl }

  begun_slots : (lists : Bool) (plan : Plan) (chosen : ℕ → Bool) → slots_of (initial_group lists plan chosen).replica ≡ slots (initial_party (line_of plan) chosen)
  begun_slots lists plan chosen = states.records (length plan.nodes) (initial_silences (line_of plan) chosen (length plan.nodes))

  begins : (lists : Bool) (plan : Plan) → IsChecked plan → (chosen : ℕ → Bool) → IsGroupValue (initial_group lists plan chosen)
  begins lists plan c chosen =
      let h = groups.begun_holds (line_of plan) (sound plan c) chosen in
      record {
        checked = c;
        one_each = length-map-range_with_len (λ j. first_if (chosen j)) 0 (length plan.nodes);
        of_all = refl;
        of_records = (
          initial_silences (line_of plan) chosen (length plan.nodes),
          true_fits (length plan.nodes) (table_of plan) (initial_silences (line_of plan) chosen (length plan.nodes)) (groups.firsts_true (line_of plan) (sound plan c) chosen),
          refl,
        );
        holds = subst (IsGroup (line_of plan) (belongs (initial_group lists plan chosen)) (members_now (initial_group lists plan chosen))) (sym (begun_slots lists plan chosen)) (record {
          truth = h.truth;
          each = λ i b o. subst (λ m. IsMember (line_of plan) i m (slots (initial_party (line_of plan) chosen))) (begun_member lists plan c chosen i o)
              (h.each i b (was_chosen lists plan chosen i o).1);
        });
        emitted_true = tt;
      }

  -- ---- a member of a group

  module _ (g : GroupValue) (v : IsGroupValue g) (i k : ℕ) (e : quanta_at g i ≡ Some k) where
    is_node : i < length g.plan.nodes
    is_node = (let b = member_inside g i k e in let f = v.one_each in omega arith)

    is_in : belongs g i ≡ true
    is_in = ap is_some e

    is_after : members_now g i ≡ member_after (line_of g.plan) i k
    is_after = ap (member_at (line_of g.plan) i) e

    own : IsMember (line_of g.plan) i (members_now g i) (slots_of g.replica)
    own = v.holds.each i is_node is_in

    saw_length : length (members_now g i).saw ≡ k
    saw_length = ap (λ m. length m.saw) is_after ∙ sims.length_seen (line_of g.plan) i k

    inside : AreInside (line_of g.plan) i k
    inside j b = own.inside j (let f = saw_length in omega arith)

    quanta_few : (i < length g.plan.nodes) × (k ≤ most_quanta) × AreInside (line_of g.plan) i k
    quanta_few = (is_node, few k inside, inside)
      where
        few : (n : ℕ) → AreInside (line_of g.plan) i n → n ≤ most_quanta
        few zero f = omega arith
        few (suc n) f = (let q = (sound g.plan v.checked).few_quanta i n is_node (f n (omega arith)) in omega arith)

  -- ---- what comes in

  both_of_records : (a b : State) → a.nodes ≡ b.nodes → IsOfRecords a → IsOfRecords b → IsOfRecords (states_joined a b)
  both_of_records a b n (qs, fits, e) (rs, more, f) = (
    qs ++ rs,
    All-append (Fits a.nodes) qs rs fits (subst (λ m. All (Fits m) rs) (sym n) more),
    (λ d. states_joined (e d) (f d)) ∙ (ap (λ m. states_joined (state_of a.nodes qs) (state_of m rs)) (sym n) ∙ takings.both a.nodes qs rs),
  )

  joined_value : (g : GroupValue) → IsGroupValue g → (s : State) → s.nodes ≡ length g.plan.nodes → IsOfRecords s
      → HoldsTrue (length g.plan.nodes) (table_of g.plan) (slots_of s) → IsGroupValue (with_state s g)
  joined_value g v s n of h = record {
    checked = v.checked;
    one_each = v.one_each;
    of_all = v.of_all;
    of_records = both_of_records g.replica s (v.of_all ∙ sym n) v.of_records of;
    holds = subst (IsGroup (line_of g.plan) (belongs g) (members_now g)) (sym (states.both g.replica s))
        (group_joins tables joins knows sims (line_of g.plan) (belongs g) (members_now g) (slots_of g.replica) (slots_of s) v.holds h);
    emitted_true = v.emitted_true;
  }

  joins_as : (g : GroupValue) (p : Party) (s : State) (rs : List Record) → Matches p g → s ≡ state_of (length g.plan.nodes) rs → Matches (party_with rs p) (with_state s g)
  joins_as g p s rs h e =
      let n = length g.plan.nodes in
      record {
        replica = ap (λ x. states_joined x s) h.replica
            ∙ (ap (states_joined (state_of n p.taken)) e
            ∙ (joinings.commutes (state_of n p.taken) (state_of n rs) refl
            ∙ takings.both n rs p.taken));
        members = h.members;
        emitted = h.emitted;
      }

  records_true : (nodes : ℕ) (table : ℕ → List ℕ) (n : ℕ) (rs : List Record) → AreTrueOf nodes table rs → HoldsTrue nodes table (slots_of (state_of n rs))
  records_true nodes table n rs t = subst (HoldsTrue nodes table) (sym (states.records n rs)) (knows.true_records nodes table rs t)

  takes : (g : GroupValue) → IsGroupValue g → (rs : List Record) → AreTrueOf (length g.plan.nodes) (table_of g.plan) rs → IsGroupValue (with_records rs g)
  takes g v rs t =
      joined_value g v (state_of g.replica.nodes rs) v.of_all
      (rs, subst (λ n. All (Fits n) rs) (sym v.of_all) (true_fits (length g.plan.nodes) (table_of g.plan) rs t), refl)
      (records_true (length g.plan.nodes) (table_of g.plan) g.replica.nodes rs t)

  takes_as : (g : GroupValue) (p : Party) (rs : List Record) → Matches p g → Matches (party_with rs p) (with_records rs g)
  takes_as g p rs h = joins_as g p (state_of g.replica.nodes rs) rs h (ap (λ (x : State). state_of x.nodes rs) h.replica)

  -- ---- beside a party

  module _ (g : GroupValue) (p : Party) (i : ℕ) (h : Matches p g) where
    same_slots : slots_of g.replica ≡ slots p
    same_slots = ap slots_of h.replica ∙ states.records (length g.plan.nodes) p.taken

    emits_as : belongs g i ≡ true → emission_at g i ≡ emission_of (line_of g.plan) p i
    emits_as o =
        ap (λ m. emission (line_of g.plan) i m (level_read (line_of g.plan) i m (slots_of g.replica))) (sym (h.members i o))
        ∙ ap (λ w. emission (line_of g.plan) i (p.members i) (level_read (line_of g.plan) i (p.members i) w)) same_slots

    may_as : may_run g i ≡ can_advance (line_of g.plan) (belongs g) p i
    may_as = elim (cases_Bool (belongs g i)) [
      | inl y ↦ ap (λ b. belongs g i && b)
          (ap (λ m. can_run (line_of g.plan) i m (slots_of g.replica)) (sym (h.members i y)) ∙ ap (can_run (line_of g.plan) i (p.members i)) same_slots)
      | inr n ↦ ap (λ b. b && can_run (line_of g.plan) i (members_now g i) (slots_of g.replica)) n
          ∙ sym (ap (λ b. b && can_run (line_of g.plan) i (p.members i) (slots p)) n)
    ]

  -- ---- the next quantum of a member that may run

  module _ (g : GroupValue) (v : IsGroupValue g) (i k : ℕ) (e : quanta_at g i ≡ Some k) (may : may_run g i ≡ true) where
    can : can_run (line_of g.plan) i (members_now g i) (slots_of g.replica) ≡ true
    can = (and_parts (belongs g i) (can_run (line_of g.plan) i (members_now g i) (slots_of g.replica)) may).1

    said_true : AreTrueOf (length g.plan.nodes) (table_of g.plan) (emission_at g i)
    said_true = groups.emission_true (line_of g.plan) (sound g.plan v.checked) (slots_of g.replica) v.holds.truth i (members_now g i) (is_node g v i k e) (own g v i k e) can

    next : Member
    next = member_after_quantum (line_of g.plan) i (members_now g i) (reads_at g i)

    new_slots : Contents
    new_slots = slots_joined (slots_of g.replica) (slots_of_records (emission_at g i))

    slots_are : slots_of (state_with_records g.replica (emission_at g i)) ≡ new_slots
    unfolding new_slots
    slots_are =
        states.both g.replica (state_of g.replica.nodes (emission_at g i))
        ∙ ap (slots_joined (slots_of g.replica)) (states.records g.replica.nodes (emission_at g i))

    next_is_member : IsMember (line_of g.plan) i next new_slots
    unfolding next new_slots
    next_is_member = member_joined tables joins knows sims (line_of g.plan) (sound g.plan v.checked) (slots_of g.replica) v.holds.truth i (members_now g i) (is_node g v i k e) can (own g v i k e)

    new_true : HoldsTrue (length g.plan.nodes) (table_of g.plan) new_slots
    unfolding new_slots
    new_true = knows.true_joined (length g.plan.nodes) (table_of g.plan) (slots_of g.replica) (slots_of_records (emission_at g i)) v.holds.truth
        (knows.true_records (length g.plan.nodes) (table_of g.plan) (emission_at g i) said_true)

    next_length : length next.saw ≡ suc k
    unfolding next
    next_length = length-append (members_now g i).saw (reads_at g i ∷ []) ∙ (add-one (length (members_now g i).saw) ∙ ap (λ n. suc n) (saw_length g v i k e))

    next_is : next ≡ members_now (run_on i k g) i
    next_is =
        member_is (line_of g.plan) i next new_slots next_is_member
        ∙ (ap (member_after (line_of g.plan) i) next_length
        ∙ sym (ap (member_at (line_of g.plan) i) (on_here g i k e)))

    steps_to : member_after_quantum (line_of g.plan) i (members_now g i) (reads_at g i) ≡ members_now (run_on i k g) i
    unfolding next
    steps_to = next_is

    holds_new : IsGroup (line_of g.plan) (belongs (run_on i k g)) (members_now (run_on i k g)) new_slots
    unfolding new_slots
    holds_new = record {
      truth = new_true;
      each = λ j b o. elim (cases_eq j i) [
        | inl same ↦ subst (λ x. IsMember (line_of g.plan) x (members_now (run_on i k g) x) new_slots) (sym same)
            (subst (λ m. IsMember (line_of g.plan) i m new_slots) next_is next_is_member)
        | inr other ↦ subst (λ q. IsMember (line_of g.plan) j (member_at (line_of g.plan) j q) new_slots) (sym (on_else g i k j other))
            (member_keeps tables joins knows sims (line_of g.plan) j (members_now g j) (slots_of g.replica) new_slots b v.holds.truth new_true
            (joins.above_first (slots_of g.replica) (slots_of_records (emission_at g i)))
            (v.holds.each j b (sym (runs_at g i k e j) ∙ o)))
      ];
    }

    runs : IsGroupValue (run_on i k g)
    runs = record {
      checked = v.checked;
      one_each = length-set g.ran i (Some (suc k)) ∙ v.one_each;
      of_all = v.of_all;
      of_records = (takes g v (emission_at g i) said_true).of_records;
      holds = subst (IsGroup (line_of g.plan) (belongs (run_on i k g)) (members_now (run_on i k g))) (sym slots_are) holds_new;
      emitted_true = true_append (length g.plan.nodes) (table_of g.plan) g.emitted (emission_at g i) v.emitted_true said_true;
    }

    runs_as : (p : Party) → Matches p g → Matches (run_next (line_of g.plan) i p) (run_on i k g)
    unfolding next
    runs_as p h =
        let l = line_of g.plan in
        let m = p.members i in
        let rs : emission_at g i ≡ emission_of l p i = emits_as g p i h (is_in g v i k e) in
        record {
          replica = (takes_as g p (emission_at g i) h).replica ∙ ap (λ qs. state_of (length g.plan.nodes) (qs ++ p.taken)) rs;
          members = λ j o. put_at p.members i (member_after_quantum l i m (level_read l i m (slots p))) (λ x. x ≡ members_now (run_on i k g) j) j
              (λ same. ap (λ (x : Member). member_after_quantum l i x (level_read l i x (slots p))) (h.members i (is_in g v i k e))
              ∙ (ap (λ w. member_after_quantum l i (members_now g i) (level_read l i (members_now g i) w)) (sym (same_slots g p i h))
              ∙ (next_is ∙ ap (members_now (run_on i k g)) (sym same))))
              (λ other. h.members j (sym (runs_at g i k e j) ∙ o) ∙ sym (ap (member_at l j) (on_else g i k j other)));
          emitted = ap (λ xs. xs ++ emission_at g i) h.emitted ∙ ap (λ qs. p.emitted ++ qs) rs;
        }

  -- what it knows is what some records say
  some_party : (g : GroupValue) → IsGroupValue g → (p : Party) × Matches p g
  some_party g v =
      let of = v.of_records in (
        record { members = members_now g; taken = of.0; emitted = g.emitted },
        record { replica = of.2 ∙ ap (λ n. state_of n of.0) v.of_all; members = λ i o. refl; emitted = refl },
      )

  -- ---- quanta that run one after another

  all_run : (g h : GroupValue) (rs : List Record) → IsGroupValue g → Ran g rs h → HasRunOn g h rs
  all_run g h rs v (runs_of.none {g = x}) = record { value = v; plan = refl; lists = refl; members = refl; emitted = sym (append-nil x.emitted); said_true = tt }
  all_run g h rs v (runs_of.more {g = x} {h = y} {rs = rest} i k e may steps) =
      let next = all_run (run_on i k x) y rest (runs x v i k e may) steps in
      record {
        value = next.value;
        plan = next.plan;
        lists = next.lists;
        members = next.members ∙ runs_with x i k e;
        emitted = next.emitted ∙ append_assoc x.emitted (emission_at x i) rest;
        said_true = true_append (length x.plan.nodes) (table_of x.plan) (emission_at x i) rest (said_true x v i k e may) next.said_true;
      }

  all_run_as : (g h : GroupValue) (rs : List Record) → IsGroupValue g → (p : Party) → Matches p g → Ran g rs h
      → (q : Party) × Steps (line_of g.plan) (belongs g) p rs q × Matches q h
  all_run_as g h rs v p m (runs_of.none {g = x}) = (p, steps_of.none, m)
  all_run_as g h rs v p m (runs_of.more {g = x} {h = y} {rs = rest} i k e may steps) =
      let next = all_run_as (run_on i k x) y rest (runs x v i k e may) (run_next (line_of x.plan) i p) (runs_as x v i k e may p m) steps in (
        next.0,
        subst (λ es. Steps (line_of x.plan) (belongs x) p (es ++ rest) next.0) (sym (emits_as x p i m (is_in x v i k e)))
            (steps_of.more i (is_node x v i k e) (sym (may_as x p i m) ∙ may)
            (subst (λ b. Steps (line_of x.plan) b (run_next (line_of x.plan) i p) rest next.0) (runs_with x i k e) next.1)),
        next.2,
      )

  pub value_laws : ValueLaws
  value_laws = record {
    begins = begins;
    begins_as = begins_as;
    begins_with = begins_with;
    some_party = some_party;
    quanta_few = quanta_few;
    joins = joined_value;
    joins_as = joins_as;
    takes = takes;
    takes_as = takes_as;
    may_as = may_as;
    emits_as = emits_as;
    emits_true = λ g v i may.
        let q = is_there (quanta_at g i) (and_parts (belongs g i) (can_run (line_of g.plan) i (members_now g i) (slots_of g.replica)) may).0 in
        said_true g v i q.0 q.1 may;
    runs = runs;
    runs_as = λ g v p i k h e may. runs_as g v i k e may p h;
    steps_to = steps_to;
    runs_with = runs_with;
    all_run = all_run;
    all_run_as = all_run_as;
  }
