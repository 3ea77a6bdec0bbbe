-- A party that covers a group covers it after each thing that happens to it, and is led there.
use Rattle.std.proofs.Common.{◌≡◌, ℕ, suc, ◌<◌, Bool, true, nat_lt, inl, inr, List, [], ◌∷◌, ◌++◌, length, Some, None, is_some, refl, sym, ◌∙◌, ap, subst, arith}
use Rattle.std.specs.Prelude.{Contains}
use Rattle.std.proofs.lemmas.Bool.{and_parts, and_from, lt-ltb, ltb-true}
use Rattle.std.proofs.lemmas.List.{get_or-set_other}
use Rattle.std.proofs.lemmas.List.Elements.{Contains-append_left, Contains-append_right, Contains-append_cases}
use Rattle.wl_record_core.specs.declared.record.Record.{Record}
use Rattle.wl_record_core.specs.Truth.{AreTrueOf}
use Rattle.wl_record_core.specs.TableLaws.{TableLaws}
use Rattle.wl_replica.specs.Slots.{slots_of_records, HoldsTrue, IsBelow}
use Rattle.wl_replica.specs.SlotsOf.{SlotsOfStates}
use Rattle.wl_replica.specs.State.{state_of, slots_of, state_with_records}
use Rattle.wl_replica.specs.Known.{place_horizon}
use Rattle.wl_replica.specs.KnownLaws.{SlotsLaws, KnownLaws}
use Rattle.wl_plan.specs.Line.{Line}
use Rattle.wl_plan.specs.PlanLine.{line_of, table_of}
use Rattle.wl_plan.specs.Simulation.{changes}
use Rattle.wl_plan.specs.SimulationLaws.{SimulationLaws}
use Rattle.wl_plan.specs.Checked.{CheckedIsSound}
use Rattle.wl_group.specs.Member.{next_tick, can_run, member_after_quantum, emission, level_read}
use Rattle.wl_group.specs.Party.{Party, slots, initial_party, party_with}
use Rattle.wl_group.specs.Advanced.{can_advance, emission_of, run_next}
use Rattle.wl_group.specs.Running.{Ran}
use Rattle.wl_group.specs.Running as runs_of
use Rattle.wl_group.specs.GroupLaws.{GroupLaws}
use Rattle.wl_group.specs.ValueLaws.{ValueLaws}
use Rattle.wl_group.specs.GroupValue.{GroupValue, IsGroupValue, Matches, quanta_at, belongs, member_at, members_now, initial_group, may_run, with_records, reads_at, emission_at, run_on}
use Rattle.wl_group.specs.Led.{Led, none, deliver, advance, restart, Covers, LedTo, LedLaws}
use Rattle.wl_group.proofs.BeginProofs.{belongs_past}
use Rattle.wl_group.proofs.Facts.{put_at}
use Rattle.wl_group.proofs.GroupProofs.{place_keeps}

-- ---- one thing after another

pub led_on : (l : Line) (b : ℕ → Bool) (p q r : Party) → Led l b p q → Led l b q r → Led l b p r
led_on l b p q r (none {p = x}) more = more
led_on l b p q r (deliver {p = x} {q = y} e t rest) more = deliver e t (led_on l b (party_with (e ∷ []) x) y r rest more)
led_on l b p q r (advance {p = x} {q = y} i c may rest) more = advance i c may (led_on l b (run_next l i x) y r rest more)
led_on l b p q r (restart {p = x} {q = y} rest) more = restart (led_on l b (initial_party l b) y r rest more)

-- true records, taken one after another
led_taking : (l : Line) (b : ℕ → Bool) (p : Party) (rs : List Record) → AreTrueOf l.nodes (changes l) rs → Led l b p (party_with rs p)
led_taking l b p [] t = none
led_taking l b p (r ∷ rs) t = led_on l b p (party_with rs p) (party_with (r ∷ rs) p) (led_taking l b p rs t.1) (deliver r t.0 none)

-- ---- what is contained in one of two lists, appended

pub both_in : (xs ys zs : List Record) → ((r : Record) → Contains xs r → Contains zs r) → ((r : Record) → Contains ys r → Contains zs r) → (r : Record) → Contains (xs ++ ys) r → Contains zs r
both_in xs ys zs f g r c = elim (Contains-append_cases xs ys r c) [
  | inl a ↦ f r a
  | inr a ↦ g r a
]

-- ---- groups and the parties that cover them

pub stays : (g : GroupValue) → LedTo g g
stays g = record { plan = refl; lists = refl; members = refl; led = λ p c. (p, none, c) }

pub led_after : (f g h : GroupValue) → LedTo f g → LedTo g h → LedTo f h
led_after f g h a b = record {
  plan = b.plan ∙ a.plan;
  lists = b.lists ∙ a.lists;
  members = b.members ∙ a.members;
  led = λ p c.
      let x = a.led p c in
      let y = b.led x.0 x.2 in
      let on : Led (line_of f.plan) (belongs f) x.0 y.0 = subst (λ t. Led (line_of t) (belongs f) x.0 y.0) a.plan (subst (λ t. Led (line_of g.plan) t x.0 y.0) a.members y.1) in
      (y.0, led_on (line_of f.plan) (belongs f) p x.0 y.0 x.1 on, y.2);
}

-- Quanta that ran one after another led a party to one that covers the group after them. It has all that the first one had, and what they emitted.
pub record RanBeside (g h : GroupValue) (rs : List Record) (p : Party) : Type 0 where
  pub q : Party
  pub led : Led (line_of g.plan) (belongs g) p q
  pub covers : Covers q h
  pub taken : (r : Record) → Contains p.taken r → Contains q.taken r
  pub said : (r : Record) → Contains rs r → Contains q.taken r
  pub emitted : (r : Record) → Contains p.emitted r → Contains q.emitted r
  pub emits_too : (r : Record) → Contains rs r → Contains q.emitted r

module _ (laws : ValueLaws) (groups : GroupLaws) (tables : TableLaws) (joins : SlotsLaws) (knows : KnownLaws) (sims : SimulationLaws) (states : SlotsOfStates) (sound : CheckedIsSound) where
  pub matched : (g : GroupValue) → IsGroupValue g → (p : Party) → Matches p g → Covers p g
  matched g v p m = record {
    members = m.members;
    known = p.taken;
    replica = m.replica;
    taken = λ r c. c;
    emitted = λ r c. subst (λ es. Contains es r) m.emitted c;
    truth = subst (HoldsTrue (length g.plan.nodes) (table_of g.plan)) (ap slots_of m.replica ∙ states.records (length g.plan.nodes) p.taken) v.holds.truth;
  }

  -- the replica, after some records
  pub known_with : (p : Party) (g : GroupValue) (c : Covers p g) (rs : List Record) → state_with_records g.replica rs ≡ state_of (length g.plan.nodes) (rs ++ c.known)
  known_with p g c rs =
      let q : Party = record { members = members_now g; taken = c.known; emitted = g.emitted } in
      let m : Matches q g = record { replica = c.replica; members = λ i o. refl; emitted = refl } in
      (laws.takes_as g q rs m).replica

  -- what is true is known besides
  true_with : (l : Line) (p : Party) (rs : List Record) → HoldsTrue l.nodes (changes l) (slots p) → AreTrueOf l.nodes (changes l) rs → HoldsTrue l.nodes (changes l) (slots_of_records (rs ++ p.taken))
  true_with l p rs h t =
      subst (HoldsTrue l.nodes (changes l)) (sym (joins.of_two_lists rs p.taken))
      (knows.true_joined l.nodes (changes l) (slots p) (slots_of_records rs) h (knows.true_records l.nodes (changes l) rs t))

  pub takes : (g : GroupValue) (rs : List Record) → AreTrueOf (length g.plan.nodes) (table_of g.plan) rs → LedTo g (with_records rs g)
  takes g rs t = record {
    plan = refl;
    lists = refl;
    members = refl;
    led = λ p c. (
      party_with rs p,
      led_taking (line_of g.plan) (belongs g) p rs t,
      record {
        members = c.members;
        known = rs ++ c.known;
        replica = known_with p g c rs;
        taken = both_in rs c.known (rs ++ p.taken) (λ r a. Contains-append_left rs p.taken r a) (λ r a. Contains-append_right rs p.taken r (c.taken r a));
        emitted = c.emitted;
        truth = true_with (line_of g.plan) p rs c.truth t;
      },
    );
  }

  pub begins : (g : GroupValue) → IsGroupValue g → LedTo g (initial_group g.lists g.plan (belongs g))
  begins g v = record {
    plan = refl;
    lists = refl;
    members = laws.begins_with g.lists g.plan (belongs g) (belongs_past g v);
    led = λ p c. (
      initial_party (line_of g.plan) (belongs g),
      restart none,
      matched (initial_group g.lists g.plan (belongs g)) (laws.begins g.lists g.plan v.checked (belongs g)) (initial_party (line_of g.plan) (belongs g))
          (laws.begins_as g.lists g.plan v.checked (belongs g)),
    );
  }

  -- ---- the next quantum of a member that may run, and of a party that covers the group

  module _ (g : GroupValue) (v : IsGroupValue g) (i k : ℕ) (e : quanta_at g i ≡ Some k) (may : may_run g i ≡ true) (p : Party) (c : Covers p g) where
    node : i < length g.plan.nodes
    node = (laws.quanta_few g v i k e).0

    is_in : belongs g i ≡ true
    is_in = ap is_some e

    same_member : p.members i ≡ members_now g i
    same_member = c.members i is_in

    below : IsBelow (slots_of g.replica) (slots p)
    below =
        subst (λ w. IsBelow w (slots p)) (sym (ap slots_of c.replica ∙ states.records (length g.plan.nodes) c.known))
        (joins.of_a_part c.known p.taken c.taken)

    -- it may run its quantum in the party too
    can_there : can_run (line_of g.plan) i (members_now g i) (slots p) ≡ true
    can_there =
        let l = line_of g.plan in
        let t = next_tick l i (members_now g i) in
        let can = (and_parts (belongs g i) (can_run l i (members_now g i) (slots_of g.replica)) may).1 in
        let parts = and_parts (nat_lt t l.stop) (nat_lt t (place_horizon l.nodes l.delay (slots_of g.replica) i)) can in
        let b = node in
        and_from _ _ parts.0 (lt-ltb _ _ (place_keeps tables joins knows sims l (slots_of g.replica) (slots p) i (omega (arith, b)) v.holds.truth c.truth below t
        (ltb-true t (place_horizon l.nodes l.delay (slots_of g.replica) i) parts.1)))

    may_there : can_advance (line_of g.plan) (belongs g) p i ≡ true
    may_there = and_from _ _ is_in (subst (λ m. can_run (line_of g.plan) i m (slots p) ≡ true) (sym same_member) can_there)

    -- and reads the same level there
    reads : level_read (line_of g.plan) i (p.members i) (slots p) ≡ reads_at g i
    reads =
        let l = line_of g.plan in
        let s = sound g.plan v.checked in
        let can = (and_parts (belongs g i) (can_run l i (members_now g i) (slots_of g.replica)) may).1 in
        ap (λ m. level_read l i m (slots p)) same_member
        ∙ (groups.read_is_found l s (slots p) c.truth i (members_now g i) node can_there
        ∙ sym (groups.read_is_found l s (slots_of g.replica) v.holds.truth i (members_now g i) node can))

    emits : emission_of (line_of g.plan) p i ≡ emission_at g i
    emits =
        ap (emission (line_of g.plan) i (p.members i)) reads
        ∙ ap (λ m. emission (line_of g.plan) i m (reads_at g i)) same_member

    said_true : AreTrueOf (length g.plan.nodes) (table_of g.plan) (emission_at g i)
    said_true = laws.emits_true g v i may

    -- a party's list, with what it emits
    with_said : (xs : List Record) (r : Record) → Contains (emission_at g i) r → Contains (emission_of (line_of g.plan) p i ++ xs) r
    with_said xs r a = Contains-append_left (emission_of (line_of g.plan) p i) xs r (subst (λ es. Contains es r) (sym emits) a)

    covers_on : Covers (run_next (line_of g.plan) i p) (run_on i k g)
    covers_on =
        let l = line_of g.plan in
        let rs = emission_at g i in
        let es = emission_of l p i in
        record {
          members = λ j o. put_at p.members i (member_after_quantum l i (p.members i) (level_read l i (p.members i) (slots p))) (λ x. x ≡ members_now (run_on i k g) j) j
              (λ same. ap (member_after_quantum l i (p.members i)) reads
              ∙ (ap (λ m. member_after_quantum l i m (reads_at g i)) same_member
              ∙ (laws.steps_to g v i k e may ∙ ap (members_now (run_on i k g)) (sym same))))
              (λ other. c.members j (ap (λ (b : ℕ → Bool). b j) (sym (laws.runs_with g i k e)) ∙ o) ∙ sym (ap (member_at l j) (get_or-set_other g.ran i j (Some (suc k)) None other)));
          known = rs ++ c.known;
          replica = known_with p g c rs;
          taken = both_in rs c.known (es ++ p.taken) (with_said p.taken) (λ r a. Contains-append_right es p.taken r (c.taken r a));
          emitted = both_in g.emitted rs (p.emitted ++ es) (λ r a. Contains-append_left p.emitted es r (c.emitted r a))
              (λ r a. Contains-append_right p.emitted es r (subst (λ xs. Contains xs r) (sym emits) a));
          truth = true_with l p es c.truth (subst (AreTrueOf l.nodes (changes l)) (sym emits) said_true);
        }

  -- ---- quanta that run one after another

  pub ran_beside : (g h : GroupValue) (rs : List Record) → IsGroupValue g → Ran g rs h → (p : Party) → Covers p g → RanBeside g h rs p
  ran_beside g h rs v (runs_of.none {g = x}) p c = record {
    q = p;
    led = none;
    covers = c;
    taken = λ r a. a;
    said = λ r a. absurd (let b = a.1 in omega (arith, b));
    emitted = λ r a. a;
    emits_too = λ r a. absurd (let b = a.1 in omega (arith, b));
  }
  ran_beside g h rs v (runs_of.more {g = x} {h = y} {rs = rest} i k e may steps) p c =
      let l = line_of x.plan in
      let es = emission_of l p i in
      let next = ran_beside (run_on i k x) y rest (laws.runs x v i k e may) steps (run_next l i p) (covers_on x v i k e may p c) in
      record {
        q = next.q;
        led = advance i (node x v i k e may p c) (may_there x v i k e may p c) (subst (λ b. Led l b (run_next l i p) next.q) (laws.runs_with x i k e) next.led);
        covers = next.covers;
        taken = λ r a. next.taken r (Contains-append_right es p.taken r a);
        said = both_in (emission_at x i) rest next.q.taken (λ r a. next.taken r (with_said x v i k e may p c p.taken r a)) next.said;
        emitted = λ r a. next.emitted r (Contains-append_left p.emitted es r a);
        emits_too = both_in (emission_at x i) rest next.q.emitted
            (λ r a. next.emitted r (Contains-append_right p.emitted es r (subst (λ xs. Contains xs r) (sym (emits x v i k e may p c)) a))) next.emits_too;
      }

  pub runs : (g h : GroupValue) (rs : List Record) → IsGroupValue g → Ran g rs h → LedTo g h
  runs g h rs v steps =
      let on = laws.all_run g h rs v steps in
      record {
        plan = on.plan;
        lists = on.lists;
        members = on.members;
        led = λ p c. let r = ran_beside g h rs v steps p c in (r.q, r.led, r.covers);
      }

  pub led_laws : LedLaws
  led_laws = record {
    matched = matched;
    stays = stays;
    joined = led_after;
    takes = takes;
    runs = runs;
    begins = begins;
  }
