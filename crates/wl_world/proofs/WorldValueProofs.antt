-- A world as its calls see it, beside the scenes of the machine.
use Rattle.std.proofs.Common.{◌≡◌, ℕ, zero, suc, ◌+◌, ◌<◌, ◌≤◌, ◌&&◌, ◌||◌, not, Bool, true, false, ◌⊎◌, inl, inr, List, [], ◌∷◌, ◌++◌, length, get_or, refl, sym, ◌∙◌, ap, subst, arith, nat_lt, nat_le, ◌==◌, Option, None, Some, IfSome, IfNone, slice_get, slice_set, length-append, if◌then◌else◌}
use Rattle.std.specs.Prelude.{Contains}
use Rattle.std.proofs.lemmas.Bool.{cases_eq, cases_lt, cases_Bool, cond-true, cond-false, eq-eqb, ne_eqb, lt-ltb, le-ltb, and_from, and_parts, false≢true}
use Rattle.std.proofs.lemmas.Option.{slice_get_within}
use Rattle.std.proofs.lemmas.List.Folds.{list_any_at}
use Rattle.wl_record_core.specs.declared.record.Record.{Record}
use Rattle.wl_record_core.specs.Truth.{AreTrueOf}
use Rattle.wl_replica.specs.State.{state_of, slots_of}
use Rattle.wl_replica.specs.Slots.{HoldsTrue}
use Rattle.wl_plan.specs.declared.plan.Plan.{Plan}
use Rattle.wl_plan.specs.Line.{Line}
use Rattle.wl_plan.specs.Sound.{IsSound}
use Rattle.wl_plan.specs.PlanLine.{line_of, table_of, IsTrueOfPlan}
use Rattle.wl_plan.specs.Checked.{IsChecked}
use Rattle.wl_plan.specs.Groupings.{IsGrouping, GroupingLaws, most_groups, groups_of, is_in_group, members_of}
use Rattle.wl_group.specs.Member.{next_tick, can_run}
use Rattle.wl_group.specs.Party.{Party, slots, put, initial_silences, initial_party, party_with}
use Rattle.wl_group.specs.Advanced.{Reply, emitted, blocked, ended, can_advance, emission_of, reply_of, run_next, HasAdvanced}
use Rattle.wl_group.specs.AdvanceLaws.{AdvanceLaws}
use Rattle.wl_group.specs.PartyLaws.{PartyLaws}
use Rattle.wl_group.specs.GroupValue.{GroupValue, IsGroupValue, Matches, names, may_run, belongs as has}
use Rattle.wl_group.specs.ValueLaws.{ValueLaws}
use Rattle.wl_world.specs.declared.events.Event.{Event}
use Rattle.wl_world.specs.declared.events.Event.TheVariants.{Advance, Deliver, Join, Restart}
use Rattle.wl_world.specs.declared.events.Answer.{Answer}
use Rattle.wl_world.specs.declared.events.Answer.TheVariants.{Done, Idle}
use Rattle.wl_world.specs.Scene.{Cast, Scene, is_of_group, start, possible, at_most_one, done, happens, run, answer}
use Rattle.wl_world.specs.Headline.{Headline}
use Rattle.wl_world.specs.Steps.{HasStepped}
use Rattle.wl_world.specs.WorldValue.{WorldValue, world_value, cast_of, IsWorldAt, IsStaffed, IsWorldValue, IsFirstGroup, AreFirst}
use Rattle.wl_world.proofs.Puts.{put_at}
use Rattle.wl_world.proofs.Lists.{true_member}
use Rattle.wl_world.proofs.RoundProofs.{run_append}

-- ---- lists

same_length : {A : Type 0} (xs : List A) (i : ℕ) (x : A) → length (slice_set xs i x) ≡ length xs
same_length [] i x = refl
same_length (y ∷ ys) zero x = refl
same_length (y ∷ ys) (suc i) x = ap suc (same_length ys i x)

get_set_same : {A : Type 0} (xs : List A) (i : ℕ) (x : A) → i < length xs → slice_get (slice_set xs i x) i ≡ Some x
get_set_same [] i x b = absurd (omega arith)
get_set_same (y ∷ ys) zero x b = refl
get_set_same (y ∷ ys) (suc i) x b = get_set_same ys i x (omega arith)

get_set_other : {A : Type 0} (xs : List A) (i j : ℕ) (x : A) → (j ≡ i → ⊥) → slice_get (slice_set xs i x) j ≡ slice_get xs j
get_set_other [] i j x n = refl
get_set_other (y ∷ ys) zero zero x n = absurd (n refl)
get_set_other (y ∷ ys) zero (suc j) x n = refl
get_set_other (y ∷ ys) (suc i) zero x n = refl
get_set_other (y ∷ ys) (suc i) (suc j) x n = get_set_other ys i j x (λ e. n (ap suc e))

-- what is read where a group was written
set_cases : (groups : List GroupValue) (h j : ℕ) (new v : GroupValue) (P : GroupValue → Type 0) → h < length groups → slice_get (slice_set groups h new) j ≡ Some v → (j ≡ h → P new) → (slice_get groups j ≡ Some v → (j ≡ h → ⊥) → P v) → P v
set_cases groups h j new v P b e f k = elim (cases_eq j h) [
  | inl same ↦ let is : Some new ≡ Some v = sym (get_set_same groups h new b) ∙ (ap (slice_get (slice_set groups h new)) (sym same) ∙ e) in subst P (let g : new ≡ v = cc in g) (f same)
  | inr other ↦ k (sym (get_set_other groups h j new other) ∙ e) other
]

-- a place written with what was there
set_got : (xs : List GroupValue) (h : ℕ) (x : GroupValue) → slice_get xs h ≡ Some x → slice_set xs h x ≡ xs
set_got [] h x e = refl
set_got (y ∷ ys) zero x e = ap (λ z. z ∷ ys) (let g : x ≡ y = cc in g)
set_got (y ∷ ys) (suc h) x e = ap (λ t. y ∷ t) (set_got ys h x e)

-- what is read of a list with one element more
last_cases : {A : Type 0} (xs : List A) (y : A) (k : ℕ) (x : A) → slice_get (xs ++ y ∷ []) k ≡ Some x → (slice_get xs k ≡ Some x) ⊎ ((k ≡ length xs) × (y ≡ x))
last_cases [] y zero x e = inr (refl, let g : y ≡ x = cc in g)
last_cases [] y (suc k) x e = cc
last_cases (z ∷ xs) y zero x e = inl e
last_cases (z ∷ xs) y (suc k) x e = elim (last_cases xs y k x e) [
  | inl p ↦ inl p
  | inr q ↦ inr (ap suc q.0, q.1)
]

-- ---- the members of a group by a test

same_test : (a b : Bool) → (a ≡ true → b ≡ true) → (b ≡ true → a ≡ true) → a ≡ b
same_test true b f g = sym (f refl)
same_test false true f g = g refl
same_test false false f g = refl

named_there : (ms : List ℕ) (i : ℕ) → names ms i ≡ true → Contains ms i
named_there [] i h = absurd (false≢true h)
named_there (m ∷ ms) i h = elim (cases_eq m i) [
  | inl e ↦ (0, (omega arith), e)
  | inr n ↦ (let r = named_there ms i (sym (ap (λ t. t || names ms i) (ne_eqb m i n)) ∙ h) in (suc r.0, (let b = r.1 in omega arith), r.2))
]

there_named : (ms : List ℕ) (i : ℕ) → Contains ms i → names ms i ≡ true
there_named ms i h = list_any_at (λ m. m == i) ms h.0 i h.1 (eq-eqb (get_or ms h.0 i) i h.2)

member_at_once : (numbers ms : List ℕ) (h : ℕ) → GroupingLaws → h < most_groups → ms ≡ members_of numbers h → (i : ℕ) → names ms i ≡ is_in_group numbers h i
member_at_once numbers ms h laws b e i =
    same_test (names ms i) (is_in_group numbers h i)
    (λ t. (laws.members numbers h i b).0 (subst (λ xs. Contains xs i) e (named_there ms i t)))
    (λ t. there_named ms i (subst (λ xs. Contains xs i) (sym e) ((laws.members numbers h i b).1 t)))

pub names_are : (numbers ms : List ℕ) (h : ℕ) → GroupingLaws → h < most_groups → ms ≡ members_of numbers h → names ms ≡ is_of_group (cast_of numbers) h
names_are numbers ms h laws b e = λ k i. member_at_once numbers ms h laws b e i k

-- ---- a new world

pub none_first : (plan : Plan) (numbers : List ℕ) (groups : List GroupValue) → groups ≡ [] → (length groups ≡ 0) × AreFirst plan numbers groups
none_first plan numbers groups e = (ap length e, λ h g q. absurd (let p : slice_get [] h ≡ Some g = ap (λ xs. slice_get xs h) (sym e) ∙ q in cc))

pub one_more_first : (plan : Plan) (numbers : List ℕ) (groups more : List GroupValue) (g : GroupValue) (h : ℕ) → length groups ≡ h → AreFirst plan numbers groups → more ≡ groups ++ g ∷ [] → IsFirstGroup plan numbers h g
    → (length more ≡ h + 1) × AreFirst plan numbers more
one_more_first plan numbers groups more g h n f e is = (
  (let a = ap length e in let b = length-append groups (g ∷ []) in omega arith),
  λ j x q. elim (last_cases groups g j x (ap (λ xs. slice_get xs j) (sym e) ∙ q)) [
    | inl p ↦ f j x p
    | inr p ↦ subst (λ k. IsFirstGroup plan numbers k x) (sym (p.0 ∙ n)) (subst (λ y. IsFirstGroup plan numbers h y) p.1 is)
  ],
)

pub at_first : (plan : Plan) (numbers : List ℕ) (groups : List GroupValue) (es : List Record) → AreFirst plan numbers groups → es ≡ initial_silences (line_of plan) (λ i. true) (length plan.nodes)
    → IsWorldAt (start (line_of plan) (cast_of numbers)) (world_value plan numbers groups es)
at_first plan numbers groups es f e = record { emitted = e; groups = λ h g q. (f h g q).begun_as }

pub first_world : (plan : Plan) (numbers : List ℕ) (groups : List GroupValue) (es : List Record) → IsChecked plan → IsGrouping (length plan.nodes) numbers → length groups ≡ groups_of numbers
    → AreFirst plan numbers groups → es ≡ initial_silences (line_of plan) (λ i. true) (length plan.nodes) → IsWorldValue (world_value plan numbers groups es)
first_world plan numbers groups es checked grouping count f e = record {
  staffed = record { checked = checked; grouping = grouping; count = count; plans = λ h g q. (f h g q).plan_is; lists = λ h g q. (f h g q).lists; members = λ h g q. (f h g q).members };
  reached = ([], at_first plan numbers groups es f e);
}

-- ---- a step

-- the world with another group at h, and these records emitted
abbrev with_group : WorldValue → ℕ → GroupValue → List Record → WorldValue
with_group v h new es = world_value v.plan v.numbers (slice_set v.groups h new) es

staffed_put : (v : WorldValue) (h : ℕ) (old new : GroupValue) (es : List Record) → IsStaffed v → h < length v.groups → slice_get v.groups h ≡ Some old → new.plan ≡ old.plan → new.lists ≡ old.lists → has new ≡ has old
    → IsStaffed (with_group v h new es)
staffed_put v h old new es s b e p f m = record {
  checked = s.checked;
  grouping = s.grouping;
  count = same_length v.groups h new ∙ s.count;
  plans = λ j x r. set_cases v.groups h j new x (λ y. y.plan ≡ v.plan) b r (λ _. p ∙ s.plans h old e) (λ q _. s.plans j x q);
  lists = λ j x r. set_cases v.groups h j new x (λ y. y.lists ≡ true) b r (λ _. f ∙ s.lists h old e) (λ q _. s.lists j x q);
  members = λ j x r. set_cases v.groups h j new x (λ y. has y ≡ is_of_group (cast_of v.numbers) j) b r
      (λ same. m ∙ (s.members h old e ∙ ap (is_of_group (cast_of v.numbers)) (sym same))) (λ q _. s.members j x q);
}

at_put : PartyLaws → (v : WorldValue) (w : Scene) (h : ℕ) (new : GroupValue) (q : Party) (es more : List Record) → IsWorldAt w v → h < length v.groups → Matches q new → es ≡ more
    → IsWorldAt (record { parties = put w.parties h q; emitted = more }) (with_group v h new es)
at_put family v w h new q es more at b m e = record {
  emitted = e;
  groups = λ j x r. set_cases v.groups h j new x (λ y. Matches (put w.parties h q j) y) b r
      (λ same. put_at family.parties w.parties h q (λ p. Matches p new) j (λ _. m) (λ n. absurd (n same)))
      (λ r' n. put_at family.parties w.parties h q (λ p. Matches p x) j (λ same. absurd (n same)) (λ _. at.groups j x r'));
}

has_done : (l : Line) (c : Cast) (w : Scene) (e : Event) (new : WorldValue) → possible l c w e ≡ true → IsWorldAt (done l c w e) new → (Done ≡ answer l c w e) × IsWorldAt (happens l c w e) new
has_done l c w e new y at = (sym (cond-true (possible l c w e) Done Idle y), subst (λ s. IsWorldAt s new) (sym (cond-true (possible l c w e) (done l c w e) w y)) at)

has_idled : (l : Line) (c : Cast) (w : Scene) (e : Event) (v : WorldValue) → possible l c w e ≡ false → IsWorldAt w v → (Idle ≡ answer l c w e) × IsWorldAt (happens l c w e) v
has_idled l c w e v n at = (sym (cond-false (possible l c w e) Done Idle n), subst (λ s. IsWorldAt s v) (sym (cond-false (possible l c w e) (done l c w e) w n)) at)

right_false : (a b : Bool) → b ≡ false → (a && b) ≡ false
right_false true b e = e
right_false false b e = refl

is_group : (v : WorldValue) (h : ℕ) → IsStaffed v → h < length v.groups → nat_lt h (groups_of v.numbers) ≡ true
is_group v h s b = lt-ltb h (groups_of v.numbers) (subst (λ n. h < n) s.count b)

no_group : (v : WorldValue) (h : ℕ) → IsStaffed v → length v.groups ≤ h → nat_lt h (groups_of v.numbers) ≡ false
no_group v h s b = le-ltb h (groups_of v.numbers) (subst (λ n. n ≤ h) s.count b)

-- the world after it is one, if the step is the machine's
pub world_stepped : (v : WorldValue) (h : ℕ) (old new : GroupValue) (es : List Record) (e : Event) (a : Answer) → IsWorldValue v → h < length v.groups → slice_get v.groups h ≡ Some old → new.plan ≡ old.plan → new.lists ≡ old.lists → has new ≡ has old
    → HasStepped IsWorldAt (line_of v.plan) (cast_of v.numbers) e v (with_group v h new es) a → IsWorldValue (with_group v h new es)
world_stepped v h old new es e a i b g p f m step = record {
  staffed = staffed_put v h old new es i.staffed b g p f m;
  reached = (
    i.reached.0 ++ e ∷ [],
    subst (λ s. IsWorldAt s (with_group v h new es)) (sym (run_append (line_of v.plan) (cast_of v.numbers) i.reached.0 (e ∷ []) (start (line_of v.plan) (cast_of v.numbers))))
        (step (run (line_of v.plan) (cast_of v.numbers) i.reached.0 (start (line_of v.plan) (cast_of v.numbers))) i.reached.1).1,
  );
}

-- and one whose group stayed
pub same_world : (v : WorldValue) (h : ℕ) (old new : GroupValue) → slice_get v.groups h ≡ Some old → new ≡ old → with_group v h new v.emitted ≡ v
same_world v h old new g e = ap (λ gs. world_value v.plan v.numbers gs v.emitted) (ap (slice_set v.groups h) e ∙ set_got v.groups h old g)

pub unchanged : (v : WorldValue) (h : ℕ) (old new : GroupValue) (es : List Record) → slice_get v.groups h ≡ Some old → new ≡ old → es ≡ v.emitted → with_group v h new es ≡ v
unchanged v h old new es g e f = ap (λ (rs : List Record). with_group v h new rs) f ∙ same_world v h old new g e

-- ---- what was emitted is true of each group's plan

emitted_true : Headline → ((plan : Plan) → IsChecked plan → IsSound (line_of plan)) → (v : WorldValue) → IsWorldValue v → AreTrueOf (length v.plan.nodes) (table_of v.plan) v.emitted
emitted_true headline sound v i =
    subst (AreTrueOf (length v.plan.nodes) (table_of v.plan)) (sym i.reached.1.emitted)
    (headline.faithful (line_of v.plan) (sound v.plan i.staffed.checked) (cast_of v.numbers) i.reached.0).records_true

pub true_for : Headline → ((plan : Plan) → IsChecked plan → IsSound (line_of plan)) → (v : WorldValue) (h k : ℕ) (old : GroupValue) (r : Record) → IsWorldValue v → slice_get v.groups h ≡ Some old → slice_get v.emitted k ≡ Some r
    → IsTrueOfPlan old.plan r
true_for headline sound v h k old r i g t =
    subst (λ (p : Plan). IsTrueOfPlan p r) (sym (i.staffed.plans h old g))
    (true_member (length v.plan.nodes) (table_of v.plan) v.emitted k r (emitted_true headline sound v i) t)

pub nodes_of : (v : WorldValue) (h k : ℕ) (old other : GroupValue) → IsWorldValue v → slice_get v.groups h ≡ Some old → slice_get v.groups k ≡ Some other → IsGroupValue other → other.replica.nodes ≡ length old.plan.nodes
nodes_of v h k old other i g f is =
    subst (λ (p : Plan). other.replica.nodes ≡ length p.nodes) (i.staffed.plans k other f ∙ sym (i.staffed.plans h old g)) is.of_all

pub truth_of : (v : WorldValue) (h k : ℕ) (old other : GroupValue) → IsWorldValue v → slice_get v.groups h ≡ Some old → slice_get v.groups k ≡ Some other → IsGroupValue other
    → HoldsTrue (length old.plan.nodes) (table_of old.plan) (slots_of other.replica)
truth_of v h k old other i g f is =
    subst (λ (p : Plan). HoldsTrue (length p.nodes) (table_of p) (slots_of other.replica)) (i.staffed.plans k other f ∙ sym (i.staffed.plans h old g)) is.holds.truth

-- ---- the four steps

pub delivers : PartyLaws → (v : WorldValue) (h k : ℕ) (old new : GroupValue) (r : Record) → IsStaffed v → h < length v.groups → slice_get v.groups h ≡ Some old → slice_get v.emitted k ≡ Some r
    → ((p : Party) → Matches p old → Matches (party_with (r ∷ []) p) new)
    → HasStepped IsWorldAt (line_of v.plan) (cast_of v.numbers) (Deliver h k) v (with_group v h new v.emitted) Done
delivers family v h k old new r s b g t after w at =
    has_done (line_of v.plan) (cast_of v.numbers) w (Deliver h k) (with_group v h new v.emitted)
    (and_from (nat_lt h (groups_of v.numbers)) (nat_lt k (length w.emitted)) (is_group v h s b) (lt-ltb k (length w.emitted) (subst (λ xs. k < length xs) at.emitted (slice_get_within v.emitted k r t))))
    (at_put family v w h new (party_with (at_most_one (slice_get w.emitted k)) (w.parties h)) v.emitted w.emitted at b
    (subst (λ o. Matches (party_with (at_most_one o) (w.parties h)) new) (sym (ap (λ xs. slice_get xs k) (sym at.emitted) ∙ t)) (after (w.parties h) (at.groups h old g)))
    at.emitted)

pub idle_delivery : (v : WorldValue) (h k : ℕ) → IsStaffed v → (length v.groups ≤ h) ⊎ (length v.emitted ≤ k) → HasStepped IsWorldAt (line_of v.plan) (cast_of v.numbers) (Deliver h k) v v Idle
idle_delivery v h k s (inl b) w at =
    has_idled (line_of v.plan) (cast_of v.numbers) w (Deliver h k) v (ap (λ t. t && nat_lt k (length w.emitted)) (no_group v h s b)) at
idle_delivery v h k s (inr b) w at =
    has_idled (line_of v.plan) (cast_of v.numbers) w (Deliver h k) v
    (right_false (nat_lt h (groups_of v.numbers)) (nat_lt k (length w.emitted)) (le-ltb k (length w.emitted) (subst (λ xs. length xs ≤ k) at.emitted b))) at

pub joins : PartyLaws → (v : WorldValue) (h k : ℕ) (old other new : GroupValue) → IsStaffed v → h < length v.groups → k < length v.groups → slice_get v.groups h ≡ Some old → slice_get v.groups k ≡ Some other
    → ((p : Party) (rs : List Record) → Matches p old → other.replica ≡ state_of (length old.plan.nodes) rs → Matches (party_with rs p) new)
    → HasStepped IsWorldAt (line_of v.plan) (cast_of v.numbers) (Join h k) v (with_group v h new v.emitted) Done
joins family v h k old other new s b d g f after w at =
    has_done (line_of v.plan) (cast_of v.numbers) w (Join h k) (with_group v h new v.emitted)
    (and_from (nat_lt h (groups_of v.numbers)) (nat_lt k (groups_of v.numbers)) (is_group v h s b) (is_group v k s d))
    (at_put family v w h new (party_with (w.parties k).taken (w.parties h)) v.emitted w.emitted at b
    (after (w.parties h) (w.parties k).taken (at.groups h old g)
    (subst (λ (p : Plan). other.replica ≡ state_of (length p.nodes) (w.parties k).taken) (s.plans k other f ∙ sym (s.plans h old g)) (at.groups k other f).replica))
    at.emitted)

pub idle_join : (v : WorldValue) (h k : ℕ) → IsStaffed v → (length v.groups ≤ h) ⊎ (length v.groups ≤ k) → HasStepped IsWorldAt (line_of v.plan) (cast_of v.numbers) (Join h k) v v Idle
idle_join v h k s (inl b) w at =
    has_idled (line_of v.plan) (cast_of v.numbers) w (Join h k) v (ap (λ t. t && nat_lt k (groups_of v.numbers)) (no_group v h s b)) at
idle_join v h k s (inr b) w at =
    has_idled (line_of v.plan) (cast_of v.numbers) w (Join h k) v (right_false (nat_lt h (groups_of v.numbers)) (nat_lt k (groups_of v.numbers)) (no_group v k s b)) at

pub restarts : PartyLaws → (v : WorldValue) (h : ℕ) (old new : GroupValue) → IsStaffed v → h < length v.groups → slice_get v.groups h ≡ Some old → Matches (initial_party (line_of old.plan) (has old)) new
    → HasStepped IsWorldAt (line_of v.plan) (cast_of v.numbers) (Restart h) v (with_group v h new v.emitted) Done
restarts family v h old new s b g m w at =
    has_done (line_of v.plan) (cast_of v.numbers) w (Restart h) (with_group v h new v.emitted) (is_group v h s b)
    (at_put family v w h new (initial_party (line_of v.plan) (is_of_group (cast_of v.numbers) h)) v.emitted w.emitted at b
    (subst (λ f. Matches (initial_party (line_of v.plan) f) new) (s.members h old g) (subst (λ (p : Plan). Matches (initial_party (line_of p) (has old)) new) (s.plans h old g) m))
    at.emitted)

pub idle_restart : (v : WorldValue) (h : ℕ) → IsStaffed v → length v.groups ≤ h → HasStepped IsWorldAt (line_of v.plan) (cast_of v.numbers) (Restart h) v v Idle
idle_restart v h s b w at = has_idled (line_of v.plan) (cast_of v.numbers) w (Restart h) v (no_group v h s b) at

-- a reply that emits
reply_parts : (b e r : Bool) (x rs : List Record) → emitted rs ≡ (if not b then blocked else if e then ended else if r then emitted x else blocked) → ((b && r) ≡ true) × (rs ≡ x)
reply_parts false e r x rs q = absurd cc
reply_parts true true r x rs q = absurd cc
reply_parts true false true x rs q = (refl, cc)
reply_parts true false false x rs q = absurd cc

-- the advance for the plan and the grouping of the world
advanced_in : (v : WorldValue) (h i : ℕ) (old new : GroupValue) (a : Reply) → IsStaffed v → slice_get v.groups h ≡ Some old → HasAdvanced Matches (line_of old.plan) (has old) i old new a
    → HasAdvanced Matches (line_of v.plan) (is_of_group (cast_of v.numbers) h) i old new a
advanced_in v h i old new a s g ad =
    subst (λ f. HasAdvanced Matches (line_of v.plan) f i old new a) (s.members h old g)
    (subst (λ (p : Plan). HasAdvanced Matches (line_of p) (has old) i old new a) (s.plans h old g) ad)

-- a member is a node
pub is_node : GroupingLaws → (v : WorldValue) (h i : ℕ) → IsStaffed v → h < length v.groups → is_of_group (cast_of v.numbers) h i ≡ true → i < length v.plan.nodes
is_node laws v h i s b m = elim (cases_lt i (length v.numbers)) [
  | inl inside ↦ subst (λ n. i < n) s.grouping.0 inside
  | inr outside ↦ absurd (false≢true (sym (laws.no_node v.numbers h i (let few = laws.few v.numbers s.grouping.1 in let there : h < groups_of v.numbers = subst (λ n. h < n) s.count b in omega arith) outside) ∙ m))
]

pub advances : PartyLaws → GroupingLaws → (v : WorldValue) (h i : ℕ) (old new : GroupValue) (rs : List Record) → IsStaffed v → h < length v.groups → slice_get v.groups h ≡ Some old
    → HasAdvanced Matches (line_of old.plan) (has old) i old new (emitted rs)
    → HasStepped IsWorldAt (line_of v.plan) (cast_of v.numbers) (Advance h i) v (with_group v h new (v.emitted ++ rs)) Done
advances family laws v h i old new rs s b g ad w at =
    has_done l c w (Advance h i) (with_group v h new (v.emitted ++ rs))
    (and_from (nat_lt h c.groups) (nat_lt i l.nodes && can_advance l test p i) (is_group v h s b)
    (and_from (nat_lt i l.nodes) (can_advance l test p i) (lt-ltb i l.nodes (is_node laws v h i s b (and_parts (test i) (can_run l i (p.members i) (slots p)) parts.0).0)) parts.0))
    (at_put family v w h new (run_next l i p) (v.emitted ++ rs) (w.emitted ++ emission_of l p i) at b
    (subst (λ q. Matches q new) (cond-true (can_advance l test p i) (run_next l i p) p parts.0) (so.after p (at.groups h old g)))
    (ap (λ xs. xs ++ rs) at.emitted ∙ ap (λ xs. w.emitted ++ xs) parts.1))
  where
    l : Line
    l = line_of v.plan

    c : Cast
    c = cast_of v.numbers

    test : ℕ → Bool
    test = is_of_group c h

    p : Party
    p = w.parties h

    so : HasAdvanced Matches l test i old new (emitted rs)
    so = advanced_in v h i old new (emitted rs) s g ad

    parts : (can_advance l test p i ≡ true) × (rs ≡ emission_of l p i)
    parts = reply_parts (test i) (nat_le l.stop (next_tick l i (p.members i))) (can_run l i (p.members i) (slots p)) (emission_of l p i) rs (so.reply p (at.groups h old g))

stuck_reply : (a b : Reply) (x : List Record) → (a ≡ blocked) ⊎ (a ≡ ended) → a ≡ b → b ≡ emitted x → ⊥
stuck_reply a b x (inl e) f g = cc
stuck_reply a b x (inr e) f g = cc

pub waits : AdvanceLaws → (v : WorldValue) (h i : ℕ) (old new : GroupValue) (a : Reply) → IsStaffed v → slice_get v.groups h ≡ Some old
    → HasAdvanced Matches (line_of old.plan) (has old) i old new a → (a ≡ blocked) ⊎ (a ≡ ended)
    → HasStepped IsWorldAt (line_of v.plan) (cast_of v.numbers) (Advance h i) v v Idle
waits laws v h i old new a s g ad refused w at =
    has_idled l c w (Advance h i) v
    (right_false (nat_lt h c.groups) (nat_lt i l.nodes && can_advance l test p i) (right_false (nat_lt i l.nodes) (can_advance l test p i) stuck)) at
  where
    l : Line
    l = line_of v.plan

    c : Cast
    c = cast_of v.numbers

    test : ℕ → Bool
    test = is_of_group c h

    p : Party
    p = w.parties h

    so : HasAdvanced Matches l test i old new a
    so = advanced_in v h i old new a s g ad

    stuck : can_advance l test p i ≡ false
    stuck = elim (cases_Bool (can_advance l test p i)) [
      | inl y ↦ absurd (stuck_reply a (reply_of l test p i) (emission_of l p i) refused (so.reply p (at.groups h old g)) ((laws.emitted_iff l test p i).1 y))
      | inr n ↦ n
    ]

pub idle_advance : (v : WorldValue) (h i : ℕ) → IsStaffed v → length v.groups ≤ h → HasStepped IsWorldAt (line_of v.plan) (cast_of v.numbers) (Advance h i) v v Idle
idle_advance v h i s b w at =
    has_idled (line_of v.plan) (cast_of v.numbers) w (Advance h i) v
    (ap (λ t. t && (nat_lt i (length v.plan.nodes) && can_advance (line_of v.plan) (is_of_group (cast_of v.numbers) h) (w.parties h) i)) (no_group v h s b)) at

-- a node may advance in the scene where it may in the group
pub may_there : GroupingLaws → ValueLaws → (v : WorldValue) → IsStaffed v → (h : ℕ) (g : GroupValue) → h < length v.groups → slice_get v.groups h ≡ Some g → (w : Scene) → IsWorldAt w v → (i : ℕ)
    → possible (line_of v.plan) (cast_of v.numbers) w (Advance h i) ≡ may_run g i
may_there laws values v s h g b there w at i = elim (cases_Bool can) [
  | inl y ↦
      and_from (nat_lt h c.groups) (nat_lt i l.nodes && can) (is_group v h s b)
      (and_from (nat_lt i l.nodes) can (lt-ltb i l.nodes (is_node laws v h i s b (and_parts (is_of_group c h i) (can_run l i (p.members i) (slots p)) y).0)) y)
      ∙ (sym y ∙ same)
  | inr n ↦ right_false (nat_lt h c.groups) (nat_lt i l.nodes && can) (right_false (nat_lt i l.nodes) can n) ∙ (sym n ∙ same)
]
  where
    l : Line
    l = line_of v.plan

    c : Cast
    c = cast_of v.numbers

    p : Party
    p = w.parties h

    can : Bool
    can = can_advance l (is_of_group c h) p i

    same : can ≡ may_run g i
    same =
        subst (λ (plan : Plan). can_advance (line_of plan) (is_of_group c h) p i ≡ may_run g i) (s.plans h g there)
        (subst (λ f. can_advance (line_of g.plan) f p i ≡ may_run g i) (s.members h g there) (sym (values.may_as g p i (at.groups h g there))))

pub some_as : {A : Type 0} (r : Option A) (P Q : A → Type 0) → ((x : A) → P x → Q x) → IfSome r P → IfSome r Q
some_as None P Q f p = tt
some_as (Some x) P Q f p = f x p

pub none_as : {A P Q : Type 0} (r : Option A) → (P → Q) → IfNone r P → IfNone r Q
none_as None f p = f p
none_as (Some x) f p = tt
