-- A node that ran on by what all have told ran on beside what the others drove.
use Rattle.std.proofs.Common.{◌≡◌, ℕ, suc, ◌+◌, ◌-◌, ◌<◌, ◌≤◌, ◌≢◌, Bool, true, not, ◌&&◌, ◌==◌, inl, inr, List, [], ◌++◌, length, get_or, refl, sym, ◌∙◌, ap, subst, arith, append-nil, append_assoc, nat_le, if◌then◌else◌, eq-eqb}
use Rattle.std.proofs.Math.ListN.{length-set}
use Rattle.std.proofs.lemmas.Bool.{cases_eq, le-leb}
use Rattle.std.proofs.lemmas.List.{get_or-set_same, get_or-set_other}
use Rattle.wl_level.specs.Levels.{level_of}
use Rattle.wl_topology.specs.Delays.{delay_of}
use Rattle.wl_record_core.specs.Truth.{count_below, odd}
use Rattle.wl_node.specs.Reached.{IsNode}
use Rattle.wl_plan.specs.declared.plan.Plan.{Plan}
use Rattle.wl_plan.specs.PlanLine.{line_of}
use Rattle.wl_plan.specs.Line.{Line}
use Rattle.wl_plan.specs.Simulation.{level}
use Rattle.wl_plan.specs.SimulationLaws.{SimulationLaws}
use Rattle.wl_plan.specs.Guess.{GuessLaws, beside, from_others}
use Rattle.wl_plan.specs.Sound.{IsSound}
use Rattle.wl_serial.specs.declared.running_node.Running.{Running}
use Rattle.wl_serial.specs.Guess.{GoesBeside, HasRunBeside, RanAlone, RanUpTo}
use Rattle.wl_serial.specs.LineAt.{sees, tells}
use Rattle.wl_serial.specs.Running.{AreSomewhere, GoesOn, IsKnownOn, IsLater, IsSomewhere, OwnIsTold}
use Rattle.wl_serial.specs.Stretch.{HasStretched, TellsTheSame}

-- of the others alone
hidden : (i j : ℕ) (x y : Bool) → (i ≢ j → x ≡ y) → (not (i == j) && x) ≡ (not (i == j) && y)
hidden i j x y same = elim (cases_eq i j) [
  | inl own ↦ ap (λ v. not v && x) (eq-eqb i j own) ∙ sym (ap (λ v. not v && y) (eq-eqb i j own))
  | inr other ↦ ap (λ v. not (i == j) && v) (same other)
]

pub others_same : (l : Line) (drove other : ℕ → ℕ → Bool) (j t : ℕ) → SimulationLaws → ((i : ℕ) → i < l.nodes → i ≢ j → l.delay i j ≤ t → drove i (t - l.delay i j) ≡ other i (t - l.delay i j))
    → from_others l drove j t ≡ from_others l other j t
others_same l drove other j t laws same =
    laws.found_same l (λ i u. not (i == j) && drove i u) (λ i u. not (i == j) && other i u) j t
    (λ i b late. hidden i j (drove i (t - l.delay i j)) (other i (t - l.delay i j)) (λ ne. same i b ne late))

both_true : (b x y : Bool) → b ≡ true → (b && x) ≡ (b && y) → x ≡ y
both_true b x y e h = sym (ap (λ v. v && x) e) ∙ (h ∙ ap (λ v. v && y) e)

-- its own drive, as it comes back to it
own_told : (l : Line) (shown : ℕ → Bool) (j t : ℕ) (xs : List ℕ) → OwnIsTold (beside l shown) j xs t → l.delay j j ≤ t
    → level (beside l shown) j (t - l.delay j j) ≡ odd (count_below (t - l.delay j j + 1) xs)
own_told l shown j t xs told late =
    let same : (beside l shown).delay j j ≡ l.delay j j = ap (λ v. if v then l.delay j j else suc l.stop) (eq-eqb j j refl) in
    let here = subst (λ n. (nat_le n t && level (beside l shown) j (t - n)) ≡ (nat_le n t && odd (count_below (t - n + 1) xs))) same told in
    both_true (nat_le (l.delay j j) t) (level (beside l shown) j (t - l.delay j j)) (odd (count_below (t - l.delay j j + 1) xs)) (le-leb (l.delay j j) t late) here

goes_beside : (plan : Plan) (rs : List Running) (j until : ℕ) (d r : Running) → GuessLaws → IsSound (line_of plan) → j < length plan.nodes → until ≤ plan.end
    → GoesOn plan j (sees plan rs d j) until (get_or rs j d) r → GoesBeside plan j (tells rs d) (get_or rs j d) r
goes_beside plan rs j until d r guess sound b ends goes shown k run is =
    goes (beside (line_of plan) shown).delay (beside (line_of plan) shown).disturbed k (guess.causal (line_of plan) shown sound.causal) run
    (λ t after before early told.
    sym (ap level_of (guess.parts (line_of plan) (level (beside (line_of plan) shown)) (tells rs d) shown j t b (omega (arith, before, ends)) (is t after early)
    (own_told (line_of plan) shown j t (get_or rs j d).changes told))))

-- one after the other
pub goes_then : (plan : Plan) (i : ℕ) (drove : ℕ → ℕ → Bool) (a b c : Running) → a.next ≤ b.next → b.next ≤ c.next → GoesBeside plan i drove a b → GoesBeside plan i drove b c → GoesBeside plan i drove a c
goes_then plan i drove a b c first second g h shown k run is =
    let there = g shown k run (λ t after before. is t after (omega (arith, before, second))) in
    h shown there.0 there.1 (λ t after before. is t (omega (arith, after, first)) before)

pub goes_as : (plan : Plan) (i : ℕ) (drove other : ℕ → ℕ → Bool) (a b : Running) → SimulationLaws → ((m u : ℕ) → m ≢ i → other m u ≡ drove m u)
    → GoesBeside plan i drove a b → GoesBeside plan i other a b
goes_as plan i drove other a b laws same g shown k run is =
    g shown k run (λ t after before. is t after before ∙ others_same (line_of plan) other drove i t laws (λ m c ne late. same m (t - delay_of plan.topology m i) ne))

pub later_then : (a b c : Running) → IsLater a b → IsLater b c → IsLater a c
later_then a b c g h = record {
  setup = h.setup ∙ g.setup;
  node = λ levels is.
      let one = g.node levels is in
      let two = h.node (levels ++ one.0) one.1 in
      (one.0 ++ two.0, subst (λ ls. IsNode ls c.node) (append_assoc levels one.0 two.0) two.1);
  changes = (g.changes.0 ++ h.changes.0, h.changes.1 ∙ (ap (λ xs. xs ++ h.changes.0) g.changes.1 ∙ append_assoc a.changes g.changes.0 h.changes.0));
  next = (let x = g.next in let y = h.next in omega (arith, x, y));
  keeps = h.keeps ∙ g.keeps;
}

pub later_none : (a : Running) → IsLater a a
later_none a = record {
  setup = refl;
  node = λ levels is. ([], subst (λ ls. IsNode ls a.node) (sym (append-nil levels)) is);
  changes = ([], sym (append-nil a.changes));
  next = omega arith;
  keeps = refl;
}

known_then : (a b c : Running) → b.next ≤ c.next → IsKnownOn a b → IsKnownOn b c → IsKnownOn a c
known_then a b c later g h = record {
  promised = λ was. h.promised (g.promised was);
  known = elim h.known [
    | inr new ↦ inr new
    | inl old ↦ elim g.known [
      | inl first ↦ inl (omega (arith, old, first))
      | inr second ↦ inr (omega (arith, old, second, later))
    ]
  ];
}

pub below_then : (plan : Plan) (i until : ℕ) (a b c : Running) → RanUpTo plan i until a b → RanUpTo plan i until b c → RanUpTo plan i until a c
below_then plan i until a b c g h q before = elim (h q before) [
  | inl ahead ↦ inl ahead
  | inr ran ↦ g q ran
]

-- none at all
pub ran_none : (plan : Plan) (i until : ℕ) (rs : List Running) → AreSomewhere plan rs → i < length rs → RanAlone plan i until rs rs
ran_none plan i until rs somewhere b = record {
  all = refl;
  others = λ k d other. refl;
  ran = λ d. record {
    somewhere = somewhere.each i d b;
    goes = λ shown k run is. (k, run);
    below = λ q before. inr before;
    known = record { promised = λ was. was; known = inl (omega arith) };
    further = later_none (get_or rs i d);
  };
}

-- others tell what they told
told_by_others : (i : ℕ) (old new : List Running) (d : Running) → ((k : ℕ) (e : Running) → k ≢ i → get_or new k e ≡ get_or old k e) → (m u : ℕ) → m ≢ i → tells old d m u ≡ tells new d m u
told_by_others i old new d others m u other = ap (λ x. odd (count_below (u + 1) x.changes)) (sym (others m d other))

-- a stretch more
pub ran_more : (plan : Plan) (i until upto : ℕ) (old rs new : List Running) → GuessLaws → SimulationLaws → IsSound (line_of plan) → i < length plan.nodes → i < length rs → upto ≤ until → until ≤ plan.end
    → RanAlone plan i until old rs → HasStretched plan i upto rs new → RanAlone plan i until old new
ran_more plan i until upto old rs new guess laws sound node b less ends was more =
    subst (RanAlone plan i until old) (sym more.is) (record {
      all = length-set rs i more.r ∙ was.all;
      others = λ k d other. get_or-set_other rs i k more.r d other ∙ was.others k d other;
      ran = λ d.
          let one = was.ran d in
          let here = get_or-set_same rs i more.r d b in
          let late = one.further.next in
          let later = more.later d in
          subst (λ x. HasRunBeside plan i until (tells old d) (get_or old i d) x) (sym here) (record {
            somewhere = more.somewhere;
            goes = goes_then plan i (tells old d) (get_or old i d) (get_or rs i d) more.r late (omega (arith, later)) one.goes
                (goes_as plan i (tells rs d) (tells old d) (get_or rs i d) more.r laws (told_by_others i old rs d was.others)
                (goes_beside plan rs i upto d more.r guess sound node (omega (arith, less, ends)) (more.goes d)));
            below = below_then plan i until (get_or old i d) (get_or rs i d) more.r one.below (λ q before. inl (let f = more.below q before in omega (arith, f, less)));
            known = known_then (get_or old i d) (get_or rs i d) more.r (omega (arith, later)) one.known (more.known d);
            further = later_then (get_or old i d) (get_or rs i d) more.r one.further (more.further d);
          });
    })

-- all are somewhere while one runs alone
pub somewhere_on : (plan : Plan) (i until : ℕ) (old new : List Running) → AreSomewhere plan old → RanAlone plan i until old new → AreSomewhere plan new
somewhere_on plan i until old new were ran = record {
  all = ran.all ∙ were.all;
  each = λ k d b. elim (cases_eq k i) [
    | inl own ↦ subst (λ n. IsSomewhere plan n (get_or new n d)) (sym own) (ran.ran d).somewhere
    | inr other ↦ subst (IsSomewhere plan k) (sym (ran.others k d other)) (were.each k d (let e = ran.all in omega (arith, b, e)))
  ];
}

pub tells_then : (i : ℕ) (a b c : List Running) → length b ≡ length a → TellsTheSame i a b → TellsTheSame i b c → TellsTheSame i a c
tells_then i a b c all g h d inside = h d (omega (arith, inside, all)) ∙ g d inside

-- its next quantum is later
pub later_stretch : (plan : Plan) (i until : ℕ) (rs new : List Running) (d : Running) → i < length rs → HasStretched plan i until rs new → (get_or rs i d).next < (get_or new i d).next
later_stretch plan i until rs new d b more =
    subst (λ xs. (get_or rs i d).next < (get_or xs i d).next) (sym more.is) (let e = ap (λ r. r.next) (get_or-set_same rs i more.r d b) in let f = more.later d in omega (arith, e, f))
