-- The intervals of a run's ticks, made one by one.
use Rattle.std.proofs.Common.{◌≡◌, ℕ, zero, suc, ◌+◌, ◌<◌, ◌≤◌, Bool, true, false, not, ◌&&◌, ◌||◌, cond, inl, inr, List, [], ◌∷◌, ◌++◌, Option, None, Some, refl, sym, ◌∙◌, ap, subst, arith, nat_lt, nat_le, append_assoc}
use Rattle.std.specs.Prelude.{IfSome, IfNone}
use Rattle.std.specs.Option.{option_to_list}
use Rattle.std.proofs.lemmas.Bool.{cases_lt, and_parts, and_right, le-leb, lt-leb, lt-ltb, le-ltb, ltb-true}
use Rattle.std.proofs.Math.Bool.{not-not}
use Rattle.std.proofs.lemmas.List.{append-nil}
use Rattle.wl_intervals.specs.Pairs.{covers, last_end}
use Rattle.wl_lattice.specs.declared.FlatWord.{FlatWord}
use Rattle.wl_replica.specs.Known.{is_tick, tick_in, run_goes_on, is_run, after_edges, known_by, ticks, ticks_from, intervals}
use Rattle.wl_replica.proofs.SmallFacts.{run_part}

-- ---- ticks from a number on
ticks_both : (e : ℕ → FlatWord) (m d : ℕ) → ticks e m ++ ticks_from e m d ≡ ticks e (m + d)
ticks_both e m zero = append-nil (ticks e m) ∙ ap (ticks e) (let same : m ≡ m + 0 = omega arith in same)
ticks_both e m (suc d) =
    sym (append_assoc (ticks e m) (tick_in (e m) ∷ []) (ticks_from e (suc m) d)) ∙ (ticks_both e (suc m) d ∙ ap (ticks e) (let same : suc m + d ≡ m + suc d = omega arith in same))

pub ticks_from_first : (e : ℕ → FlatWord) (n : ℕ) → ticks_from e 0 n ≡ ticks e n
ticks_from_first e n = ticks_both e 0 n ∙ ap (ticks e) (let same : 0 + n ≡ n = omega arith in same)

-- ---- the ticks climb
-- each is at least the one before and one, the first at least low, and the last is below h
abbrev pub Climbs : ℕ → List ℕ → ℕ → Type 0
Climbs low [] h = low ≤ h
Climbs low (t ∷ ts) h = (low ≤ t) × Climbs (suc t) ts h

pub goes_tick : (e : ℕ → FlatWord) (s : ℕ → ℕ) (n : ℕ) → run_goes_on e s n ≡ true → is_tick (e n) ≡ true
goes_tick e s zero h = (and_parts _ _ h).0
goes_tick e s (suc n) h = (and_parts _ _ (and_parts _ _ h).0).0

pub goes_above : (e : ℕ → FlatWord) (s : ℕ → ℕ) (n : ℕ) → run_goes_on e s n ≡ true → after_edges e n ≤ tick_in (e n)
goes_above e s zero h = omega arith
goes_above e s (suc n) h = ltb-true (tick_in (e n)) (tick_in (e (suc n))) (and_parts _ _ h).1

pub run_ticks : (e : ℕ → FlatWord) (s : ℕ → ℕ) (m : ℕ) → is_run e s m ≡ true → (n : ℕ) → n < m → is_tick (e n) ≡ true
run_ticks e s m h n lt = goes_tick e s n (run_part e s m n h lt)

pub climbs_from : (e : ℕ → FlatWord) (s : ℕ → ℕ) (m d n h : ℕ) → n ≡ m + d → is_run e s n ≡ true → after_edges e n ≤ h → Climbs (after_edges e m) (ticks_from e m d) h
climbs_from e s m zero n h is run le = subst (λ k. after_edges e k ≤ h) (let same : n ≡ m = omega arith in same) le
climbs_from e s m (suc d) n h is run le =
    (goes_above e s m (run_part e s n m run (omega arith)), climbs_from e s (suc m) d n h (omega arith) run le)

pub climbs : (e : ℕ → FlatWord) (s : ℕ → ℕ) (n h : ℕ) → is_run e s n ≡ true → after_edges e n ≤ h → Climbs 0 (ticks e n) h
climbs e s n h run le = subst (λ ts. Climbs 0 ts h) (ticks_from_first e n) (climbs_from e s 0 n n h (omega arith) run le)

-- ---- the level at a tick, by the ticks one after the other
abbrev pub flips : List ℕ → ℕ → Bool
flips [] t = false
flips (a ∷ ts) t = cond (nat_le a t) (not (flips ts t)) false

none_yet : (low h t : ℕ) (ts : List ℕ) → Climbs low ts h → t < low → covers (intervals ts h) t ≡ false
none_yet low h t [] c lt = refl
none_yet low h t (x ∷ []) c lt = ap (λ b. (b && nat_lt t h) || false) (lt-leb x t (omega (arith, c.0)))
none_yet low h t (x ∷ y ∷ ts) c lt =
    ap (λ b. (b && nat_lt t y) || covers (intervals ts h) t) (lt-leb x t (omega (arith, c.0))) ∙ none_yet (suc y) h t ts c.1.1 (omega (arith, c.0, c.1.0))

none_flips : (low h t : ℕ) (ts : List ℕ) → Climbs low ts h → t < low → flips ts t ≡ false
none_flips low h t [] c lt = refl
none_flips low h t (x ∷ ts) c lt = ap (λ b. cond b (not (flips ts t)) false) (lt-leb x t (omega (arith, c.0)))

pub covers_flips : (low h t : ℕ) (ts : List ℕ) → Climbs low ts h → t < h → covers (intervals ts h) t ≡ flips ts t
covers_flips low h t [] c lt = refl
covers_flips low h t (x ∷ []) c lt = ap (λ b. (nat_le x t && b) || false) (lt-ltb t h lt) ∙ last (nat_le x t) where
  last : (b : Bool) → ((b && true) || false) ≡ cond b true false
  last true = refl
  last false = refl
covers_flips low h t (x ∷ y ∷ ts) c lt = elim (cases_lt t x) [
  | inl early ↦ none_yet x h t (x ∷ y ∷ ts) (omega arith, c.1) early ∙ sym (none_flips x h t (x ∷ y ∷ ts) (omega arith, c.1) early)
  | inr late ↦ elim (cases_lt t y) [
    | inl mid ↦
        (λ i. (le-leb x t late i && lt-ltb t y mid i) || covers (intervals ts h) t)
        ∙ sym ((λ i. cond (le-leb x t late i) (not (none_flips y h t (y ∷ ts) (omega arith, c.1.1) mid i)) false))
    | inr past ↦
        ap (λ b. b || covers (intervals ts h) t) (and_right (nat_le x t) (nat_lt t y) (le-ltb t y past))
        ∙ (covers_flips (suc y) h t ts c.1.1 lt
        ∙ sym ((λ i. cond (le-leb x t late i) (not (cond (le-leb y t past i) (not (flips ts t)) false)) false) ∙ not-not (flips ts t)))
  ]
]

-- ---- the intervals, made one by one
-- the first tick that may come after some intervals
abbrev pub low_of : Option ℕ → ℕ
low_of None = 0
low_of (Some end) = suc end

-- What is left to be made of the intervals of all ticks: the set so far, since when the level is dominant, and the ticks to come.
pub record IsMade (all : List ℕ) (h : ℕ) (set : List (ℕ × ℕ)) (since : Option ℕ) (left : List ℕ) : Type 0 where
  pub makes : intervals all h ≡ set ++ intervals (option_to_list since ++ left) h
  pub climbs : Climbs (low_of (last_end set)) (option_to_list since ++ left) h

last_end-push : (ps : List (ℕ × ℕ)) (p : ℕ × ℕ) → last_end (ps ++ p ∷ []) ≡ Some p.1
last_end-push [] p = refl
last_end-push (q ∷ []) p = refl
last_end-push (q ∷ r ∷ ps) p = last_end-push (r ∷ ps) p

pub none_made : (all : List ℕ) (h : ℕ) → Climbs 0 all h → IsMade all h [] None all
none_made all h c = record { makes = refl; climbs = c }

behind_last : (o : Option ℕ) (a : ℕ) → low_of o ≤ a → IfSome o (λ end. end < a)
behind_last None a h = tt
behind_last (Some end) a h = h

module _ (all : List ℕ) (h : ℕ) (set : List (ℕ × ℕ)) where
  -- an interval that is open can be closed at the next tick
  pub can_close : (since : Option ℕ) (t : ℕ) (left : List ℕ) → IsMade all h set since (t ∷ left)
      → IfSome since (λ a. a < t) × IfSome since (λ a. IfSome (last_end set) (λ end. end < a))
  can_close None t left m = (tt, tt)
  can_close (Some a) t left m = (m.climbs.1.0, behind_last (last_end set) a m.climbs.0)

  -- and after the last tick at the horizon
  pub can_end : (a : ℕ) → IsMade all h set (Some a) [] → (a < h) × IfSome (last_end set) (λ end. end < a)
  can_end a m = (m.climbs.1, behind_last (last_end set) a m.climbs.0)

  pub made_open : (t : ℕ) (left : List ℕ) → IsMade all h set None (t ∷ left) → IsMade all h set (Some t) left
  made_open t left m = record { makes = m.makes; climbs = m.climbs }

  pub made_closed : (a t : ℕ) (left : List ℕ) → IsMade all h set (Some a) (t ∷ left) → IsMade all h (set ++ (a, t) ∷ []) None left
  made_closed a t left m = record {
    makes = m.makes ∙ sym (append_assoc set ((a, t) ∷ []) (intervals left h));
    climbs = subst (λ o. Climbs (low_of o) left h) (sym (last_end-push set (a, t))) m.climbs.1.1;
  }

  -- after one tick more, by what the step did
  pub made_more : (since after : Option ℕ) (new : List (ℕ × ℕ)) (t : ℕ) (left : List ℕ) → IsMade all h set since (t ∷ left)
      → IfNone since ((new ≡ set) × (after ≡ Some t)) → IfSome since (λ a. (new ≡ set ++ (a, t) ∷ []) × (after ≡ None)) → IsMade all h new after left
  made_more None after new t left m p q = subst (λ s. IsMade all h s after left) (sym p.0) (subst (λ o. IsMade all h set o left) (sym p.1) (made_open t left m))
  made_more (Some a) after new t left m p q = subst (λ s. IsMade all h s after left) (sym q.0) (subst (λ o. IsMade all h (set ++ (a, t) ∷ []) o left) (sym q.1) (made_closed a t left m))

  pub all_made : IsMade all h set None [] → set ≡ intervals all h
  all_made m = sym (m.makes ∙ append-nil set)

  pub all_ended : (a : ℕ) → IsMade all h set (Some a) [] → set ++ (a, h) ∷ [] ≡ intervals all h
  all_ended a m = sym m.makes

-- ---- at the start and at the end
after_known : (e : ℕ → FlatWord) (s : ℕ → ℕ) (n : ℕ) → after_edges e n ≤ known_by e s n
after_known e s n = omega arith

pub level_is : (e : ℕ → FlatWord) (s : ℕ → ℕ) (n t : ℕ) → is_run e s n ≡ true → t < known_by e s n → flips (ticks e n) t ≡ covers (intervals (ticks e n) (known_by e s n)) t
level_is e s n t run lt = sym (covers_flips 0 (known_by e s n) t (ticks e n) (climbs e s n (known_by e s n) run (after_known e s n)) lt)

pub made_first : (e : ℕ → FlatWord) (s : ℕ → ℕ) (n h : ℕ) (set : List (ℕ × ℕ)) (left : List ℕ) → is_run e s n ≡ true → h ≡ known_by e s n → set ≡ [] → left ≡ ticks e n
    → IsMade (ticks e n) h set None left
made_first e s n h set left run is none all =
    let climb : Climbs 0 (ticks e n) h = climbs e s n h run (subst (λ k. after_edges e n ≤ k) (sym is) (after_known e s n)) in
    subst (λ ps. IsMade (ticks e n) h ps None left) (sym none) (subst (λ ts. IsMade (ticks e n) h [] None ts) (sym all) (none_made (ticks e n) h climb))
