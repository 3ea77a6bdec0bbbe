-- Lists of intervals as sets of ticks: two that hold the same ticks are one list; a shift and a cut.
use Rattle.std.proofs.Common.{◌≡◌, ℕ, suc, ◌+◌, ◌<◌, ◌≤◌, ◌&&◌, ◌||◌, ◌∙◌, inl, inr, true, false, nat_lt, nat_le, List, [], ◌∷◌, refl, sym, ap, arith}
use Rattle.std.proofs.lemmas.Bool.{cases_lt, lt-ltb, le-ltb, le-leb, lt-leb, and_right, and_from, or_from, or_left, both_ways}
use Rattle.wl_intervals.specs.Pairs.{covers, AreFrom, AreIntervals, later_by}
use Rattle.wl_intervals.proofs.PairLaws.{not_below, AreFrom-lower}

-- its first tick is held by the first pair
first_held : (p : ℕ × ℕ) (ps : List (ℕ × ℕ)) → p.0 < p.1 → covers (p ∷ ps) p.0 ≡ true
first_held p ps h = or_left _ _ (and_from _ _ (le-leb p.0 p.0 (omega arith)) (lt-ltb p.0 p.1 h))

-- two lists cannot begin apart
begins_no_later : (low next : ℕ) (p q : ℕ × ℕ) (ps qs : List (ℕ × ℕ)) → AreFrom low (p ∷ ps) → AreFrom next (q ∷ qs) → ((t : ℕ) → covers (p ∷ ps) t ≡ covers (q ∷ qs) t) → q.0 ≤ p.0
begins_no_later low next p q ps qs h g e =
    elim (cases_lt p.0 q.0) [
      | inl before ↦ absurd (both_ways _ (not_below q.0 (q ∷ qs) p.0 (omega arith, g.1, g.2) before) (sym (e p.0) ∙ first_held p ps h.1))
      | inr after ↦ after
    ]

-- nor may the first pair of one end before that of the other
ends_no_sooner : (p q : ℕ × ℕ) (ps qs : List (ℕ × ℕ)) → p.0 < p.1 → p.0 ≡ q.0 → AreFrom (suc p.1) ps → ((t : ℕ) → covers (p ∷ ps) t ≡ covers (q ∷ qs) t) → q.1 ≤ p.1
ends_no_sooner p q ps qs some same h e =
    elim (cases_lt p.1 q.1) [
      | inl before ↦ absurd (both_ways _ (or_from _ _ (and_right _ _ (le-ltb p.1 p.1 (omega arith))) (not_below (suc p.1) ps p.1 h (omega arith)))
          (e p.1 ∙ or_left _ _ (and_from _ _ (le-leb q.0 p.1 (omega arith)) (lt-ltb p.1 q.1 before))))
      | inr after ↦ after
    ]

-- after the first pair its list decides
behind : (p : ℕ × ℕ) (ps : List (ℕ × ℕ)) (t : ℕ) → p.1 ≤ t → covers (p ∷ ps) t ≡ covers ps t
behind p ps t h = ap (λ b. b || covers ps t) (and_right (nat_le p.0 t) (nat_lt t p.1) (le-ltb t p.1 h))

rest_same : (p q : ℕ × ℕ) (ps qs : List (ℕ × ℕ)) → p.1 ≡ q.1 → AreFrom (suc p.1) ps → AreFrom (suc q.1) qs → ((t : ℕ) → covers (p ∷ ps) t ≡ covers (q ∷ qs) t)
    → (t : ℕ) → covers ps t ≡ covers qs t
rest_same p q ps qs ends h g e t =
    elim (cases_lt t p.1) [
      | inl before ↦ not_below (suc p.1) ps t h (omega arith) ∙ sym (not_below (suc q.1) qs t g (omega arith))
      | inr after ↦ sym (behind p ps t after) ∙ e t ∙ behind q qs t (omega arith)
    ]

pub same_set : (low next : ℕ) (ps qs : List (ℕ × ℕ)) → AreFrom low ps → AreFrom next qs → ((t : ℕ) → covers ps t ≡ covers qs t) → ps ≡ qs
same_set low next [] [] h g e = refl
same_set low next [] (q ∷ qs) h g e = absurd (both_ways (covers (q ∷ qs) q.0) (sym (e q.0)) (first_held q qs g.1))
same_set low next (p ∷ ps) [] h g e = absurd (both_ways (covers (p ∷ ps) p.0) (e p.0) (first_held p ps h.1))
same_set low next (p ∷ ps) (q ∷ qs) h g e =
    let a : q.0 ≤ p.0 = begins_no_later low next p q ps qs h g e in
    let b : p.0 ≤ q.0 = begins_no_later next low q p qs ps g h (λ t. sym (e t)) in
    let starts : p.0 ≡ q.0 = omega arith in
    let c : q.1 ≤ p.1 = ends_no_sooner p q ps qs h.1 starts h.2 e in
    let d : p.1 ≤ q.1 = ends_no_sooner q p qs ps g.1 (sym starts) g.2 (λ t. sym (e t)) in
    let ends : p.1 ≡ q.1 = omega arith in
    let rest : ps ≡ qs = same_set (suc p.1) (suc q.1) ps qs h.2 g.2 (rest_same p q ps qs ends h.2 g.2 e) in
    λ i. (starts i, ends i) ∷ rest i

-- all ticks later by d
pub later_by_from : (low d : ℕ) (ps : List (ℕ × ℕ)) → AreFrom low ps → AreFrom (low + d) (later_by d ps)
later_by_from low d [] h = tt
later_by_from low d (p ∷ ps) h =
    (omega (arith, h.0), omega (arith, h.1), AreFrom-lower (suc (p.1 + d)) (suc p.1 + d) (later_by d ps) (omega arith) (later_by_from (suc p.1) d ps h.2))

leb_later : (a b d : ℕ) → nat_le (a + d) (b + d) ≡ nat_le a b
leb_later a b d =
    elim (cases_lt b a) [
      | inl below ↦ lt-leb (a + d) (b + d) (omega arith) ∙ sym (lt-leb a b below)
      | inr above ↦ le-leb (a + d) (b + d) (omega arith) ∙ sym (le-leb a b above)
    ]

ltb_later : (a b d : ℕ) → nat_lt (a + d) (b + d) ≡ nat_lt a b
ltb_later a b d =
    elim (cases_lt a b) [
      | inl below ↦ lt-ltb (a + d) (b + d) (omega arith) ∙ sym (lt-ltb a b below)
      | inr above ↦ le-ltb (a + d) (b + d) (omega arith) ∙ sym (le-ltb a b above)
    ]

pub covers-later_by : (d : ℕ) (ps : List (ℕ × ℕ)) (t : ℕ) → covers (later_by d ps) (t + d) ≡ covers ps t
covers-later_by d [] t = refl
covers-later_by d (p ∷ ps) t =
    ap (λ b. (b && nat_lt (t + d) (p.1 + d)) || covers (later_by d ps) (t + d)) (leb_later p.0 t d)
    ∙ ap (λ b. (nat_le p.0 t && b) || covers (later_by d ps) (t + d)) (ltb_later t p.1 d)
    ∙ ap (λ b. (nat_le p.0 t && nat_lt t p.1) || b) (covers-later_by d ps t)

pub covers_before_shift : (d : ℕ) (ps : List (ℕ × ℕ)) (t : ℕ) → AreIntervals ps → t < d → covers (later_by d ps) t ≡ false
covers_before_shift d ps t h lt = not_below (0 + d) (later_by d ps) t (later_by_from 0 d ps h) (omega arith)

pub intervals_later_by : (d : ℕ) (ps : List (ℕ × ℕ)) → AreIntervals ps → AreIntervals (later_by d ps)
intervals_later_by d ps h = AreFrom-lower 0 (0 + d) (later_by d ps) (omega arith) (later_by_from 0 d ps h)
