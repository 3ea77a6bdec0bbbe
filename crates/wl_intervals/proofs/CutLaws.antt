-- The part of a list of intervals below a tick.
use Rattle.std.proofs.Common.{◌≡◌, ℕ, zero, suc, ◌<◌, ◌≤◌, ◌&&◌, ◌||◌, ◌∙◌, inl, inr, Bool, true, false, nat_lt, nat_le, List, [], ◌∷◌, ◌++◌, length, take, refl, sym, ap, arith}
use Rattle.std.proofs.lemmas.Bool.{cases_lt, lt-ltb, le-ltb, and_right, or_from, ltb-true, and_parts, and_left}
use Rattle.wl_intervals.specs.Pairs.{covers, AreFrom}
use Rattle.wl_intervals.specs.Search.{pair_at, IsPlace}
use Rattle.wl_intervals.proofs.PairLaws.{not_below}

-- one pair more in front
behind : (p : ℕ × ℕ) (ps : List (ℕ × ℕ)) (t k : ℕ) → IsPlace (p ∷ ps) t (suc k) → IsPlace ps t k
behind p ps t k h = record {
  inside = omega (arith, h.inside);
  before = λ j lt. h.before (suc j) (omega arith);
  after = λ j from lt. h.after (suc j) (omega arith) (omega arith);
}

-- a pair that ends by t holds ticks below t alone
with_front : (p : ℕ × ℕ) (t u : ℕ) (part all : Bool) → p.1 ≤ t → part ≡ (all && nat_lt u t)
    → ((nat_le p.0 u && nat_lt u p.1) || part) ≡ (((nat_le p.0 u && nat_lt u p.1) || all) && nat_lt u t)
with_front p t u part all ends e = ap (λ b. (nat_le p.0 u && nat_lt u p.1) || b) e ∙ spread (nat_le p.0 u && nat_lt u p.1) all (nat_lt u t) below
  where
    below : (nat_le p.0 u && nat_lt u p.1) ≡ true → nat_lt u t ≡ true
    below held = let inside : u < p.1 = ltb-true u p.1 (and_parts (nat_le p.0 u) (nat_lt u p.1) held).1 in lt-ltb u t (omega arith)

    spread : (a b c : Bool) → (a ≡ true → c ≡ true) → (a || (b && c)) ≡ ((a || b) && c)
    spread true b c h = sym (h refl)
    spread false b c h = refl

-- Where the first pair that ends after t begins at t or later, or there is none, the pairs before it are the part.
pub front_from : (low : ℕ) (ps : List (ℕ × ℕ)) (k : ℕ) → AreFrom low ps → AreFrom low (take k ps)
front_from low ps zero h = tt
front_from low [] (suc k) h = tt
front_from low (p ∷ ps) (suc k) h = (h.0, h.1, front_from (suc p.1) ps k h.2)

pub covers_front : (low : ℕ) (ps : List (ℕ × ℕ)) (t k u : ℕ) → AreFrom low ps → IsPlace ps t k → (k < length ps → t ≤ (pair_at ps k).0)
    → covers (take k ps) u ≡ (covers ps u && nat_lt u t)
covers_front low [] t zero u h g later = refl
covers_front low [] t (suc k) u h g later = refl
covers_front low (p ∷ ps) t zero u h g later =
    elim (cases_lt u t) [
      | inl below ↦ sym (and_left _ _ (not_below p.0 (p ∷ ps) u (omega arith, h.1, h.2) (omega (arith, later (omega arith)))))
      | inr above ↦ sym (and_right _ _ (le-ltb u t above))
    ]
covers_front low (p ∷ ps) t (suc k) u h g later =
    with_front p t u (covers (take k ps) u) (covers ps u) (g.before 0 (omega arith)) (covers_front (suc p.1) ps t k u h.2 (behind p ps t k g) (λ lt. later (omega arith)))

-- Else that pair is cut.
pub cut_from : (low : ℕ) (ps : List (ℕ × ℕ)) (t k : ℕ) → AreFrom low ps → IsPlace ps t k → k < length ps → (pair_at ps k).0 < t
    → AreFrom low (take k ps ++ ((pair_at ps k).0, t) ∷ [])
cut_from low [] t k h g lt begun = absurd (omega arith)
cut_from low (p ∷ ps) t zero h g lt begun = (h.0, begun, tt)
cut_from low (p ∷ ps) t (suc k) h g lt begun = (h.0, h.1, cut_from (suc p.1) ps t k h.2 (behind p ps t k g) (omega arith) begun)

pub covers_cut : (low : ℕ) (ps : List (ℕ × ℕ)) (t k u : ℕ) → AreFrom low ps → IsPlace ps t k → k < length ps → (pair_at ps k).0 < t
    → covers (take k ps ++ ((pair_at ps k).0, t) ∷ []) u ≡ (covers ps u && nat_lt u t)
covers_cut low [] t k u h g lt begun = absurd (omega arith)
covers_cut low (p ∷ ps) t zero u h g lt begun =
    elim (cases_lt u t) [
      | inl below ↦ (
          let early : nat_lt u t ≡ true = lt-ltb u t below in
          let inside : nat_lt u p.1 ≡ true = lt-ltb u p.1 (omega (arith, g.after 0 (omega arith) (omega arith))) in
          let rest : covers ps u ≡ false = not_below (suc p.1) ps u h.2 (omega (arith, g.after 0 (omega arith) (omega arith))) in
          rw (early, inside, rest) (one (nat_le p.0 u)))
      | inr above ↦ or_from _ _ (and_right _ _ (le-ltb u t above)) refl ∙ sym (and_right _ _ (le-ltb u t above))
    ]
  where
    one : (a : Bool) → ((a && true) || false) ≡ (((a && true) || false) && true)
    one true = refl
    one false = refl
covers_cut low (p ∷ ps) t (suc k) u h g lt begun =
    with_front p t u (covers (take k ps ++ ((pair_at ps k).0, t) ∷ []) u) (covers ps u) (g.before 0 (omega arith))
    (covers_cut (suc p.1) ps t k u h.2 (behind p ps t k g) (omega arith) begun)
