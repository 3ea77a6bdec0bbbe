-- A list of intervals with one more that begins no sooner than the others.
use Rattle.std.proofs.Common.{◌≡◌, ℕ, zero, suc, ◌+◌, ◌<◌, ◌≤◌, ◌&&◌, ◌||◌, ◌∙◌, Bool, true, false, cond, max, nat_lt, nat_le, List, [], ◌∷◌, ◌++◌, length, take, add-one, get_or, set, refl, sym, ap, subst, arith}
use Rattle.std.proofs.lemmas.Bool.{le-leb, lt-leb, cond_both, leb-true, leb-false}
use Rattle.std.proofs.lemmas.Bool.Decides.{nat_tests}
use Rattle.std.proofs.lemmas.List.{take_more}
use Rattle.wl_intervals.specs.Pairs.{covers, has_tick, AreFrom, AreIntervals}
use Rattle.wl_intervals.specs.Search.{with_pair, BeginBy, pair_at, IsNextPair, IsMerged}
use Rattle.wl_intervals.proofs.PairLaws.{or_again, covers-append, each_holds, each_from}

or_none : (a b : Bool) → ((a || false) || b) ≡ (a || (b || false))
or_none true b = refl
or_none false true = refl
or_none false false = refl

or_nothing : (a : Bool) → (a || false) ≡ a
or_nothing true = refl
or_nothing false = refl

-- a longer pair holds what both hold
holds_both : (p q : ℕ × ℕ) (t : ℕ) → p.0 ≤ q.0 → p.0 < p.1 → q.0 < q.1 → q.0 ≤ p.1
    → (nat_le p.0 t && nat_lt t (max p.1 q.1)) ≡ ((nat_le p.0 t && nat_lt t p.1) || (nat_le q.0 t && nat_lt t q.1))
holds_both p q t starts some more meets = grind (arith, nat_tests)

pub with_pair_from : (low : ℕ) (ps : List (ℕ × ℕ)) (q : ℕ × ℕ) → AreFrom low ps → BeginBy q.0 ps → low ≤ q.0 → q.0 < q.1 → AreFrom low (with_pair ps q)
with_pair_from low [] q h starts from some = (from, some, tt)
with_pair_from low (p ∷ []) q h starts from some =
    cond_both (nat_le q.0 p.1) _ _ (AreFrom low)
    (λ meets. (h.0, omega (arith, h.1), tt))
    (λ apart. (h.0, h.1, (leb-false q.0 p.1 apart, some, tt)))
with_pair_from low (p ∷ r ∷ ps) q h starts from some =
    (h.0, h.1, with_pair_from (suc p.1) (r ∷ ps) q h.2 starts.1 (omega (arith, h.2.0, starts.1.0)) some)

pub covers-with_pair : (low : ℕ) (ps : List (ℕ × ℕ)) (q : ℕ × ℕ) (t : ℕ) → AreFrom low ps → BeginBy q.0 ps → q.0 < q.1
    → covers (with_pair ps q) t ≡ (covers ps t || has_tick q t)
covers-with_pair low [] q t h starts some = or_nothing (has_tick q t)
covers-with_pair low (p ∷ []) q t h starts some = go (nat_le q.0 p.1) refl
  where
    go : (b : Bool) → nat_le q.0 p.1 ≡ b → covers (cond b ((p.0, max p.1 q.1) ∷ []) (p ∷ q ∷ [])) t ≡ (((nat_le p.0 t && nat_lt t p.1) || false) || has_tick q t)
    go true e =
        ap (λ b. b || false) (holds_both p q t starts.0 h.1 some (leb-true q.0 p.1 e))
        ∙ or_nothing _ ∙ sym (or_none (nat_le p.0 t && nat_lt t p.1) (has_tick q t) ∙ ap (λ b. (nat_le p.0 t && nat_lt t p.1) || b) (or_nothing (has_tick q t)))
    go false e = sym (or_none (nat_le p.0 t && nat_lt t p.1) (has_tick q t))
covers-with_pair low (p ∷ r ∷ ps) q t h starts some =
    ap (λ b. (nat_le p.0 t && nat_lt t p.1) || b) (covers-with_pair (suc p.1) (r ∷ ps) q t h.2 starts.1 some)
    ∙ or_again (nat_le p.0 t && nat_lt t p.1) (covers (r ∷ ps) t) (has_tick q t)

pub BeginBy-with_pair : (t : ℕ) (ps : List (ℕ × ℕ)) (q : ℕ × ℕ) → BeginBy t ps → q.0 ≤ t → BeginBy t (with_pair ps q)
BeginBy-with_pair t [] q starts le = (le, tt)
BeginBy-with_pair t (p ∷ []) q starts le = cond_both (nat_le q.0 p.1) _ _ (BeginBy t) (λ meets. (starts.0, tt)) (λ apart. (starts.0, (le, tt)))
BeginBy-with_pair t (p ∷ r ∷ ps) q starts le = (starts.0, BeginBy-with_pair t (r ∷ ps) q starts.1 le)

pub BeginBy-later : (t u : ℕ) (ps : List (ℕ × ℕ)) → t ≤ u → BeginBy t ps → BeginBy u ps
BeginBy-later t u [] le starts = tt
BeginBy-later t u (p ∷ ps) le starts = (omega (arith, starts.0), BeginBy-later t u ps le starts.1)

-- how the code does it: by a push, or by a longer last pair
pub with_pair_pushed : (ps : List (ℕ × ℕ)) (q d : ℕ × ℕ) (k : ℕ) → length ps ≡ suc k → (get_or ps k d).1 < q.0 → with_pair ps q ≡ ps ++ q ∷ []
with_pair_pushed [] q d k e apart = absurd (omega arith)
with_pair_pushed (p ∷ []) q d zero e apart = ap (λ b. cond b ((p.0, max p.1 q.1) ∷ []) (p ∷ q ∷ [])) (lt-leb q.0 p.1 apart)
with_pair_pushed (p ∷ []) q d (suc k) e apart = absurd (omega arith)
with_pair_pushed (p ∷ r ∷ ps) q d zero e apart = absurd (omega arith)
with_pair_pushed (p ∷ r ∷ ps) q d (suc k) e apart = ap (λ rest. p ∷ rest) (with_pair_pushed (r ∷ ps) q d k (omega arith) apart)

pub with_pair_set : (ps : List (ℕ × ℕ)) (q d : ℕ × ℕ) (k : ℕ) → length ps ≡ suc k → q.0 ≤ (get_or ps k d).1
    → with_pair ps q ≡ set ps k ((get_or ps k d).0, max (get_or ps k d).1 q.1)
with_pair_set [] q d k e meets = absurd (omega arith)
with_pair_set (p ∷ []) q d zero e meets = ap (λ b. cond b ((p.0, max p.1 q.1) ∷ []) (p ∷ q ∷ [])) (le-leb q.0 p.1 meets)
with_pair_set (p ∷ []) q d (suc k) e meets = absurd (omega arith)
with_pair_set (p ∷ r ∷ ps) q d zero e meets = absurd (omega arith)
with_pair_set (p ∷ r ∷ ps) q d (suc k) e meets = ap (λ rest. p ∷ rest) (with_pair_set (r ∷ ps) q d k (omega arith) meets)

-- Joining two lists, one pair after another.

or_swap : (a b : Bool) → (a || b) ≡ (b || a)
or_swap true true = refl
or_swap true false = refl
or_swap false true = refl
or_swap false false = refl

or_between : (a b c : Bool) → ((a || b) || c) ≡ ((a || c) || b)
or_between true b c = refl
or_between false b c = or_swap b c

pub swapped : (left right : List (ℕ × ℕ)) (i j : ℕ) (joined : List (ℕ × ℕ)) → IsMerged left right i j joined → IsMerged right left j i joined
swapped left right i j joined h = record {
  left_front = h.right_front;
  right_front = h.left_front;
  sorted = h.sorted;
  union = λ t. h.union t ∙ or_swap (covers (take i left) t) (covers (take j right) t);
  left_later = h.right_later;
  right_later = h.left_later;
}

-- a pair begins after the one before it
begins_later : (low : ℕ) (ps : List (ℕ × ℕ)) (k : ℕ) → AreFrom low ps → suc k < length ps → (pair_at ps k).0 ≤ (pair_at ps (suc k)).0
begins_later low [] k h lt = absurd (omega arith)
begins_later low (p ∷ ps) zero h lt = omega (arith, h.1, each_from (suc p.1) ps 0 h.2 (omega arith))
begins_later low (p ∷ ps) (suc k) h lt = begins_later (suc p.1) ps k h.2 (omega arith)

front_more : (ps : List (ℕ × ℕ)) (i t : ℕ) → i < length ps → covers (take (i + 1) ps) t ≡ (covers (take i ps) t || has_tick (pair_at ps i) t)
front_more ps i t lt =
    ap (λ xs. covers xs t) (take_more ps i (0, 0) lt)
    ∙ covers-append (take i ps) (pair_at ps i ∷ []) t
    ∙ ap (λ b. covers (take i ps) t || b) (or_nothing (has_tick (pair_at ps i) t))

pub merged_left : (left right : List (ℕ × ℕ)) (i j : ℕ) (joined : List (ℕ × ℕ)) → AreIntervals left → IsMerged left right i j joined → IsNextPair left right i j
    → IsMerged left right (i + 1) j (with_pair joined (pair_at left i))
merged_left left right i j joined h g n = record {
  left_front = omega (arith, n.inside);
  right_front = g.right_front;
  sorted = with_pair_from 0 joined (pair_at left i) g.sorted (g.left_later n.inside) (omega arith) some;
  union = λ t. covers-with_pair 0 joined (pair_at left i) t g.sorted (g.left_later n.inside) some
      ∙ ap (λ b. b || has_tick (pair_at left i) t) (g.union t)
      ∙ or_between (covers (take i left) t) (covers (take j right) t) (has_tick (pair_at left i) t)
      ∙ ap (λ b. b || covers (take j right) t) (sym (front_more left i t n.inside));
  left_later = λ more. BeginBy-with_pair (pair_at left (i + 1)).0 joined (pair_at left i)
      (BeginBy-later (pair_at left i).0 (pair_at left (i + 1)).0 joined (rises more) (g.left_later n.inside)) (rises more);
  right_later = λ more. BeginBy-with_pair (pair_at right j).0 joined (pair_at left i) (g.right_later more) (n.no_later more);
}
  where
    some : (pair_at left i).0 < (pair_at left i).1
    some = each_holds 0 left i h n.inside

    rises : i + 1 < length left → (pair_at left i).0 ≤ (pair_at left (i + 1)).0
    rises more = subst (λ k. (pair_at left i).0 ≤ (pair_at left k).0) (sym (add-one i)) (begins_later 0 left i h (omega arith))

pub merged_right : (left right : List (ℕ × ℕ)) (i j : ℕ) (joined : List (ℕ × ℕ)) → AreIntervals right → IsMerged left right i j joined → IsNextPair right left j i
    → IsMerged left right i (j + 1) (with_pair joined (pair_at right j))
merged_right left right i j joined h g n = swapped right left (j + 1) i _ (merged_left right left j i joined h (swapped left right i j joined g) n)
