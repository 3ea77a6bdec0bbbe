-- Sorted intervals: which of them holds a tick, and what is at their ends.
use Rattle.std.proofs.Common.{◌≡◌, ℕ, zero, suc, ◌+◌, ◌-◌, ◌<◌, ◌≤◌, ◌&&◌, ◌||◌, cond, is_some, unwrap_or, IfSome, IfNone, IsSomeAnd, ◌∙◌, inl, inr, Bool, true, false, nat_lt, nat_le, List, [], ◌∷◌, ◌++◌, length, get_or, Option, Some, None, refl, sym, ap, subst, arith}
use Rattle.std.proofs.lemmas.Bool.{cases_lt, ltb-false, lt-ltb, le-ltb, le-leb, lt-leb, and_left, and_right, or_from, ltb-true, both_ways}
use Rattle.std.specs.Option.{option_map}
use Rattle.wl_intervals.specs.Pairs.{covers, AreFrom, AreIntervals, last_end, IsNextChange}
use Rattle.wl_intervals.specs.Search.{pair_at, IsPlace, IsFirstAfter}

-- at which tick the next pair may begin
abbrev pub free : ℕ → List (ℕ × ℕ) → ℕ
free low [] = low
free low (p ∷ ps) = free (suc p.1) ps

pub or_again : (a b c : Bool) → (a || (b || c)) ≡ ((a || b) || c)
or_again true b c = refl
or_again false b c = refl

pub covers-append : (xs ys : List (ℕ × ℕ)) (t : ℕ) → covers (xs ++ ys) t ≡ (covers xs t || covers ys t)
covers-append [] ys t = refl
covers-append (p ∷ xs) ys t = ap (λ b. (nat_le p.0 t && nat_lt t p.1) || b) (covers-append xs ys t) ∙ or_again (nat_le p.0 t && nat_lt t p.1) (covers xs t) (covers ys t)

pub not_below : (low : ℕ) (ps : List (ℕ × ℕ)) (t : ℕ) → AreFrom low ps → t < low → covers ps t ≡ false
not_below low [] t h lt = refl
not_below low (p ∷ ps) t h lt =
    or_from _ _ (and_left _ _ (lt-leb p.0 t (omega (arith, h.0)))) (not_below (suc p.1) ps t h.2 (omega (arith, h.0, h.1)))

pub AreFrom-lower : (low next : ℕ) (ps : List (ℕ × ℕ)) → low ≤ next → AreFrom next ps → AreFrom low ps
AreFrom-lower low next [] le h = tt
AreFrom-lower low next (p ∷ ps) le h = (omega (arith, h.0), h.1, h.2)

pub AreFrom-append : (low : ℕ) (xs ys : List (ℕ × ℕ)) → AreFrom low xs → AreFrom (free low xs) ys → AreFrom low (xs ++ ys)
AreFrom-append low [] ys h g = g
AreFrom-append low (p ∷ xs) ys h g = (h.0, h.1, AreFrom-append (suc p.1) xs ys h.2 g)

pub AreFrom-front : (low : ℕ) (xs ys : List (ℕ × ℕ)) → AreFrom low (xs ++ ys) → AreFrom low xs
AreFrom-front low [] ys h = tt
AreFrom-front low (p ∷ xs) ys h = (h.0, h.1, AreFrom-front (suc p.1) xs ys h.2)

pub AreFrom-back : (low : ℕ) (xs ys : List (ℕ × ℕ)) → AreFrom low (xs ++ ys) → AreFrom (free low xs) ys
AreFrom-back low [] ys h = h
AreFrom-back low (p ∷ xs) ys h = AreFrom-back (suc p.1) xs ys h.2

pub free-append : (low : ℕ) (xs ys : List (ℕ × ℕ)) → free low (xs ++ ys) ≡ free (free low xs) ys
free-append low [] ys = refl
free-append low (p ∷ xs) ys = free-append (suc p.1) xs ys

free_le : (low : ℕ) (ps : List (ℕ × ℕ)) → AreFrom low ps → low ≤ free low ps
free_le low [] h = omega arith
free_le low (p ∷ ps) h = omega (arith, h.0, h.1, free_le (suc p.1) ps h.2)

-- no tick from the last end on is held
pub not_behind : (low : ℕ) (ps : List (ℕ × ℕ)) (t : ℕ) → AreFrom low ps → free low ps ≤ suc t → covers ps t ≡ false
not_behind low [] t h le = refl
not_behind low (p ∷ ps) t h le =
    or_from _ _ (and_right _ _ (le-ltb t p.1 (omega (arith, free_le (suc p.1) ps h.2)))) (not_behind (suc p.1) ps t h.2 le)

pub free_none : (ps : List (ℕ × ℕ)) → last_end ps ≡ None → free 0 ps ≡ 0
free_none [] h = refl
free_none (p ∷ []) h = cc
free_none (p ∷ q ∷ ps) h = go q ps h
  where
    go : (q : ℕ × ℕ) (ps : List (ℕ × ℕ)) → last_end (q ∷ ps) ≡ None → free (suc q.1) ps ≡ 0
    go q [] h = cc
    go q (r ∷ ps) h = go r ps h

pub free_some : (low : ℕ) (ps : List (ℕ × ℕ)) (e : ℕ) → last_end ps ≡ Some e → free low ps ≡ suc e
free_some low [] e h = cc
free_some low (p ∷ []) e h = cc
free_some low (p ∷ q ∷ ps) e h = free_some (suc p.1) (q ∷ ps) e h

-- each pair holds a tick
pub each_holds : (low : ℕ) (ps : List (ℕ × ℕ)) (k : ℕ) → AreFrom low ps → k < length ps → (pair_at ps k).0 < (pair_at ps k).1
each_holds low [] k h lt = absurd (omega arith)
each_holds low (p ∷ ps) zero h lt = h.1
each_holds low (p ∷ ps) (suc k) h lt = each_holds (suc p.1) ps k h.2 (omega arith)

pub each_from : (low : ℕ) (ps : List (ℕ × ℕ)) (k : ℕ) → AreFrom low ps → k < length ps → low ≤ (pair_at ps k).0
each_from low [] k h lt = absurd (omega arith)
each_from low (p ∷ ps) zero h lt = h.0
each_from low (p ∷ ps) (suc k) h lt = omega (arith, h.0, h.1, each_from (suc p.1) ps k h.2 (omega arith))

-- the ends rise
pub ends_from : (low : ℕ) (ps : List (ℕ × ℕ)) (k : ℕ) (d : ℕ × ℕ) → AreFrom low ps → k < length ps → low < (get_or ps k d).1
ends_from low [] k d h lt = absurd (omega arith)
ends_from low (p ∷ ps) zero d h lt = omega (arith, h.0, h.1)
ends_from low (p ∷ ps) (suc k) d h lt = omega (arith, h.0, h.1, ends_from (suc p.1) ps k d h.2 (omega arith))

pub ends_rise : (low : ℕ) (ps : List (ℕ × ℕ)) (i j : ℕ) (d : ℕ × ℕ) → AreFrom low ps → i ≤ j → j < length ps → (get_or ps i d).1 ≤ (get_or ps j d).1
ends_rise low [] i j d h le lt = absurd (omega arith)
ends_rise low (p ∷ ps) zero zero d h le lt = omega arith
ends_rise low (p ∷ ps) zero (suc j) d h le lt = omega (arith, ends_from (suc p.1) ps j d h.2 (omega arith))
ends_rise low (p ∷ ps) (suc i) zero d h le lt = absurd (omega arith)
ends_rise low (p ∷ ps) (suc i) (suc j) d h le lt = ends_rise (suc p.1) ps i j d h.2 (omega arith) (omega arith)

pub end_le_last : (ps : List (ℕ × ℕ)) (k e : ℕ) (d : ℕ × ℕ) → AreIntervals ps → k < length ps → last_end ps ≡ Some e → (get_or ps k d).1 ≤ e
end_le_last ps k e d h lt last = omega (arith, go 0 ps k h lt, free_some 0 ps e last)
  where
    go : (low : ℕ) (ps : List (ℕ × ℕ)) (k : ℕ) → AreFrom low ps → k < length ps → (get_or ps k d).1 < free low ps
    go low [] k h lt = absurd (omega arith)
    go low (p ∷ ps) zero h lt = omega (arith, free_le (suc p.1) ps h.2)
    go low (p ∷ ps) (suc k) h lt = go (suc p.1) ps k h.2 (omega arith)

-- where all pairs end by t none holds it
pub covers_none : (ps : List (ℕ × ℕ)) (t : ℕ) → ((j : ℕ) → j < length ps → (pair_at ps j).1 ≤ t) → covers ps t ≡ false
covers_none [] t h = refl
covers_none (p ∷ ps) t h = or_from _ _ (and_right _ _ (le-ltb t p.1 (h 0 (omega arith)))) (covers_none ps t (λ j lt. h (suc j) (omega arith)))

-- else the first that ends after t decides
pub covers_place : (low : ℕ) (ps : List (ℕ × ℕ)) (t k : ℕ) → AreFrom low ps → k < length ps → ((j : ℕ) → j < k → (pair_at ps j).1 ≤ t) → t < (pair_at ps k).1
    → covers ps t ≡ nat_le (pair_at ps k).0 t
covers_place low [] t k h lt before after = absurd (omega arith)
covers_place low (p ∷ ps) t zero h lt before after =
    ap (λ b. (nat_le p.0 t && b) || covers ps t) (lt-ltb t p.1 after)
    ∙ ap (λ b. (nat_le p.0 t && true) || b) (not_below (suc p.1) ps t h.2 (omega arith))
    ∙ plain (nat_le p.0 t)
  where
    plain : (b : Bool) → ((b && true) || false) ≡ b
    plain true = refl
    plain false = refl
covers_place low (p ∷ ps) t (suc k) h lt before after =
    ap (λ b. b || covers ps t) (and_right (nat_le p.0 t) (nat_lt t p.1) (le-ltb t p.1 (before 0 (omega arith))))
    ∙ covers_place (suc p.1) ps t k h.2 (omega arith) (λ j b. before (suc j) (omega arith)) after

-- the tick at which a pair ends is not held
pub covers_end : (low : ℕ) (ps : List (ℕ × ℕ)) (k : ℕ) → AreFrom low ps → k < length ps → covers ps (pair_at ps k).1 ≡ false
covers_end low [] k h lt = absurd (omega arith)
covers_end low (p ∷ ps) zero h lt = or_from _ _ (and_right _ _ (le-ltb p.1 p.1 (omega arith))) (not_below (suc p.1) ps p.1 h.2 (omega arith))
covers_end low (p ∷ ps) (suc k) h lt =
    or_from _ _ (and_right _ _ (le-ltb (pair_at ps k).1 p.1 (omega (arith, ends_from (suc p.1) ps k (0, 0) h.2 (omega arith)))))
    (covers_end (suc p.1) ps k h.2 (omega arith))

-- from a place to what it decides
pub first_after : (ps : List (ℕ × ℕ)) (t k : ℕ) → AreIntervals ps → IsPlace ps t k → k < length ps → IsFirstAfter ps t (pair_at ps k)
first_after ps t k h g lt = record {
  ends_later = g.after k (omega arith) lt;
  some_tick = each_holds 0 ps k h lt;
  decides = λ u from below. covers_place 0 ps u k h lt (λ j b. omega (arith, g.before j b)) below;
  end_free = covers_end 0 ps k h lt;
}

pub none_after : (ps : List (ℕ × ℕ)) (t k : ℕ) → IsPlace ps t k → length ps ≤ k → (u : ℕ) → t ≤ u → covers ps u ≡ false
none_after ps t k g all u from = covers_none ps u (λ j lt. omega (arith, g.before j (omega arith)))

-- the next tick of another level: where the pair begins, or where it ends
pub change_at_start : (ps : List (ℕ × ℕ)) (t : ℕ) (p : ℕ × ℕ) → IsFirstAfter ps t p → t < p.0 → IsNextChange ps t p.0
change_at_start ps t p h before = record {
  later = before;
  stays = λ u after below. h.decides u (omega arith) (omega (arith, h.some_tick)) ∙ lt-leb p.0 u below ∙ sym here;
  changes = λ e. both_ways (covers ps t) here (sym e ∙ h.decides p.0 (omega arith) h.some_tick ∙ le-leb p.0 p.0 (omega arith));
}
  where
    here : covers ps t ≡ false
    here = h.decides t (omega arith) h.ends_later ∙ lt-leb p.0 t before

pub change_at_end : (ps : List (ℕ × ℕ)) (t : ℕ) (p : ℕ × ℕ) → IsFirstAfter ps t p → p.0 ≤ t → IsNextChange ps t p.1
change_at_end ps t p h begun = record {
  later = h.ends_later;
  stays = λ u after below. h.decides u (omega arith) below ∙ le-leb p.0 u (omega arith) ∙ sym here;
  changes = λ e. both_ways (covers ps t) (sym e ∙ h.end_free) here;
}
  where
    here : covers ps t ≡ true
    here = h.decides t (omega arith) h.ends_later ∙ le-leb p.0 t begun

-- the last pair ends where the list does
pub last_end_at : (ps : List (ℕ × ℕ)) (d : ℕ × ℕ) → 0 < length ps → last_end ps ≡ Some (get_or ps (length ps - 1) d).1
last_end_at [] d h = absurd (omega arith)
last_end_at (p ∷ []) d h = refl
last_end_at (p ∷ q ∷ ps) d h =
    last_end_at (q ∷ ps) d (omega arith) ∙ ap (λ k. Some (get_or (p ∷ q ∷ ps) k d).1) last_place
  where
    last_place : suc (length (q ∷ ps) - 1) ≡ length (p ∷ q ∷ ps) - 1
    last_place = omega arith

pub is_some-mapped : {B : Type 0} (f : B → ℕ × ℕ) (r : Option B) → is_some (option_map f r) ≡ is_some r
is_some-mapped f None = refl
is_some-mapped f (Some b) = refl

-- a pair after the last end joins the list
pub pushed : (ps : List (ℕ × ℕ)) (from to : ℕ) (b : Bool) → AreIntervals ps → from < to → (IsSomeAnd (last_end ps) (λ end. from ≤ end) → ⊥)
    → AreIntervals (cond b (ps ++ (from, to) ∷ []) ps)
pushed ps from to false h some behind = h
pushed ps from to true h some behind = AreFrom-append 0 ps ((from, to) ∷ []) h (reached (last_end ps) refl, some, tt)
  where
    reached : (o : Option ℕ) → last_end ps ≡ o → free 0 ps ≤ from
    reached None e = omega (arith, free_none ps e)
    reached (Some end) e = elim (cases_lt end from) [
      | inl below ↦ omega (arith, free_some 0 ps end e)
      | inr not_below ↦ absurd (behind (subst (λ o. IsSomeAnd o (λ end. from ≤ end)) (sym e) not_below))
    ]

-- what is at a place, if anything is
pub found_first : (r : Option (ℕ × ℕ)) (ps : List (ℕ × ℕ)) (t k : ℕ) → AreIntervals ps → IsPlace ps t k → is_some r ≡ nat_lt k (length ps) → unwrap_or r (0, 0) ≡ pair_at ps k
    → IfSome r (IsFirstAfter ps t)
found_first None ps t k h g some is = tt
found_first (Some p) ps t k h g some is = subst (IsFirstAfter ps t) (sym is) (first_after ps t k h g (ltb-true k (length ps) (sym some)))

pub found_none : (r : Option (ℕ × ℕ)) (ps : List (ℕ × ℕ)) (t k : ℕ) → IsPlace ps t k → is_some r ≡ nat_lt k (length ps) → IfNone r ((u : ℕ) → t ≤ u → covers ps u ≡ false)
found_none None ps t k g some = none_after ps t k g (ltb-false k (length ps) (sym some))
found_none (Some p) ps t k g some = tt

-- where the last end has room below a limit each has
pub end_fits : (ps : List (ℕ × ℕ)) (k d limit : ℕ) → AreIntervals ps → k < length ps → IfSome (last_end ps) (λ end. end + d < limit)
    → (pair_at ps k).1 + d < limit
end_fits ps k d limit h lt fits =
    let last : IfSome (Some (pair_at ps (length ps - 1)).1) (λ end. end + d < limit) =
    subst (λ o. IfSome o (λ end. end + d < limit)) (last_end_at ps (0, 0) (omega arith)) fits in
    let rises : (pair_at ps k).1 ≤ (pair_at ps (length ps - 1)).1 = ends_rise 0 ps k (length ps - 1) (0, 0) h (omega arith) (omega arith) in
    omega (arith, last)

-- where the next pair may begin, by the last end
pub free_before : (ps : List (ℕ × ℕ)) (t : ℕ) → IfSome (last_end ps) (λ end. end < t) → free 0 ps ≤ t
free_before ps t h = go (last_end ps) refl h
  where
    go : (o : Option ℕ) → last_end ps ≡ o → IfSome o (λ end. end < t) → free 0 ps ≤ t
    go None e h = omega (arith, free_none ps e)
    go (Some end) e h = omega (arith, free_some 0 ps end e, h)

pub free_behind : (ps : List (ℕ × ℕ)) (t : ℕ) → IfSome (last_end ps) (λ end. end ≤ t) → free 0 ps ≤ suc t
free_behind ps t h = go (last_end ps) refl h
  where
    go : (o : Option ℕ) → last_end ps ≡ o → IfSome o (λ end. end ≤ t) → free 0 ps ≤ suc t
    go None e h = omega (arith, free_none ps e)
    go (Some end) e h = omega (arith, free_some 0 ps end e, h)
