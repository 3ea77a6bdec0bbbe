-- A list has one stuffing, and a list that no stuffing continues ends six equal bits.
use Rattle.std.proofs.Common.{◌≡◌, ℕ, zero, suc, ◌+◌, ◌-◌, ◌<◌, ◌≤◌, ◌∙◌, List, [], ◌∷◌, ◌++◌, length, Bool, true, false, cond, ◌&&◌, refl, sym, ap, arith, length-append, add-one, append-nil, inl, inr, subst, take, drop, Option, Some, None}
use Rattle.std.specs.Prelude.{nat_le, MatchOption}
use Rattle.std.proofs.Math.Seq.{take-length}
use Rattle.std.proofs.lemmas.List.{take-append-drop, length-take-le, take_more, take_all}
use Rattle.std.proofs.lemmas.Bool.{both_ways, cases_lt}
use Rattle.wl_level.specs.declared.Level.{Level}
use Rattle.wl_level.specs.declared.Level.TheVariants.{Dominant, Recessive}
use Rattle.wl_level.specs.Levels.{same, opposite}
use Rattle.wl_level.specs.Places.{at, before, run_at, IsFirstPlace}
use Rattle.wl_level.proofs.Callers.{at_new, at_front, before_front, same_opposite, other_level, first_none, first_is}
use Rattle.wl_frame.specs.Stuffing.{is_stuff, destuffed_bits, destuffed_list, Stuffs, ends_six, first_six, IsStuffedFront}
use Rattle.wl_frame.proofs.Stuffed.{stuff_run, stuff_front, kept_front, opposes_more, Opposes, run_more}

-- A list and its front.

module _ (y : List Level) (n : ℕ) (h : n ≤ length y) where
  front_length : length (take n y) ≡ n
  front_length = length-take-le n y h

  in_front : n ≤ length (take n y)
  in_front = omega (arith, front_length)

  stuff_take : is_stuff y n ≡ is_stuff (take n y) n
  stuff_take = ap (λ ls. is_stuff ls n) (sym (take-append-drop n y)) ∙ stuff_front (take n y) (drop n y) n in_front

  kept_take : destuffed_bits y n ≡ destuffed_bits (take n y) n
  kept_take = ap (λ ls. destuffed_bits ls n) (sym (take-append-drop n y)) ∙ kept_front (take n y) (drop n y) n in_front

  before_take : before y n ≡ before (take n y) n
  before_take = ap (λ ls. before ls n) (sym (take-append-drop n y)) ∙ before_front (take n y) (drop n y) n in_front

-- What is kept only grows.

kept_more : (y : List Level) (n d : ℕ) (k : ℕ) → k < length (destuffed_bits y n) → (k < length (destuffed_bits y (d + n))) × (at (destuffed_bits y (d + n)) k ≡ at (destuffed_bits y n) k)
kept_more y n zero k h =
    let none : 0 + n ≡ n = omega arith in
    (subst (λ m. k < length (destuffed_bits y m)) (sym none) h, ap (λ m. at (destuffed_bits y m) k) none)
kept_more y n (suc d) k h =
    let more : suc d + n ≡ suc (d + n) = omega arith in
    let below : (k < length (destuffed_bits y (d + n))) × (at (destuffed_bits y (d + n)) k ≡ at (destuffed_bits y n) k) = kept_more y n d k h in
    let new : List Level = cond (is_stuff y (d + n)) [] (at y (d + n) ∷ []) in (
      subst (λ m. k < length (destuffed_bits y m)) (sym more) (omega (arith, below.0, length-append (destuffed_bits y (d + n)) new)),
      ap (λ m. at (destuffed_bits y m) k) more ∙ at_front (destuffed_bits y (d + n)) new k below.0 ∙ below.1,
    )

-- a bit that is no stuff bit stands in what is kept
kept_here : (y : List Level) (n : ℕ) → n < length y → is_stuff y n ≡ false
    → (length (destuffed_bits y n) < length (destuffed_list y)) × (at (destuffed_list y) (length (destuffed_bits y n)) ≡ at y n)
kept_here y n h free =
    let next : destuffed_bits y (suc n) ≡ destuffed_bits y n ++ at y n ∷ [] = ap (λ s. destuffed_bits y n ++ cond s [] (at y n ∷ [])) free in
    let inside : length (destuffed_bits y n) < length (destuffed_bits y (suc n)) = omega (arith, ap length next, length-append (destuffed_bits y n) (at y n ∷ [])) in
    let d : ℕ = length y - suc n in
    let end : d + suc n ≡ length y = omega arith in
    let more : (length (destuffed_bits y n) < length (destuffed_bits y (d + suc n))) × (at (destuffed_bits y (d + suc n)) (length (destuffed_bits y n)) ≡ at (destuffed_bits y (suc n)) (length (destuffed_bits y n))) =
    kept_more y (suc n) d (length (destuffed_bits y n)) inside
    in (
      subst (λ m. length (destuffed_bits y n) < length (destuffed_bits y m)) end more.0,
      ap (λ m. at (destuffed_bits y m) (length (destuffed_bits y n))) (sym end) ∙ more.1 ∙ ap (λ ls. at ls (length (destuffed_bits y n))) next ∙ at_new (destuffed_bits y n) (at y n),
    )

-- Two stuffings of one list agree, place by place.

module _ (x y z : List Level) (s : Stuffs y x) (t : Stuffs z x) where
  module _ (n : ℕ) (h : n < length y) (k : n ≤ length z) (e : take n y ≡ take n z) where
    stuff_same : is_stuff y n ≡ is_stuff z n
    stuff_same = stuff_take y n (omega arith) ∙ ap (λ ls. is_stuff ls n) e ∙ sym (stuff_take z n k)

    kept_same : destuffed_bits y n ≡ destuffed_bits z n
    kept_same = kept_take y n (omega arith) ∙ ap (λ ls. destuffed_bits ls n) e ∙ sym (kept_take z n k)

    before_same : before y n ≡ before z n
    before_same = before_take y n (omega arith) ∙ ap (λ ls. before ls n) e ∙ sym (before_take z n k)

    not_over : (n ≡ length z) → ⊥
    not_over over =
        let free : is_stuff y n ≡ false = stuff_same ∙ ap (is_stuff z) over ∙ t.closed in
        let ends : destuffed_bits z n ≡ x = ap (destuffed_bits z) over ∙ t.content in
        let there : length (destuffed_bits y n) < length (destuffed_list y) = (kept_here y n h free).0 in
        omega (arith, ap length s.content, ap length (kept_same ∙ ends))

    same_here : n < length z → at y n ≡ at z n
    same_here j = by (is_stuff y n) refl
      where
        by : (b : Bool) → is_stuff y n ≡ b → at y n ≡ at z n
        by true due = s.opposite n h due ∙ ap opposite before_same ∙ sym (t.opposite n j (sym stuff_same ∙ due))
        by false free =
            sym (kept_here y n h free).1 ∙ ap (λ ls. at ls (length (destuffed_bits y n))) (s.content ∙ sym t.content)
            ∙ ap (λ ls. at (destuffed_list z) (length ls)) kept_same ∙ (kept_here z n j (sym stuff_same ∙ free)).1

  agree : (n : ℕ) → n ≤ length y → (n ≤ length z) × (take n y ≡ take n z)
  agree zero h = (omega arith, refl)
  agree (suc n) h =
      let before_this : (n ≤ length z) × (take n y ≡ take n z) = agree n (omega arith) in
      let over : n ≡ length z → ⊥ = not_over n (omega arith) before_this.0 before_this.1 in
      let inside : n < length z = elim (cases_lt n (length z)) [ inl below ↦ below | inr above ↦ absurd (over (omega (arith, before_this.0))) ] in (
        inside,
        take_next y n (omega arith)
            ∙ ap (λ ls. ls ++ at y n ∷ []) before_this.1
            ∙ ap (λ l. take n z ++ l ∷ []) (same_here n (omega arith) before_this.0 before_this.1 inside)
            ∙ sym (take_next z n inside),
      )
    where
      take_next : (ls : List Level) (n : ℕ) → n < length ls → take (suc n) ls ≡ take n ls ++ at ls n ∷ []
      take_next ls n h = ap (λ m. take m ls) (sym (add-one n)) ∙ take_more ls n Recessive h

pub one_stuffing : (x y z : List Level) → Stuffs y x → Stuffs z x → y ≡ z
one_stuffing x y z s t =
    let there = agree x y z s t (length y) (omega arith) in
    let back = agree x z y t s (length z) (omega arith) in
    sym (take-length y) ∙ there.1 ∙ take_all (length y) z (omega (arith, back.0))

-- A front of a stuffed list.

no_six_opposes : (y : List Level) → first_six y ≡ None → Opposes y
no_six_opposes y none k h due =
    other_level (at y k) (before y k) (ap (λ b. b && same (at y k) (before y k)) (sym due) ∙ first_none (ends_six y) (length y) none k h)

closed_front : (y : List Level) → Opposes y → is_stuff y (length y) ≡ false → IsStuffedFront y
closed_front y h free =
    ([], destuffed_list y, subst (λ ls. Stuffs ls (destuffed_list y)) (sym (append-nil y)) (record { content = refl; opposite = h; closed = free }))

open_front : (y : List Level) → Opposes y → is_stuff y (length y) ≡ true → IsStuffedFront y
open_front y h due =
    let b : Level = opposite (before y (length y)) in
    let run : run_at (y ++ b ∷ []) (length (y ++ b ∷ [])) ≡ 1 =
    run_more y b ∙ ap (λ s. cond s (suc (run_at y (length y))) 1) (same_opposite (before y (length y)))
    in (
      b ∷ [],
      destuffed_list (y ++ b ∷ []),
      record {
        content = refl;
        opposite = opposes_more y b h (λ _. refl);
        closed = stuff_run (y ++ b ∷ []) (length (y ++ b ∷ [])) ∙ ap (nat_le 5) run;
      },
    )

no_six : (y : List Level) → first_six y ≡ None → IsStuffedFront y
no_six y none = by (is_stuff y (length y)) refl
  where
    by : (b : Bool) → is_stuff y (length y) ≡ b → IsStuffedFront y
    by true due = open_front y (no_six_opposes y none) due
    by false free = closed_front y (no_six_opposes y none) free

both_parts : (a b : Bool) → (a && b) ≡ true → (a ≡ true) × (b ≡ true)
both_parts true b h = (refl, h)
both_parts false b h = cc

-- a level and its opposite
pub same_back : (l : Level) → same (opposite l) l ≡ false
same_back Dominant = refl
same_back Recessive = refl

six : (y : List Level) (k : ℕ) → first_six y ≡ Some k → ¬ IsStuffedFront y
six y k found (more, x, s) =
    let first : IsFirstPlace (ends_six y) (length y) k = first_is (ends_six y) (length y) k found in
    let parts : (is_stuff y k ≡ true) × (same (at y k) (before y k) ≡ true) = both_parts (is_stuff y k) (same (at y k) (before y k)) first.passes in
    let inside : k < length y = first.inside in
    let turned : at y k ≡ opposite (before y k) =
    sym (at_front y more k inside)
    ∙ s.opposite k (omega (arith, length-append y more)) (stuff_front y more k (omega arith) ∙ parts.0)
    ∙ ap opposite (before_front y more k (omega arith))
    in
    absurd (both_ways (same (at y k) (before y k)) (ap (λ l. same l (before y k)) turned ∙ same_back (before y k)) parts.1)

-- a list that no stuffing continues is one with a first place that ends six equal bits
pub six_or_front : (y : List Level) → MatchOption (first_six y) (IsStuffedFront y) (λ k. ¬ IsStuffedFront y)
six_or_front y = by (first_six y) refl
  where
    by : (o : Option ℕ) → first_six y ≡ o → MatchOption o (IsStuffedFront y) (λ k. ¬ IsStuffedFront y)
    by None e = no_six y e
    by (Some k) e = six y k e

-- what was sampled up to a place, where no six equal bits end before it and no stuff bit is due there, stuffs what is kept of it
pub front_stuffs : (y : List Level) (n : ℕ) → n ≤ length y → ((k : ℕ) → k < n → ends_six y k ≡ false) → is_stuff y n ≡ false
    → Stuffs (take n y) (destuffed_bits y n)
front_stuffs y n h no_six free = record {
  content = ap (destuffed_bits (take n y)) (front_length y n h) ∙ sym (kept_take y n h);
  opposite = λ k lt due. turned k (omega (arith, front_length y n h)) due;
  closed = ap (is_stuff (take n y)) (front_length y n h) ∙ sym (stuff_take y n h) ∙ free;
}
  where
    there : (k : ℕ) → k < n → at y k ≡ at (take n y) k
    there k lt = ap (λ ls. at ls k) (sym (take-append-drop n y)) ∙ at_front (take n y) (drop n y) k (omega (arith, front_length y n h))

    earlier : (k : ℕ) → k < n → before y k ≡ before (take n y) k
    earlier k lt = ap (λ ls. before ls k) (sym (take-append-drop n y)) ∙ before_front (take n y) (drop n y) k (omega (arith, front_length y n h))

    turned : (k : ℕ) → k < n → is_stuff (take n y) k ≡ true → at (take n y) k ≡ opposite (before (take n y) k)
    turned k lt due =
        let due_there : is_stuff y k ≡ true =
        ap (λ ls. is_stuff ls k) (sym (take-append-drop n y)) ∙ stuff_front (take n y) (drop n y) k (omega (arith, front_length y n h)) ∙ due
        in
        sym (there k lt)
        ∙ other_level (at y k) (before y k) (ap (λ b. b && same (at y k) (before y k)) (sym due_there) ∙ no_six k lt)
        ∙ ap opposite (earlier k lt)
