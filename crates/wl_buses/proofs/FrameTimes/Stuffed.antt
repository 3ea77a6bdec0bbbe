-- Of a list and the one with its stuff bits the latter has at most a quarter of the other's bits but one more.
use Rattle.std.proofs.Common.{◌≡◌, ◌∙◌, ℕ, zero, suc, ◌+◌, ◌-◌, ◌*◌, ◌<◌, ◌≤◌, List, [], ◌∷◌, length, Bool, true, false, cond, sym, ap, arith, length-append, inl, inr}
use Rattle.std.proofs.lemmas.Bool.{cases_Bool, cases_lt, leb-true}
use Rattle.wl_level.specs.declared.Level.{Level}
use Rattle.wl_level.specs.Levels.{same, opposite}
use Rattle.wl_level.specs.Places.{at, before, run_at}
use Rattle.wl_level.proofs.Callers.{run_positive, same_opposite}
use Rattle.wl_frame.specs.Stuffing.{Stuffs, is_stuff, destuffed_bits}
use Rattle.wl_frame.proofs.Callers.{stuff_run}

-- a bit makes a run longer by one at most
grown : (b : Bool) (run most : ℕ) → run ≤ most → cond b (suc run) 1 ≤ suc most
grown true run most h = omega arith
grown false run most h = omega arith

-- and a bit that differs from the one before it ends a run
run_ended : (y : List Level) (n : ℕ) → is_stuff y n ≡ true → at y n ≡ opposite (before y n) → run_at y (suc n) ≡ 1
run_ended y zero due turned = cc
run_ended y (suc n) due turned = ap (λ b. cond b (suc (run_at y (suc n))) 1) (ap (same (at y n)) turned ∙ same_opposite (at y n))

run_some : (y : List Level) (n : ℕ) → 0 < n → 0 < run_at y n
run_some y zero some = absurd (omega arith)
run_some y (suc n) some = run_positive y n

module _ (x y : List Level) (is : Stuffs y x) where
  kept : (n : ℕ) (b : Bool) → is_stuff y n ≡ b → length (destuffed_bits y (suc n)) ≡ length (destuffed_bits y n) + length (cond b [] (at y n ∷ []))
  kept n b e =
      length-append (destuffed_bits y n) (cond (is_stuff y n) [] (at y n ∷ [])) ∙ ap (λ c. length (destuffed_bits y n) + length (cond c [] (at y n ∷ []))) e

  run_grown : (n : ℕ) → n < length y → run_at y (suc n) ≤ suc (run_at y n)
  run_grown zero below = omega arith
  run_grown (suc n) below = grown (same (at y n) (at y (suc n))) (run_at y (suc n)) (run_at y (suc n)) (omega arith)

  -- four bits and the run at a place are no more than five bits each that are kept before it
  few_before : (n : ℕ) → n ≤ length y → 4 * n + run_at y n ≤ 5 * length (destuffed_bits y n)
  few_before zero below = omega arith
  few_before (suc n) below = elim (cases_Bool (is_stuff y n)) [
    | inl due ↦
        (let old = few_before n (omega arith) in
        let five : 5 ≤ run_at y n = leb-true 5 (run_at y n) (sym (stuff_run y n) ∙ due) in
        let one = run_ended y n due (is.opposite n (omega arith) due) in
        let same_kept : length (destuffed_bits y (suc n)) ≡ length (destuffed_bits y n) + 0 = kept n true due in
        omega arith)
    | inr free ↦
        (let old = few_before n (omega arith) in
        let more = run_grown n (omega arith) in
        let one_kept : length (destuffed_bits y (suc n)) ≡ length (destuffed_bits y n) + 1 = kept n false free in
        omega arith)
  ]

  pub few_stuff_bits : 4 * length y ≤ 5 * length x - 1
  few_stuff_bits =
      let all = few_before (length y) (omega arith) in
      let whole : length (destuffed_bits y (length y)) ≡ length x = ap length is.content in
      elim (cases_lt 0 (length y)) [
        | inl some ↦ (let run = run_some y (length y) some in omega arith)
        | inr none ↦ omega arith
      ]
