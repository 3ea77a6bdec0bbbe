-- How many bits a frame has at most, stuff bits among them.
use Rattle.std.proofs.Common.{◌≡◌, ◌∙◌, refl, sym, ap, inl, inr, ℕ, zero, suc, ◌+◌, ◌*◌, ◌<◌, ◌≤◌, ◌==◌, cond, List, [], ◌∷◌, ◌++◌, length, Bool, true, false, arith, append-nil, length-append}
use Rattle.std.proofs.lemmas.Bool.{cases_Bool, eqb-true, leb-true}
use Rattle.wl_level.specs.declared.Level.{Level}
use Rattle.wl_level.specs.Levels.{opposite, same}
use Rattle.wl_level.specs.Places.{at, before, run_at}
use Rattle.wl_level.proofs.Callers.{same_opposite}
use Rattle.wl_frame.specs.Grammar.{Content, IsContent, bits_of, byte_count, covered_length, is_whole, layout_by}
use Rattle.wl_frame.specs.Header.{is_extended, value_in}
use Rattle.wl_frame.specs.Header.Name.{DataLengthCode, RemoteRequest}
use Rattle.wl_frame.specs.Stuffing.{Stuffs, destuffed_bits, is_stuff}
use Rattle.wl_frame.proofs.Callers.{stuff_run}
use Rattle.wl_proved.specs.LateEnds.{most_stuffed_bits}

few_bytes : (remote : Bool) (dlc : ℕ) → byte_count remote dlc ≤ 8
few_bytes true dlc = omega arith
few_bytes false dlc = omega arith

few_covered : (extended : Bool) (bits : List Level) → (layout_by extended bits).header + 8 * (layout_by extended bits).bytes ≤ 103
few_covered true bits = let few : (layout_by true bits).bytes ≤ 8 = few_bytes (value_in RemoteRequest true bits == 1) (value_in DataLengthCode true bits) in omega arith
few_covered false bits = let few : (layout_by false bits).bytes ≤ 8 = few_bytes (value_in RemoteRequest false bits == 1) (value_in DataLengthCode false bits) in omega arith

whole_length : (x : List Level) → is_whole x ≡ true → length x ≤ 118
whole_length x whole = let e = eqb-true (length x) (covered_length x + 15) whole in let few = few_covered (is_extended x) x in omega arith

module _ (y : List Level) (opposes : (k : ℕ) → k < length y → is_stuff y k ≡ true → at y k ≡ opposite (before y k)) where
  kept : ℕ → ℕ
  kept n = length (destuffed_bits y n)

  -- a run grows by a bit, or begins with it
  run_more : (n : ℕ) → run_at y (suc n) ≤ suc (run_at y n)
  run_more zero = omega arith
  run_more (suc n) = by_test (same (at y n) (at y (suc n)))
    where
      by_test : (b : Bool) → cond b (suc (run_at y (suc n))) 1 ≤ suc (run_at y (suc n))
      by_test true = omega arith
      by_test false = omega arith

  -- with a stuff bit one begins
  run_after : (n : ℕ) → n < length y → is_stuff y n ≡ true → run_at y (suc n) ≡ 1
  run_after zero h due = refl
  run_after (suc n) h due = ap (λ b. cond (same (at y n) b) (suc (run_at y (suc n))) 1) (opposes (suc n) h due) ∙ ap (λ b. cond b (suc (run_at y (suc n))) 1) (same_opposite (at y n))

  -- a stuff bit follows four others at least
  spread : (n : ℕ) → n ≤ length y → 4 * n + run_at y n ≤ 5 * kept n + 1
  unfolding kept
  spread zero h = omega arith
  spread (suc n) h =
      let earlier = spread n (omega arith) in
      elim (cases_Bool (is_stuff y n)) [
        | inl due ↦
            (let five = leb-true 5 (run_at y n) (sym (stuff_run y n) ∙ due) in
            let one = run_after n (omega arith) due in
            let same_kept : length (destuffed_bits y (suc n)) ≡ length (destuffed_bits y n) =
            ap (λ b. length (destuffed_bits y n ++ cond b [] (at y n ∷ []))) due ∙ ap length (append-nil (destuffed_bits y n)) in
            omega arith)
        | inr free ↦
            (let more = run_more n in
            let one_kept : length (destuffed_bits y (suc n)) ≡ length (destuffed_bits y n) + 1 =
            ap (λ b. length (destuffed_bits y n ++ cond b [] (at y n ∷ []))) free ∙ length-append (destuffed_bits y n) (at y n ∷ []) in
            omega arith)
      ]

pub few_stuffed : ((c : Content) → IsContent c → is_whole (bits_of c) ≡ true) → (c : Content) (y : List Level) → IsContent c → Stuffs y (bits_of c) → length y ≤ most_stuffed_bits
unfolding kept
few_stuffed whole c y is stuffs =
    let all = spread y stuffs.opposite (length y) (let r : length y ≤ length y = omega arith in r) in
    let same_length = ap length stuffs.content in
    let short = whole_length (bits_of c) (whole c is) in
    omega arith
