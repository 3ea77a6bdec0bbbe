-- A run at the end of a list, counted from the end.
use Rattle.std.proofs.Common.{◌≡◌, ◌∙◌, ap, ℕ, suc, ◌+◌, ◌-◌, ◌<◌, true, false, cond, List, length, arith}
use Rattle.wl_level.specs.declared.Level.{Level}
use Rattle.wl_level.specs.Levels.{same}
use Rattle.wl_level.specs.Places.{at, run_before}

module _ (level : Level) (samples : List Level) where
  here : (n m : ℕ) → n ≡ suc m → run_before level samples n ≡ cond (same (at samples m) level) (suc (run_before level samples m)) 0
  here n m e = ap (run_before level samples) e

  pub run_step : (run : ℕ) → run < length samples → same (at samples (length samples - 1 - run)) level ≡ true
      → run_before level samples (length samples - run) ≡ suc (run_before level samples (length samples - (run + 1)))
  run_step run h e =
      here (length samples - run) (length samples - 1 - run) (omega arith)
      ∙ ap (λ b. cond b (suc (run_before level samples (length samples - 1 - run))) 0) e
      ∙ ap (λ (n : ℕ). suc (run_before level samples n)) {x = length samples - 1 - run} {y = length samples - (run + 1)} (omega arith)

  pub run_stop : (run : ℕ) → run < length samples → same (at samples (length samples - 1 - run)) level ≡ false
      → run_before level samples (length samples - run) ≡ 0
  run_stop run h e =
      here (length samples - run) (length samples - 1 - run) (omega arith)
      ∙ ap (λ b. cond b (suc (run_before level samples (length samples - 1 - run))) 0) e

  pub run_over : (run : ℕ) → (run < length samples → ⊥) → run_before level samples (length samples - run) ≡ 0
  run_over run h = ap (run_before level samples) {x = length samples - run} {y = 0} (omega arith)
