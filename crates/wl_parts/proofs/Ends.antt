-- Two lists up to the end of the shorter one.
use Rattle.std.proofs.Common.{◌≡◌, ℕ, zero, suc, List, [], ◌∷◌, ◌++◌, length, drop, min, refl, sym, arith}
use Rattle.std.proofs.lemmas.List.{append-nil}
use Rattle.wl_parts.specs.declared.found.RowCounts.{RowCounts}
use Rattle.wl_parts.specs.Found.{rows_sum}
use Rattle.wl_parts.specs.Joined.{lines_of_rows}

pub rest_sum : (n : ℕ) (cs ds : List RowCounts) → n ≡ min (length cs) (length ds) → rows_sum (drop n cs) (drop n ds) ≡ drop n cs ++ drop n ds
rest_sum zero [] ds e = refl
rest_sum zero (c ∷ cs) [] e = sym (append-nil (c ∷ cs))
rest_sum zero (c ∷ cs) (d ∷ ds) e = absurd (omega (arith, e))
rest_sum (suc n) [] ds e = absurd (omega (arith, e))
rest_sum (suc n) (c ∷ cs) [] e = absurd (omega (arith, e))
rest_sum (suc n) (c ∷ cs) (d ∷ ds) e = rest_sum n cs ds (omega (arith, e))

pub no_lines : (n : ℕ) (ws : List (List ℕ)) (cs : List RowCounts) → n ≡ min (length ws) (length cs) → lines_of_rows (drop n ws) (drop n cs) ≡ []
no_lines zero [] cs e = refl
no_lines zero (w ∷ ws) [] e = refl
no_lines zero (w ∷ ws) (c ∷ cs) e = absurd (omega (arith, e))
no_lines (suc n) [] cs e = absurd (omega (arith, e))
no_lines (suc n) (w ∷ ws) [] e = absurd (omega (arith, e))
no_lines (suc n) (w ∷ ws) (c ∷ cs) e = no_lines n ws cs (omega (arith, e))
