-- The rows of a sweep: one value of each range (this project's profile).
use Rattle.std.specs.Prelude.{ℕ, ℤ, pos, ◌*◌, ◌/◌, ◌%◌, max, List, [], ◌∷◌, length, fold, slice_index_or}
use Rattle.wl_setup.specs.declared.plan_text.PlanText.{PlanText}
use Rattle.wl_sweep.specs.declared.range.SweptRange.{SweptRange}
use Rattle.wl_sweep.specs.Changes.{text_with}
use Rattle.wl_sweep.specs.Family.{capped}

-- how many rows there are: one for each choice of a value from each range
abbrev pub row_count : List SweptRange → ℕ
row_count ranges = fold (λ rows range. capped (rows * length range.values)) 1 ranges

-- the value of a range in a row, where so many rows go by before it takes the next one
abbrev pub value_in : SweptRange → ℕ → ℕ → ℤ
value_in range later row = slice_index_or range.values (row / max later 1 % max (length range.values) 1) (pos 0)

-- the text of a row: the value of the last range changes the fastest
abbrev pub row_text : ℕ → List SweptRange → PlanText → PlanText
row_text row [] plan = plan
row_text row (g ∷ gs) plan = row_text row gs (text_with g.key g.named (value_in g (row_count gs) row) plan)
