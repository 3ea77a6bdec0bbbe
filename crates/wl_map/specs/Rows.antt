-- One row of a sweep as a sweep of its own (this project's profile).
use Rattle.std.specs.Prelude.{◌≡◌, ℕ, ℤ, pos, List, [], ◌∷◌, ◌++◌, map, take, drop, slice_index_or}
use Rattle.wl_sweep.specs.declared.range.SweptRange.{SweptRange}
use Rattle.wl_sweep.specs.declared.sweep.Sweep.{Sweep}
use Rattle.wl_sweep.specs.Rows.{row_count, value_in}
use Rattle.wl_sweep.specs.Sweeps.{all_findings, row_findings}

-- a range with one value
abbrev pub with_one : ℤ → SweptRange → SweptRange
with_one value range = record range { values = value ∷ [] }

-- with its first one
abbrev pub at_first : SweptRange → SweptRange
at_first range = with_one (slice_index_or range.values 0 (pos 0)) range

-- the first two ranges are varied, and each other one is held at its first value
abbrev pub held_ranges : List SweptRange → List SweptRange
held_ranges ranges = take 2 ranges ++ map at_first (drop 2 ranges)

-- a sweep over other ranges
abbrev pub with_ranges : Sweep → List SweptRange → Sweep
with_ranges s ranges = record s { ranges = ranges }

abbrev pub held : Sweep → Sweep
held s = with_ranges s (held_ranges s.ranges)

-- the ranges of a row, each with the value that it has there
abbrev pub ranges_alone : ℕ → List SweptRange → List SweptRange
ranges_alone row [] = []
ranges_alone row (g ∷ gs) = with_one (value_in g (row_count gs) row) g ∷ ranges_alone row gs

-- a row alone
abbrev pub row_alone : Sweep → ℕ → Sweep
row_alone s row = with_ranges s (ranges_alone row s.ranges)

-- it finds of its members what the whole sweep finds of the row's
abbrev pub FindsTheSame : Type 0
FindsTheSame = (s : Sweep) (row : ℕ) → all_findings (row_alone s row) ≡ row_findings s row
