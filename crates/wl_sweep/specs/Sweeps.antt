-- What a sweep finds and says (this project's profile).
use Rattle.std.specs.Prelude.{ℕ, ◌+◌, ◌-◌, nat_lt, nat_le, Bool, List, [], ◌∷◌, ◌++◌, fold, codes, Option, Some, None, option_map, if◌then◌else◌}
use Rattle.std.specs.List.{flat_map, range_with_len}
use Rattle.std.specs.Fmt.{decimal}
use Rattle.wl_setup.specs.declared.plan_text.PlanText.{PlanText}
use Rattle.wl_sweep.specs.declared.finding.Finding.{Finding}
use Rattle.wl_sweep.specs.declared.range.SweptRange.{SweptRange}
use Rattle.wl_sweep.specs.declared.sweep.Sweep.{Sweep}
use Rattle.wl_sweep.specs.declared.sweep.TheConstants.{MOST_ROWS}
use Rattle.wl_sweep.specs.Family.{member_count, member_of, run_count, widely_capped}
use Rattle.wl_sweep.specs.Rows.{row_count, row_text}
use Rattle.wl_sweep.specs.Tallies.{finding_at, findings_of, tally_of}
use Rattle.wl_sweep.specs.Words.{change_words, member_words, members_line, row_line, tally_line}

-- the rows are few enough
abbrev pub is_small : Sweep → Bool
is_small s = nat_le (row_count s.ranges) MOST_ROWS

-- the text of a row
abbrev pub text_in : Sweep → ℕ → PlanText
text_in s row = row_text row s.ranges s.text

-- what is found of the runs of a row, and of several
abbrev pub row_findings : Sweep → ℕ → List Finding
row_findings s row = findings_of s.options (text_in s row)

abbrev pub rows_findings : Sweep → List ℕ → List Finding
rows_findings s rows = flat_map (row_findings s) rows

abbrev pub all_rows : Sweep → List ℕ
all_rows s = range_with_len 0 (row_count s.ranges)

abbrev pub all_findings : Sweep → List Finding
all_findings s = rows_findings s (all_rows s)

-- how many members a row has, and several together, 2^128 - 1 where there are more
abbrev pub members_in : Sweep → ℕ → ℕ
members_in s row = member_count s.options (text_in s row)

abbrev pub rows_members : Sweep → List ℕ → ℕ
rows_members s rows = fold (λ members row. widely_capped (members + members_in s row)) 0 rows

-- the line of a row, where there are ranges
abbrev pub line_of_row : Sweep → List SweptRange → ℕ → List ℕ
line_of_row s [] row = []
line_of_row s (g ∷ gs) row = row_line row (g ∷ gs) (tally_of (row_findings s row))

abbrev pub rows_lines : Sweep → List ℕ → List ℕ
rows_lines s rows = flat_map (line_of_row s s.ranges) rows

-- the row and the run of a member, by its number
abbrev pub located : Sweep → List ℕ → ℕ → Option (ℕ × ℕ)
located s [] n = None
located s (row ∷ rows) n =
    if nat_lt n (run_count s.options (text_in s row)) then Some (row, n) else located s rows (n - run_count s.options (text_in s row))

abbrev pub place_words : Sweep → List ℕ → ℕ → Option (ℕ × ℕ) → List ℕ
place_words s label n None = []
place_words s label n (Some (row, run)) =
    label ++ codes ": member " ++ decimal n ++ member_words row s.ranges s.options (text_in s row) run (finding_at s.options (text_in s row) run)

-- the line of a member, by its number, if there is one
abbrev pub first_line : Sweep → List ℕ → Option ℕ → List ℕ
first_line s label None = []
first_line s label (Some n) = place_words s label n (located s (all_rows s) n)

-- a member by its number: what it changes, and its plan's text
abbrev pub member_in_row : Sweep → ℕ × ℕ → List ℕ × PlanText
member_in_row s place =
    (change_words place.0 s.ranges s.options (text_in s place.0) place.1, member_of s.options (text_in s place.0) place.1)

abbrev pub member_at : Sweep → ℕ → Option (List ℕ × PlanText)
member_at s n = option_map (member_in_row s) (located s (all_rows s) n)

-- all that a sweep says
abbrev pub sweep_text : Sweep → List ℕ
sweep_text s =
    let tally = tally_of (all_findings s) in
    rows_lines s (all_rows s) ++ tally_line tally ++ members_line s.options tally.runs (rows_members s (all_rows s))
    ++ first_line s (codes "first that isn't") tally.first ++ first_line s (codes "first refused") tally.first_refused
