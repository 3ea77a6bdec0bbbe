-- A row alone: one row, with the text of that row.
use Rattle.std.proofs.Common.{◌≡◌, ◌∙◌, ◌+◌, ◌-◌, ◌<◌, ◌&&◌, ℕ, zero, suc, Bool, true, List, [], ◌∷◌, ◌++◌, nat_le, length, drop, get_or, ap, sym, refl, arith, add-one}
use Rattle.std.specs.List.{flat_map, list_all, range_with_len}
use Rattle.std.proofs.lemmas.List.{append_assoc, append-nil, drop_more}
use Rattle.std.proofs.lemmas.List.Concat.{flat_map-append}
use Rattle.std.proofs.lemmas.List.Folds.{list_all-append}
use Rattle.wl_setup.specs.declared.plan_text.PlanText.{PlanText}
use Rattle.wl_sweep.specs.declared.range.SweptRange.{SweptRange}
use Rattle.wl_sweep.specs.declared.sweep.Sweep.{Sweep}
use Rattle.wl_sweep.specs.declared.sweep.TheConstants.{MOST_ROWS}
use Rattle.wl_sweep.specs.Changes.{text_with}
use Rattle.wl_sweep.specs.Findings.{is_clean}
use Rattle.wl_sweep.specs.Rows.{row_count, row_text, value_in}
use Rattle.wl_sweep.specs.Sweeps.{all_findings, is_small, row_findings, rows_findings}
use Rattle.wl_sweep.specs.Tallies.{findings_of}
use Rattle.wl_map.specs.Maps.{cell_in}
use Rattle.wl_map.specs.Rows.{FindsTheSame, ranges_alone, row_alone, with_one, with_ranges}

pub row_count_alone : (row : ℕ) (gs : List SweptRange) → row_count (ranges_alone row gs) ≡ 1
row_count_alone row [] = refl
row_count_alone row (g ∷ gs) = row_count_alone row gs

pub small_alone : (s : Sweep) (row : ℕ) → is_small (row_alone s row) ≡ true
small_alone s row = ap (λ n. nat_le n MOST_ROWS) (row_count_alone row s.ranges)

row_text_alone : (row : ℕ) (gs : List SweptRange) (plan : PlanText) → row_text 0 (ranges_alone row gs) plan ≡ row_text row gs plan
row_text_alone row [] plan = refl
row_text_alone row (g ∷ gs) plan =
    let value = value_in g (row_count gs) row in
    ap (λ n. row_text 0 (ranges_alone row gs) (text_with g.key g.named (value_in (with_one value g) n 0) plan)) (row_count_alone row gs)
    ∙ row_text_alone row gs (text_with g.key g.named value plan)

pub finds_the_same : FindsTheSame
finds_the_same s row =
    ap (λ n. rows_findings (row_alone s row) (range_with_len 0 n)) (row_count_alone row s.ranges)
    ∙ append-nil (row_findings (row_alone s row) 0)
    ∙ ap (λ text. findings_of s.options text) (row_text_alone row s.ranges s.text)

-- one range more
pub alone_more : (row : ℕ) (ranges made : List SweptRange) (i : ℕ) (g one : SweptRange) → i < length ranges → g ≡ get_or ranges i g
    → one ≡ with_one (value_in g (row_count (drop (i + 1) ranges)) row) g
    → (made ++ one ∷ []) ++ ranges_alone row (drop (i + 1) ranges) ≡ made ++ ranges_alone row (drop i ranges)
alone_more row ranges made i g one within is e =
    append_assoc made (one ∷ []) (ranges_alone row (drop (i + 1) ranges))
    ∙ ap (λ (x : SweptRange). made ++ x ∷ ranges_alone row (drop (i + 1) ranges)) e
    ∙ ap (λ gs. made ++ ranges_alone row gs) (sym (drop_more ranges i g within ∙ ap (λ h. h ∷ drop (i + 1) ranges) (sym is)))

-- the rows before one, and that one
rows_front : (a n : ℕ) → range_with_len a (n + 1) ≡ range_with_len a n ++ (a + n) ∷ []
rows_front a n = rw add-one (rows_next a n)
  where
    rows_next : (a n : ℕ) → range_with_len a (suc n) ≡ range_with_len a n ++ (a + n) ∷ []
    rows_next a zero = ap (λ (k : ℕ). k ∷ []) {x = a} {y = a + zero} (omega arith)
    rows_next a (suc n) =
        ap (λ l. a ∷ l) (rows_next (a + 1) n ∙ ap (λ (k : ℕ). range_with_len (a + 1) n ++ k ∷ []) {x = a + 1 + n} {y = a + suc n} (omega arith))

rows_up : (row : ℕ) → range_with_len 0 (row + 1) ≡ range_with_len 0 row ++ row ∷ []
rows_up row = rows_front 0 row ∙ ap (λ (k : ℕ). range_with_len 0 row ++ k ∷ []) {x = 0 + row} {y = row} (omega arith)

-- one cell more
pub cells_up : (s : Sweep) (row : ℕ) → flat_map (cell_in s) (range_with_len 0 (row + 1)) ≡ flat_map (cell_in s) (range_with_len 0 row) ++ cell_in s row
cells_up s row =
    ap (flat_map (cell_in s)) (rows_up row)
    ∙ flat_map-append (cell_in s) (range_with_len 0 row) (row ∷ [])
    ∙ ap (λ l. flat_map (cell_in s) (range_with_len 0 row) ++ l) (append-nil (cell_in s row))

pub clean_up : (s : Sweep) (row : ℕ)
    → list_all is_clean (rows_findings s (range_with_len 0 (row + 1)))
    ≡ (list_all is_clean (rows_findings s (range_with_len 0 row)) && list_all is_clean (row_findings s row))
clean_up s row =
    ap (λ rows. list_all is_clean (rows_findings s rows)) (rows_up row)
    ∙ ap (list_all is_clean) (flat_map-append (row_findings s) (range_with_len 0 row) (row ∷ []) ∙ ap (λ l. rows_findings s (range_with_len 0 row) ++ l) (append-nil (row_findings s row)))
    ∙ list_all-append is_clean (rows_findings s (range_with_len 0 row)) (row_findings s row)

-- a row alone is clean exactly if the row is
pub clean_alone : (s : Sweep) (row : ℕ) (made : List SweptRange) (clean : Bool) → FindsTheSame → made ≡ ranges_alone row s.ranges
    → clean ≡ list_all is_clean (all_findings (with_ranges s made)) → clean ≡ list_all is_clean (row_findings s row)
clean_alone s row made clean same is h =
    h ∙ ap (λ gs. list_all is_clean (all_findings (with_ranges s gs))) is ∙ ap (list_all is_clean) (same s row)
