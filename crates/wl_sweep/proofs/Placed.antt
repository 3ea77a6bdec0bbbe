-- Rows one after another: their texts, findings, members and lines, and where a member is.
use Rattle.std.proofs.Common.{cond, ◌≡◌, ◌∙◌, ◌+◌, ◌-◌, ◌*◌, ◌^◌, ◌<◌, ◌≤◌, ℕ, zero, suc, List, [], ◌∷◌, ◌++◌, length, drop, get_or, Some, ap, sym, arith, add-one, length-append}
use Rattle.std.specs.List.{range_with_len}
use Rattle.std.proofs.lemmas.List.{drop_more, append-nil}
use Rattle.std.proofs.lemmas.List.Concat.{flat_map-append}
use Rattle.std.proofs.lemmas.Grind.{fold-append}
use Rattle.std.proofs.lemmas.Bool.{lt-ltb, le-ltb}
use Rattle.wl_setup.specs.declared.plan_text.PlanText.{PlanText}
use Rattle.wl_sweep.specs.declared.range.SweptRange.{SweptRange}
use Rattle.wl_sweep.specs.declared.sweep.Sweep.{Sweep}
use Rattle.wl_sweep.specs.declared.tally.Tally.{Tally}
use Rattle.wl_sweep.specs.Changes.{text_with}
use Rattle.wl_sweep.specs.Family.{run_count, widely_capped}
use Rattle.wl_sweep.specs.Rows.{row_count, row_text, value_in}
use Rattle.wl_sweep.specs.Sweeps.{line_of_row, located, members_in, row_findings, rows_findings, rows_lines, rows_members, text_in}
use Rattle.wl_sweep.specs.Tallies.{tally_of}
use Rattle.wl_sweep.proofs.Found.{Joins, findings_length}

-- the text of a row after one range more
pub row_text_more : (row : ℕ) (ranges : List SweptRange) (i : ℕ) (made more : PlanText) (g : SweptRange) → i < length ranges → g ≡ get_or ranges i g
    → more ≡ text_with g.key g.named (value_in g (row_count (drop (i + 1) ranges)) row) made → row_text row (drop (i + 1) ranges) more ≡ row_text row (drop i ranges) made
row_text_more row ranges i made more g within is e =
    ap (λ t. row_text row (drop (i + 1) ranges) t) e
    ∙ sym (ap (λ gs. row_text row gs made) (drop_more ranges i g within ∙ ap (λ h. h ∷ drop (i + 1) ranges) (sym is)))

-- the rows before one, and that one
rows_front : (a n : ℕ) → range_with_len a (n + 1) ≡ range_with_len a n ++ (a + n) ∷ []
rows_front a n = rw add-one (rows_next a n)
  where
    rows_next : (a n : ℕ) → range_with_len a (suc n) ≡ range_with_len a n ++ (a + n) ∷ []
    rows_next a zero = ap (λ (k : ℕ). k ∷ []) {x = a} {y = a + zero} (omega arith)
    rows_next a (suc n) =
        ap (λ l. a ∷ l) (rows_next (a + 1) n ∙ ap (λ (k : ℕ). range_with_len (a + 1) n ++ k ∷ []) {x = a + 1 + n} {y = a + suc n} (omega arith))

pub rows_up : (row : ℕ) → range_with_len 0 (row + 1) ≡ range_with_len 0 row ++ row ∷ []
rows_up row = rows_front 0 row ∙ ap (λ (k : ℕ). range_with_len 0 row ++ k ∷ []) {x = 0 + row} {y = row} (omega arith)

-- the rows from one on
pub rows_down : (row rows : ℕ) → row < rows → range_with_len row (rows - row) ≡ row ∷ range_with_len (row + 1) (rows - (row + 1))
rows_down row rows within = ap (λ k. range_with_len row k) {x = rows - row} {y = suc (rows - (row + 1))} (omega arith)

module _ (s : Sweep) where
  -- a row has fewer than 2^32 runs
  row_length : (row : ℕ) → s.options.runs < 2 ^ 32 → length (row_findings s row) < 2 ^ 32
  row_length row few =
      let count : length (row_findings s row) ≡ run_count s.options (text_in s row) = findings_length s.options (text_in s row) 0 (run_count s.options (text_in s row)) in
      let least : run_count s.options (text_in s row) ≤ s.options.runs = omega arith in
      omega arith

  pub rows_length : (a n : ℕ) → s.options.runs < 2 ^ 32 → length (rows_findings s (range_with_len a n)) ≤ n * 2 ^ 32
  rows_length a zero few = omega arith
  rows_length a (suc n) few =
      let sum : length (row_findings s a ++ rows_findings s (range_with_len (a + 1) n)) ≡ length (row_findings s a) + length (rows_findings s (range_with_len (a + 1) n)) = length-append (row_findings s a) (rows_findings s (range_with_len (a + 1) n)) in
      let here : length (row_findings s a) < 2 ^ 32 = row_length a few in
      let rest : length (rows_findings s (range_with_len (a + 1) n)) ≤ n * 2 ^ 32 = rows_length (a + 1) n few in
      omega arith

  pub findings_rows : (row : ℕ) → rows_findings s (range_with_len 0 (row + 1)) ≡ rows_findings s (range_with_len 0 row) ++ row_findings s row
  findings_rows row =
      ap (rows_findings s) (rows_up row)
      ∙ flat_map-append (row_findings s) (range_with_len 0 row) (row ∷ [])
      ∙ ap (λ l. rows_findings s (range_with_len 0 row) ++ l) (append-nil (row_findings s row))

  pub lines_rows : (row : ℕ) → rows_lines s (range_with_len 0 (row + 1)) ≡ rows_lines s (range_with_len 0 row) ++ rows_lines s (row ∷ [])
  lines_rows row = ap (rows_lines s) (rows_up row) ∙ flat_map-append (line_of_row s s.ranges) (range_with_len 0 row) (row ∷ [])

  pub members_rows : (row : ℕ) → rows_members s (range_with_len 0 (row + 1)) ≡ widely_capped (rows_members s (range_with_len 0 row) + members_in s row)
  members_rows row =
      ap (rows_members s) (rows_up row)
      ∙ fold-append (λ (members : ℕ) (r : ℕ). widely_capped (members + members_in s r)) 0 (range_with_len 0 row) (row ∷ [])

  -- the tally of one row more
  pub tally_rows : (row : ℕ) (t u r : Tally) → s.options.runs < 2 ^ 32 → row < 10000 → Joins t u r
      → t ≡ tally_of (rows_findings s (range_with_len 0 row)) → u ≡ tally_of (row_findings s row)
      → r ≡ tally_of (rows_findings s (range_with_len 0 (row + 1)))
  tally_rows row t u r few within joins before here =
      joins (rows_findings s (range_with_len 0 row)) (row_findings s row) before here
      (let most : length (rows_findings s (range_with_len 0 row)) ≤ row * 2 ^ 32 = rows_length 0 row few in
      let one : length (row_findings s row) < 2 ^ 32 = row_length row few in omega arith)
      ∙ ap tally_of (sym (findings_rows row))

  -- a member is in a row
  pub located_here : (row rows left runs : ℕ) → row < rows → runs ≡ run_count s.options (text_in s row) → left < runs
      → located s (range_with_len row (rows - row)) left ≡ Some (row, left)
  located_here row rows left runs within is here =
      ap (λ l. located s l left) (rows_down row rows within)
      ∙ ap (λ b. cond b (Some (row, left)) (located s (range_with_len (row + 1) (rows - (row + 1))) (left - run_count s.options (text_in s row))))
      (lt-ltb left (run_count s.options (text_in s row)) (omega arith))

  -- or in a later one
  pub located_later : (row rows left runs : ℕ) → row < rows → runs ≡ run_count s.options (text_in s row) → runs ≤ left
      → located s (range_with_len (row + 1) (rows - (row + 1))) (left - runs) ≡ located s (range_with_len row (rows - row)) left
  located_later row rows left runs within is past =
      ap (λ k. located s (range_with_len (row + 1) (rows - (row + 1))) (left - k)) is
      ∙ sym (ap (λ l. located s l left) (rows_down row rows within)
      ∙ ap (λ b. cond b (Some (row, left)) (located s (range_with_len (row + 1) (rows - (row + 1))) (left - run_count s.options (text_in s row))))
      (le-ltb left (run_count s.options (text_in s row)) (omega arith)))
