-- A part of a sweep: which runs of each row it has, and what is found of them.
use Rattle.std.proofs.Common.{◌≡◌, ◌∙◌, ◌+◌, ◌-◌, ◌*◌, ◌^◌, ◌<◌, ◌≤◌, min, ℕ, zero, suc, List, [], ◌∷◌, ◌++◌, length, map, Option, Some, None, option_map, codes, refl, sym, ap, arith, length-append}
use Rattle.std.specs.Option.{option_map_or}
use Rattle.std.specs.List.{flat_map, position_from, range_with_len}
use Rattle.std.proofs.lemmas.List.{append_assoc}
use Rattle.wl_parts.proofs.Callers.{length-slice, slice-append, slice-nil}
use Rattle.wl_parts.specs.Lines.{counts_line}
use Rattle.wl_parts.specs.Joined.{lines_of_rows as parts_lines}
use Rattle.wl_parts.specs.Whole.{all_of, counts_in, rows_between, slice, whole_text}
use Rattle.wl_sweep.specs.declared.finding.Finding.{Finding}
use Rattle.wl_sweep.specs.declared.range.SweptRange.{SweptRange}
use Rattle.wl_sweep.specs.declared.sweep.Sweep.{Sweep}
use Rattle.wl_sweep.specs.declared.tally.Tally.{Tally}
use Rattle.wl_sweep.specs.Family.{capped, run_count}
use Rattle.wl_sweep.specs.Findings.{is_clean}
use Rattle.wl_sweep.specs.Parts.{SaysTheSweep, kinds_of, whole_of, row_beginnings}
use Rattle.wl_sweep.specs.Rows.{row_count}
use Rattle.wl_sweep.specs.Sweeps.{all_findings, all_rows, first_line, line_of_row, row_findings, rows_findings, rows_lines, rows_members, sweep_text, text_in}
use Rattle.wl_sweep.specs.Tallies.{finding_at, findings_from, tally_of}
use Rattle.wl_sweep.specs.Words.{members_line, row_words, tally_line}
use Rattle.wl_sweep.proofs.Callers.{all_counted, first-shift}
use Rattle.wl_sweep.proofs.Found.{Joins, findings_length}
use Rattle.wl_sweep.proofs.Placed.{rows_down, rows_length}

module _ {Y : Type 0} (f : ℕ → Y) where
  -- a slice of what is made of numbers in order
  pub slice-numbers : (a n lo hi : ℕ) → lo ≤ hi → slice lo hi (map f (range_with_len a n)) ≡ map f (range_with_len (a + min lo n) (min hi n - min lo n))
  slice-numbers a zero lo hi low =
      slice-nil lo hi ∙ ap (λ k. map f (range_with_len (a + min lo 0) k)) {x = 0} {y = min hi 0 - min lo 0} (omega arith)
  slice-numbers a (suc n) zero zero low =
      ap (λ k. map f (range_with_len (a + min 0 (suc n)) k)) {x = 0} {y = min 0 (suc n) - min 0 (suc n)} (omega arith)
  slice-numbers a (suc n) zero (suc hi) low =
      let p : a + 1 + min 0 n ≡ a + 1 = omega arith in
      let q : min hi n - min 0 n ≡ min hi n = omega arith in
      let u : a ≡ a + min 0 (suc n) = omega arith in
      let v : suc (min hi n) ≡ min (suc hi) (suc n) - min 0 (suc n) = omega arith in
      ap (λ l. f a ∷ l) (slice-numbers (a + 1) n 0 hi (omega arith) ∙ (λ i. map f (range_with_len (p i) (q i))))
      ∙ (λ i. map f (range_with_len (u i) (v i)))
  slice-numbers a (suc n) (suc lo) zero low = absurd (omega arith)
  slice-numbers a (suc n) (suc lo) (suc hi) low =
      let p : a + 1 + min lo n ≡ a + min (suc lo) (suc n) = omega arith in
      let q : min hi n - min lo n ≡ min (suc hi) (suc n) - min (suc lo) (suc n) = omega arith in
      slice-numbers (a + 1) n lo hi (omega arith) ∙ (λ i. map f (range_with_len (p i) (q i)))

module _ (s : Sweep) where
  abbrev pub runs_in : ℕ → ℕ
  runs_in row = run_count s.options (text_in s row)

  pub row_runs : (row : ℕ) → length (row_findings s row) ≡ runs_in row
  row_runs row = findings_length s.options (text_in s row) 0 (runs_in row)

  -- what is found of the runs of a row that have these numbers
  pub row_slice : (row lo hi : ℕ) → lo ≤ hi
      → slice lo hi (row_findings s row) ≡ findings_from s.options (text_in s row) (min lo (runs_in row)) (min hi (runs_in row) - min lo (runs_in row))
  row_slice row lo hi low =
      let first : 0 + min lo (runs_in row) ≡ min lo (runs_in row) = omega arith in
      slice-numbers (finding_at s.options (text_in s row)) 0 (runs_in row) lo hi low
      ∙ ap (λ k. findings_from s.options (text_in s row) k (min hi (runs_in row) - min lo (runs_in row))) first

  pub all-rows : (rows : List ℕ) → all_of (map (row_findings s) rows) ≡ rows_findings s rows
  all-rows [] = refl
  all-rows (row ∷ rows) = ap (λ l. row_findings s row ++ l) (all-rows rows)

  -- the rows from one on
  abbrev pub rest : ℕ → List ℕ
  rest row = range_with_len row (row_count s.ranges - row)

  pub slice_rest : (row lo hi : ℕ) → row < row_count s.ranges
      → slice lo hi (rows_findings s (rest row)) ≡ slice lo hi (row_findings s row) ++ slice (lo - runs_in row) (hi - runs_in row) (rows_findings s (rest (row + 1)))
  slice_rest row lo hi within =
      ap (λ l. slice lo hi (rows_findings s l)) (rows_down row (row_count s.ranges) within)
      ∙ slice-append lo hi (row_findings s row) (rows_findings s (rest (row + 1)))
      ∙ (λ i. slice lo hi (row_findings s row) ++ slice (lo - row_runs row i) (hi - row_runs row i) (rows_findings s (rest (row + 1))))

  pub rows_rest : (row lo hi : ℕ) → row < row_count s.ranges
      → rows_between (kinds_of s) lo hi (map (row_findings s) (rest row))
      ≡ counts_in (kinds_of s) (slice lo hi (row_findings s row)) ∷ rows_between (kinds_of s) (lo - runs_in row) (hi - runs_in row) (map (row_findings s) (rest (row + 1)))
  rows_rest row lo hi within =
      ap (λ l. rows_between (kinds_of s) lo hi (map (row_findings s) l)) (rows_down row (row_count s.ranges) within)
      ∙ (λ i. counts_in (kinds_of s) (slice lo hi (row_findings s row))
      ∷ rows_between (kinds_of s) (lo - row_runs row i) (hi - row_runs row i) (map (row_findings s) (rest (row + 1))))

  -- the number of a first member, by its place
  pub first_number : (kind : Finding → _) (lo hi : ℕ) (xs : List Finding) → lo ≤ hi → hi ≤ length xs → length xs < 2 ^ 64
      → option_map (λ n. capped (lo + n)) (position_from kind 0 (slice lo hi xs)) ≡ position_from kind lo (slice lo hi xs)
  first_number kind lo hi xs low high few =
      let most = length-slice lo hi xs in
      let zero_on : lo + 0 ≡ lo = omega arith in
      first-shift kind lo 0 (slice lo hi xs) (omega (arith, most)) ∙ ap (λ k. position_from kind k (slice lo hi xs)) zero_on

  -- what the whole says
  first_said : (label : List ℕ) (o : Option ℕ) → option_map_or (λ n. first_line s label (Some n)) o [] ≡ first_line s label o
  first_said label None = refl
  first_said label (Some n) = refl

  no_lines : (rows : List ℕ) → [] ≡ flat_map (line_of_row s []) rows
  no_lines [] = refl
  no_lines (row ∷ rows) = no_lines rows

  lines_said : (gs : List SweptRange) (rows : List ℕ)
      → parts_lines (row_beginnings gs rows) (map (counts_in (kinds_of s)) (map (row_findings s) rows)) ≡ flat_map (line_of_row s gs) rows
  lines_said [] rows = no_lines rows
  lines_said (g ∷ gs) [] = refl
  lines_said (g ∷ gs) (row ∷ rows) =
      ap (λ l. (row_words row (g ∷ gs) ++ counts_line (counts_in (kinds_of s) (row_findings s row))) ++ l) (lines_said (g ∷ gs) rows)

five : (a b c d e t : List ℕ) → a ++ (b ++ (c ++ (d ++ (e ++ t)))) ≡ ((((a ++ b) ++ c) ++ d) ++ e) ++ t
five a b c d e t =
    sym (append_assoc (((a ++ b) ++ c) ++ d) e t ∙ append_assoc ((a ++ b) ++ c) d (e ++ t) ∙ append_assoc (a ++ b) c (d ++ (e ++ t))
    ∙ append_assoc a b (c ++ (d ++ (e ++ t))))

pub says_the_sweep : SaysTheSweep
says_the_sweep = record {
  text = λ s of tail.
      let all = all-rows s (all_rows s) in
      let words = whole_of s of tail in
      let t = tally_of (all_findings s) in
      (λ i. lines_said s s.ranges (all_rows s) i ++ (counts_line (counts_in (kinds_of s) (all i)) ++ (words.members
      ++ (option_map_or (kinds_of s).unclean_line (position_from (kinds_of s).unclean 0 (all i)) []
      ++ (option_map_or (kinds_of s).refused_line (position_from (kinds_of s).refused 0 (all i)) [] ++ tail)))))
      ∙ (λ i. rows_lines s (all_rows s) ++ (counts_line (counts_in (kinds_of s) (all_findings s)) ++ (words.members
      ++ (first_said s (codes "first that isn't") t.first i ++ (first_said s (codes "first refused") t.first_refused i ++ tail)))))
      ∙ five (rows_lines s (all_rows s)) (tally_line t) words.members (first_line s (codes "first that isn't") t.first)
      (first_line s (codes "first refused") t.first_refused) tail;
  members = λ s of tail. all-rows s (all_rows s);
  clean = λ found. all_counted is_clean found;
}
