-- Texts that grow by one piece after another.
use Rattle.std.proofs.Common.{◌≡◌, ◌∙◌, ℕ, List, [], ◌∷◌, ◌++◌, ap, sym, refl, codes}
use Rattle.std.proofs.lemmas.List.{append-nil}
use Rattle.wl_sweep.specs.declared.range.SweptRange.{SweptRange}
use Rattle.wl_sweep.specs.declared.sweep.Sweep.{Sweep}
use Rattle.wl_sweep.specs.declared.tally.Tally.{Tally}
use Rattle.wl_sweep.specs.Sweeps.{all_findings, all_rows, first_line, line_of_row, row_findings, rows_lines, rows_members, sweep_text}
use Rattle.wl_sweep.specs.Tallies.{tally_of}
use Rattle.wl_sweep.specs.Words.{members_line, row_line, tally_line}

-- the line of a row, where there are ranges
pub with_line : (s : Sweep) (gs : List SweptRange) (row : ℕ) (t : Tally) (old new : List ℕ) → (gs ≡ [] → ⊥) → t ≡ tally_of (row_findings s row)
    → new ≡ old ++ row_line row gs t → new ≡ old ++ (line_of_row s gs row ++ [])
with_line s [] row t old new some is e = absurd (some refl)
with_line s (g ∷ gs) row t old new some is e =
    e ∙ ap (λ u. old ++ row_line row (g ∷ gs) u) is ∙ ap (λ l. old ++ l) (sym (append-nil (row_line row (g ∷ gs) (tally_of (row_findings s row)))))

-- and none where there is none
pub without_line : (s : Sweep) (gs : List SweptRange) (row : ℕ) (old new : List ℕ) → gs ≡ [] → new ≡ old → new ≡ old ++ (line_of_row s gs row ++ [])
without_line s gs row old new none same =
    same ∙ sym (ap (λ l. old ++ (line_of_row s l row ++ [])) none ∙ append-nil old)

-- the whole text
pub whole_text : (s : Sweep) (t : Tally) (m : ℕ) (b0 b1 b2 b3 b4 b5 : List ℕ) → t ≡ tally_of (all_findings s) → m ≡ rows_members s (all_rows s)
    → b0 ≡ [] → b1 ≡ b0 ++ rows_lines s (all_rows s) → b2 ≡ b1 ++ tally_line t → b3 ≡ b2 ++ members_line s.options t.runs m
    → b4 ≡ b3 ++ first_line s (codes "first that isn't") t.first → b5 ≡ b4 ++ first_line s (codes "first refused") t.first_refused
    → b5 ≡ sweep_text s
whole_text s t m b0 b1 b2 b3 b4 b5 ti mi e0 e1 e2 e3 e4 e5 =
    e5
    ∙ ap (λ b. b ++ first_line s (codes "first refused") t.first_refused) (e4
    ∙ ap (λ b. b ++ first_line s (codes "first that isn't") t.first) (e3
    ∙ ap (λ b. b ++ members_line s.options t.runs m) (e2
    ∙ ap (λ b. b ++ tally_line t) (e1 ∙ ap (λ b. b ++ rows_lines s (all_rows s)) e0))))
    ∙ (λ i. rows_lines s (all_rows s) ++ tally_line (ti i) ++ members_line s.options (ti i).runs (mi i)
    ++ first_line s (codes "first that isn't") (ti i).first ++ first_line s (codes "first refused") (ti i).first_refused)
