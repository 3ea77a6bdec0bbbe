use Rattle.std.proofs.Common.{◌≡◌, ◌++◌, List, ℕ, drop}
use Rattle.wl_parts.specs.Text.{row_counts_words, each_words}
use Rattle.wl_parts.proofs.write.push_rows.Given as goal

abbrev pub invariant-loop-row : goal.invariant-loop-row
invariant-loop-row l =
    (rest : List ℕ) → l.text.items ++ each_words row_counts_words (drop l.row-index l.rows) rest ≡ l.initial.text.items ++ each_words row_counts_words l.rows rest
