use Rattle.std.proofs.Common.{◌≡◌, ◌++◌, ◌+◌, List, ℕ, length}
use Rattle.std.specs.List.{AllByRecursion}
use Rattle.wl_parts.specs.declared.found.RowCounts.{RowCounts}
use Rattle.wl_parts.specs.Text.{CountsFit, row_counts_words, each_words}
use Rattle.wl_parts.proofs.read.rows.Given as goal

-- of rows whose text this is those that are left have what is left
abbrev pub invariant-loop : goal.invariant-loop
invariant-loop l =
    (cs : List RowCounts) (end : List ℕ) → l.count ≡ length cs → AllByRecursion CountsFit cs → l.text ≡ each_words row_counts_words cs end
    → (left : List RowCounts) × (l.all ++ left ≡ cs) × (l.counter + length left ≡ l.count) × AllByRecursion CountsFit left × (l.rest ≡ each_words row_counts_words left end)
