use Rattle.std.proofs.Common.{◌≡◌, ◌∙◌, ◌++◌, ap, sym, arith, drop, length, min, List}
use Rattle.std.proofs.lemmas.List.{append_assoc}
use Rattle.wl_parts.specs.declared.found.RowCounts.{RowCounts}
use Rattle.wl_parts.specs.Found.{rows_sum}
use Rattle.wl_parts.proofs.Ends.{rest_sum}
use Rattle.wl_parts.proofs.found.rows_sum.Goals as goal

pub returns : goal.returns
returns c =
    let one = c.args.one.now in
    let other = c.args.other.now in
    let n = c.min-common.result in
    let rows = c.loop-i.rows in
    let last : c.loop-i.i ≡ n = omega arith in
    let shorter : n ≡ min (length one) (length other) = omega arith in
    c.in_ok-push_rows-2.ensures
    ∙ (λ i. c.in_ok-push_rows.ensures i ++ c.split_at-2.ensures.back i)
    ∙ (λ i. (rows ++ c.split_at.ensures.back i) ++ drop n other)
    ∙ append_assoc rows (drop n one) (drop n other)
    ∙ ap (λ (t : List RowCounts). rows ++ t) (sym (rest_sum n one other shorter))
    ∙ ap (λ k. rows ++ rows_sum (drop k one) (drop k other)) (sym last)
    ∙ c.loop-i.invariant
