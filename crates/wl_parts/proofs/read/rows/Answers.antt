use Rattle.std.proofs.Common.{◌+◌, sym, subst, arith, List}
use Rattle.wl_parts.specs.declared.found.RowCounts.{RowCounts}
use Rattle.wl_parts.specs.Reading.{OnlyMemory}
use Rattle.wl_parts.specs.Text.{CountsFit, row_counts_words}
use Rattle.wl_parts.proofs.Answered.{Left, fail, sets_err, step}
use Rattle.wl_parts.proofs.read.rows.Goals as goal

pub returns-in_err-row : goal.returns-in_err-row
returns-in_err-row c = λ cs end count fits is.
    sets_err c.from_residual.result c.in_err-row.field-0.0 _ cs end c.from_residual.ensures.1
    (fail row_counts_words CountsFit cs end (OnlyMemory c.in_err-row.field-0.0) c.loop.all c.loop.counter c.args.count c.loop.rest.now (omega arith)
    (λ x r f e. c.in_err-row.ensures x r f e) (c.loop.invariant cs end count fits is))

pub loop-preserved : goal.loop-preserved
loop-preserved c = λ cs end count fits is.
    subst (λ (all : List RowCounts). Left row_counts_words CountsFit cs end all (c.loop.counter + 1) c.args.count c.in_ok-row.more.now) (sym c.in_ok-push.ensures.ok)
    (step row_counts_words CountsFit cs end c.loop.all c.loop.counter c.args.count c.loop.rest.now c.in_ok-row.more.now c.in_ok-row.row (omega arith)
    (λ x r f e. c.in_ok-row.ensures x r f e) (c.loop.invariant cs end count fits is))
