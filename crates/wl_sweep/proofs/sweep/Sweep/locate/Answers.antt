use Rattle.std.proofs.Common.{◌≡◌, ◌∙◌, ap, sym, arith}
use Rattle.wl_sweep.specs.Family.{run_count}
use Rattle.wl_sweep.specs.Rows.{row_count}
use Rattle.wl_sweep.proofs.Placed.{located_here, located_later}
use Rattle.wl_sweep.proofs.sweep.Sweep.locate.Goals as goal

pub returns-then-left-from : goal.returns-then-left-from
returns-then-left-from c =
    let s = c.args.self.now in
    let rows : c.row_count-row-end.result ≡ row_count s.ranges = c.row_count-row-end.ensures ∙ ap row_count c.as_slice.ensures in
    sym (located_here s c.loop-row.row (row_count s.ranges) c.loop-row.left c.runs-runs.result (omega arith)
    (c.runs-runs.ensures ∙ (λ i. run_count (c.in_ok-family.ensures.options i) (c.in_ok-family.ensures.text i))) (omega arith))
    ∙ c.loop-row.invariant

pub loop-row-preserved : goal.loop-row-preserved
loop-row-preserved c =
    let s = c.args.self.now in
    let rows : c.row_count-row-end.result ≡ row_count s.ranges = c.row_count-row-end.ensures ∙ ap row_count c.as_slice.ensures in
    located_later s c.loop-row.row (row_count s.ranges) c.loop-row.left c.from-in-loop-row.result (omega arith)
    (c.from-in-loop-row.ensures ∙ c.runs-runs.ensures ∙ (λ i. run_count (c.in_ok-family.ensures.options i) (c.in_ok-family.ensures.text i))) (omega arith)
    ∙ c.loop-row.invariant
