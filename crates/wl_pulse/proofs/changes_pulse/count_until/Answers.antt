-- Each change that is not after the tick counts, and the first that is after it ends the count.
use Rattle.std.proofs.Common.{arith}
use Rattle.wl_record_core.proofs.Callers.{reached, not_reached}
use Rattle.wl_pulse.proofs.changes_pulse.count_until.Goals as goal

pub loop-count-preserved : goal.loop-count-preserved
loop-count-preserved c =
    let r = reached c.table_laws.ensures c.args.changes.now c.loop-count.count c.args.tick c.requires c.loop-count-test.true c.if-changes-count.true in
    omega arith

pub returns-else-changes-count : goal.returns-else-changes-count
returns-else-changes-count c =
    let r = not_reached c.table_laws.ensures c.args.changes.now c.loop-count.count c.args.tick c.requires c.loop-count-test.true c.if-changes-count.false in
    let i = c.loop-count.invariant in omega arith
