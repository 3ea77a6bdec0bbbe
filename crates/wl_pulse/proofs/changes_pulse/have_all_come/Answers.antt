-- The last change is not after the tick, so that all of them count.
use Rattle.std.proofs.Common.{◌+◌, ◌-◌, arith, length, nat_lt}
use Rattle.std.proofs.lemmas.List.Sums.{count_by-le-length}
use Rattle.wl_record_core.proofs.Callers.{reached}
use Rattle.wl_pulse.proofs.changes_pulse.have_all_come.Goals as goal

pub returns : goal.returns
returns c = λ _.
    let changes = c.args.changes.now in
    let least = reached c.table_laws.ensures changes (length changes - 1) c.args.tick c.requires (omega arith) c.if-tick-changes.false in
    let most = count_by-le-length (λ v. nat_lt v (c.args.tick + 1)) changes in
    omega (arith, least, most)
