-- The last change of the guess is not after the tick, so that all of them count.
use Rattle.std.proofs.Common.{◌-◌, arith}
use Rattle.wl_record_core.proofs.Callers.{reached}
use Rattle.wl_pulse.proofs.changes_pulse.sure.Goals as goal

pub returns : goal.returns
returns c =
    let r = reached c.table_laws.ensures c.args.changes.now (c.args.guess - 1) c.args.tick c.requires (omega arith) c.if-tick-changes.false in omega arith
