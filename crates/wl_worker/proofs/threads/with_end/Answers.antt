use Rattle.std.proofs.Common.{Some, sym, subst}
use Rattle.wl_worker.specs.Faults.{IsNextFault}
use Rattle.wl_worker.proofs.threads.with_end.Goals as goal

pub returns-in-Some-default : goal.returns-in-Some-default
returns-in-Some-default c =
    subst (λ first. IsNextFault first c.args.end.now (Some c.lower_of.result)) (sym c.in-Some-default.is-0) c.lower_of.ensures
