use Rattle.std.proofs.Common.{Some, sym, subst}
use Rattle.std.specs.Prelude.{Err}
use Rattle.wl_worker.specs.Faults.{IsNextFault}
use Rattle.wl_worker.proofs.Faults.{next_lower}
use Rattle.wl_worker.proofs.threads.lower_of.Goals as goal

pub returns-in-Err : goal.returns-in-Err
returns-in-Err c =
    let fault = c.in-Err.fault in
    let first = c.args.first in
    subst (λ end. IsNextFault (Some first) end (Some c.or_lower.result)) (sym c.in-Err.is)
    (subst (λ next. IsNextFault (Some first) (Err fault) (Some next)) (sym c.or_lower.ensures) (next_lower fault first))
