use Rattle.std.proofs.Common.{false, subst}
use Rattle.wl_bound.specs.Families.{Buses}
use Rattle.wl_respond.specs.Bounds.{AreWaitsFor}
use Rattle.wl_respond.proofs.bounds.waits_for.Goals as goal

pub returns-clause-waits : goal.returns-clause-waits
returns-clause-waits c =
    subst (λ (f : Buses). AreWaitsFor c.args.tick false c.args.plain.now c.args.bus.now f c.in_ok-waits.waits) c.in_ok-family.ensures c.in_ok-waits.ensures.waits
