-- The clock's first quantum that is not before the end tells how many are before it.
use Rattle.wl_clock.specs.Timing.{tick_of}
use Rattle.wl_plan.proofs.CheckProofs.{many_below}
use Rattle.wl_plan.proofs.check.has_many_quanta.Goals as goal

pub returns-clause-many : goal.returns-clause-many
returns-clause-many c =
    many_below (tick_of c.args.clock.now) (c.ticks_increase.ensures.later c.args.clock.now c.first_not_before.ensures.timing) c.args.most c.args.end
    c.first_not_before.result c.first_not_before.ensures.reached c.first_not_before.ensures.least
