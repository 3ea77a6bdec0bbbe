-- The clock's first quantum that is not before a tick tells which are before it.
use Rattle.wl_clock.specs.Timing.{tick_of}
use Rattle.wl_explain.proofs.Means.{below}
use Rattle.wl_explain.proofs.doubts.begins_before.Goals as goal

pub returns : goal.returns
returns c =
    below (tick_of c.args.node.now.clock) (c.ticks_increase.ensures.later c.args.node.now.clock c.first_not_before.ensures.timing) c.args.k c.args.t
    c.first_not_before.result c.first_not_before.ensures.reached c.first_not_before.ensures.least
