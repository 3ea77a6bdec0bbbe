use Rattle.std.proofs.Common.{length}
use Rattle.wl_clock.proofs.refusals.+begin_after.Given as goal

abbrev pub decreases-begin_after : goal.decreases-begin_after
decreases-begin_after l = length l.rates.now
