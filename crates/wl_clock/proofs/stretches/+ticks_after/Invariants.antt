use Rattle.std.proofs.Common.{length}
use Rattle.wl_clock.proofs.stretches.+ticks_after.Given as goal

abbrev pub decreases-ticks_after : goal.decreases-ticks_after
decreases-ticks_after l = length l.later.now
