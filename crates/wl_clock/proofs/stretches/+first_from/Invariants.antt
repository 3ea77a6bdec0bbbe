use Rattle.std.proofs.Common.{length}
use Rattle.wl_clock.proofs.stretches.+first_from.Given as goal

abbrev pub decreases-first_from : goal.decreases-first_from
decreases-first_from l = length l.later.now
