use Rattle.std.proofs.Common.{length}
use Rattle.wl_bound.proofs.oscillator.+slowest.Given as goal

abbrev pub decreases-slowest : goal.decreases-slowest
decreases-slowest l = length l.later.now
