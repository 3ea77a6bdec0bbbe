use Rattle.std.proofs.Common.{length}
use Rattle.wl_margin.proofs.paces.+stray_over.Given as goal

abbrev pub decreases-stray_over : goal.decreases-stray_over
decreases-stray_over l = length l.rates.now
