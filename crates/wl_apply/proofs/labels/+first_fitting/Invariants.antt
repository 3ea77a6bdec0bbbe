use Rattle.std.proofs.Common.{length}
use Rattle.wl_apply.proofs.labels.+first_fitting.Given as goal

abbrev pub decreases-first_fitting : goal.decreases-first_fitting
decreases-first_fitting l = length l.chosen.now
