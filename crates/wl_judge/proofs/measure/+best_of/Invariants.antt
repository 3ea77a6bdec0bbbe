use Rattle.std.proofs.Common.{length}
use Rattle.wl_judge.proofs.measure.+best_of.Given as goal

abbrev pub decreases-best_of : goal.decreases-best_of
decreases-best_of l = length l.trials.now
