use Rattle.std.proofs.Common.{length}
use Rattle.wl_judge.proofs.trial.+push_deviations.Given as goal

abbrev pub decreases-push_deviations : goal.decreases-push_deviations
decreases-push_deviations l = length l.deviations.now
