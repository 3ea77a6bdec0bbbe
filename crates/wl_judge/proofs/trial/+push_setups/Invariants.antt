use Rattle.std.proofs.Common.{length}
use Rattle.wl_judge.proofs.trial.+push_setups.Given as goal

abbrev pub decreases-push_setups : goal.decreases-push_setups
decreases-push_setups l = length l.setups.now
