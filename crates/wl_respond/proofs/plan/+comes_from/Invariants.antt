use Rattle.std.proofs.Common.{length}
use Rattle.wl_respond.proofs.plan.+comes_from.Given as goal

abbrev pub decreases-comes_from : goal.decreases-comes_from
decreases-comes_from l = length l.later.now
