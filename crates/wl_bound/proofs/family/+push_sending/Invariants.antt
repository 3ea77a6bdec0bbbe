use Rattle.std.proofs.Common.{length}
use Rattle.wl_bound.proofs.family.+push_sending.Given as goal

abbrev pub decreases-push_sending : goal.decreases-push_sending
decreases-push_sending l = length l.from.now
