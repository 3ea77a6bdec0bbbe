use Rattle.std.proofs.Common.{length}
use Rattle.wl_bound.proofs.family.+push_members.Given as goal

abbrev pub decreases-push_members : goal.decreases-push_members
decreases-push_members l = length l.nodes.now
