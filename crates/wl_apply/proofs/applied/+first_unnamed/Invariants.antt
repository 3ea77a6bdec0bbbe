use Rattle.std.proofs.Common.{length}
use Rattle.wl_apply.proofs.applied.+first_unnamed.Given as goal

abbrev pub decreases-first_unnamed : goal.decreases-first_unnamed
decreases-first_unnamed l = length l.chosen.now
