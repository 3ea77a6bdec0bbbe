use Rattle.std.proofs.Common.{length}
use Rattle.wl_engines.proofs.plan.+are_clean.Given as goal

abbrev pub decreases-are_clean : goal.decreases-are_clean
decreases-are_clean l = length l.nodes.now
