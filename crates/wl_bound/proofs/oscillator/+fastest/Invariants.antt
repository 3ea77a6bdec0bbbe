use Rattle.std.proofs.Common.{length}
use Rattle.wl_bound.proofs.oscillator.+fastest.Given as goal

abbrev pub decreases-fastest : goal.decreases-fastest
decreases-fastest l = length l.later.now
