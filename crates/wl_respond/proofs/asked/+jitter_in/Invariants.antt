use Rattle.std.proofs.Common.{length}
use Rattle.wl_respond.proofs.asked.+jitter_in.Given as goal

abbrev pub decreases-jitter_in : goal.decreases-jitter_in
decreases-jitter_in l = length l.frames.now
