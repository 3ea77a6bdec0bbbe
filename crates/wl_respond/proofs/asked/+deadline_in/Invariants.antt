use Rattle.std.proofs.Common.{length}
use Rattle.wl_respond.proofs.asked.+deadline_in.Given as goal

abbrev pub decreases-deadline_in : goal.decreases-deadline_in
decreases-deadline_in l = length l.frames.now
