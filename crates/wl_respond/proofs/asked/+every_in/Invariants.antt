use Rattle.std.proofs.Common.{length}
use Rattle.wl_respond.proofs.asked.+every_in.Given as goal

abbrev pub decreases-every_in : goal.decreases-every_in
decreases-every_in l = length l.frames.now
