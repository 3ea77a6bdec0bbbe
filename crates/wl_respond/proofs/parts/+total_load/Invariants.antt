use Rattle.std.proofs.Common.{length}
use Rattle.wl_respond.proofs.parts.+total_load.Given as goal

abbrev pub decreases-total_load : goal.decreases-total_load
decreases-total_load l = length l.messages.now
