use Rattle.std.proofs.Common.{length}
use Rattle.wl_respond.proofs.asked.+most_bits_in.Given as goal

abbrev pub decreases-most_bits_in : goal.decreases-most_bits_in
decreases-most_bits_in l = length l.frames.now
