use Rattle.std.proofs.Common.{length}
use Rattle.wl_proved.proofs.plans.+all_have_frames.Given as goal

abbrev pub decreases-all_have_frames : goal.decreases-all_have_frames
decreases-all_have_frames l = length l.nodes.now
