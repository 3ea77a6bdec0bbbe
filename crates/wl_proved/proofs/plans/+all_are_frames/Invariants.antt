use Rattle.std.proofs.Common.{length}
use Rattle.wl_proved.proofs.plans.+all_are_frames.Given as goal

abbrev pub decreases-all_are_frames : goal.decreases-all_are_frames
decreases-all_are_frames l = length l.queue.now
