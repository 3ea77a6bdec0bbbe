use Rattle.wl_apply.specs.Moves.{frame_in_time}
use Rattle.wl_apply.proofs.Making.{IsSoFar}
use Rattle.wl_apply.proofs.moves.moved_frames.Given as goal

abbrev pub invariant-loop-n : goal.invariant-loop-n
invariant-loop-n l = IsSoFar (frame_in_time l.ratio l.i) l.made l.n l.frames
