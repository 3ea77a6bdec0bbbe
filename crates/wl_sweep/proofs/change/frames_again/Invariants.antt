use Rattle.std.proofs.Common.{◌≡◌, ◌++◌, drop}
use Rattle.wl_sweep.proofs.change.frames_again.Given as goal

abbrev pub invariant-loop-frame : goal.invariant-loop-frame
invariant-loop-frame l = l.copies ++ drop l.frame-index l.frames ≡ l.frames
