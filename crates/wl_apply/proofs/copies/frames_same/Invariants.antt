use Rattle.std.proofs.Common.{◌≡◌, ◌++◌, drop}
use Rattle.wl_apply.proofs.copies.frames_same.Given as goal

abbrev pub invariant-loop-frame : goal.invariant-loop-frame
invariant-loop-frame l = l.copies ++ drop l.frame-index l.frames ≡ l.frames
