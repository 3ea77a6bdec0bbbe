use Rattle.std.proofs.Common.{◌≡◌, ◌++◌, map, drop}
use Rattle.wl_sweep.specs.Changes.{frame_with}
use Rattle.wl_sweep.proofs.change.frames_with.Given as goal

abbrev pub invariant-loop-frame : goal.invariant-loop-frame
invariant-loop-frame l = l.all ++ map (frame_with l.key l.value) (drop l.frame-index l.frames) ≡ map (frame_with l.key l.value) l.frames
