use Rattle.std.proofs.Common.{◌≡◌, drop}
use Rattle.std.specs.List.{list_any}
use Rattle.wl_sweep.specs.Vary.{frame_has}
use Rattle.wl_sweep.proofs.vary.frames_have.Given as goal

abbrev pub invariant-loop-frame : goal.invariant-loop-frame
invariant-loop-frame l = list_any (frame_has l.key) (drop l.frame-index l.frames) ≡ list_any (frame_has l.key) l.frames
