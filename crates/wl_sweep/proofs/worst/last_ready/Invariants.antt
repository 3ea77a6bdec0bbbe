use Rattle.std.proofs.Common.{◌≡◌, drop}
use Rattle.std.specs.Prelude.{fold}
use Rattle.wl_setup.specs.declared.plan_text.FrameText.{FrameText}
use Rattle.wl_sweep.specs.Worst.{last_ready}
use Rattle.wl_sweep.proofs.worst.last_ready.Given as goal

abbrev pub invariant-loop-frame : goal.invariant-loop-frame
invariant-loop-frame l = fold (λ last (f : FrameText). f.ready) l.ready (drop l.frame-index l.frames) ≡ last_ready l.frames
