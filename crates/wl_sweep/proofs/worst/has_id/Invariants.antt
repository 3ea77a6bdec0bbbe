use Rattle.std.proofs.Common.{◌≡◌, drop}
use Rattle.std.specs.Prelude.{◌==◌, ◌&&◌, not}
use Rattle.std.specs.List.{list_any}
use Rattle.wl_setup.specs.declared.plan_text.FrameText.{FrameText}
use Rattle.wl_sweep.specs.Worst.{has_id}
use Rattle.wl_sweep.proofs.worst.has_id.Given as goal

abbrev pub invariant-loop-frame : goal.invariant-loop-frame
invariant-loop-frame l = list_any (λ (f : FrameText). not f.extended && (f.id == l.id)) (drop l.frame-index l.node.frame) ≡ has_id l.id l.node
