use Rattle.std.proofs.Common.{◌≡◌, drop}
use Rattle.wl_print.specs.Formats.{early_after}
use Rattle.wl_print.proofs.format.early_frame.Given as goal

abbrev pub invariant-loop-n : goal.invariant-loop-n
invariant-loop-n l = early_after l.n l.ready (drop l.n l.frames) ≡ early_after 0 0 l.frames
