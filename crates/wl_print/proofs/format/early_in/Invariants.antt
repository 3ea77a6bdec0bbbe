use Rattle.std.proofs.Common.{◌≡◌, drop}
use Rattle.wl_print.specs.Formats.{early_in}
use Rattle.wl_print.proofs.format.early_in.Given as goal

abbrev pub invariant-loop-i : goal.invariant-loop-i
invariant-loop-i l = early_in l.i (drop l.i l.nodes) ≡ early_in 0 l.nodes
