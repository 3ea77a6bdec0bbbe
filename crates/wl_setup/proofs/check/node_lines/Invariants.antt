use Rattle.std.proofs.Common.{string_bytes}
use Rattle.wl_setup.proofs.CheckLemmas.{IsPart}
use Rattle.wl_setup.proofs.check.node_lines.Given as goal

abbrev pub invariant-loop-i : goal.invariant-loop-i
invariant-loop-i l = IsPart l.names l.i l.nodes (string_bytes l.text)
