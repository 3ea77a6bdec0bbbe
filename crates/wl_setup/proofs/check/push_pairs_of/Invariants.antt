use Rattle.std.proofs.Common.{◌≡◌, ◌++◌, string_bytes}
use Rattle.wl_topology.specs.Delays.{row}
use Rattle.wl_setup.proofs.CheckLemmas.{lines_of}
use Rattle.wl_setup.proofs.check.push_pairs_of.Given as goal

abbrev pub invariant-loop-j : goal.invariant-loop-j
invariant-loop-j l = string_bytes l.text ≡ string_bytes l.fn.text ++ lines_of l.topology (row l.i l.j)
