use Rattle.std.proofs.Common.{◌≡◌, ◌++◌, length, string_bytes}
use Rattle.wl_topology.specs.Delays.{rows}
use Rattle.wl_setup.proofs.CheckLemmas.{lines_of}
use Rattle.wl_setup.proofs.check.push_pairs.Given as goal

abbrev pub invariant-loop-i : goal.invariant-loop-i
invariant-loop-i l = string_bytes l.text ≡ string_bytes l.fn.text ++ lines_of l.topology (rows (length l.topology.places) l.i)
