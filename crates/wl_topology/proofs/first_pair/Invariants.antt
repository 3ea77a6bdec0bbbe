use Rattle.std.proofs.Common.{◌≡◌, find, None, length}
use Rattle.wl_topology.specs.Delays.{rows}
use Rattle.wl_topology.specs.Search.{has_flaw}
use Rattle.wl_topology.proofs.first_pair.Given as goal

abbrev pub invariant-loop-i : goal.invariant-loop-i
invariant-loop-i l = find (has_flaw l.flaw (record { places = l.places; per = l.per })) (rows (length l.places) l.i) ≡ None
