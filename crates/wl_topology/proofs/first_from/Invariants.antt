use Rattle.std.proofs.Common.{◌≡◌, find, None}
use Rattle.wl_topology.specs.Delays.{row}
use Rattle.wl_topology.specs.Search.{has_flaw}
use Rattle.wl_topology.proofs.first_from.Given as goal

abbrev pub invariant-loop-j : goal.invariant-loop-j
invariant-loop-j l = find (has_flaw l.flaw (record { places = l.places; per = l.per })) (row l.i l.j) ≡ None
