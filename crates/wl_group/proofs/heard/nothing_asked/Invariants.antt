use Rattle.std.proofs.Common.{◌≡◌, replicate}
use Rattle.wl_topology.specs.Limits.{most_places}
use Rattle.wl_group.specs.Heard.{no_source}
use Rattle.wl_group.proofs.heard.nothing_asked.Given as goal

-- the places that were made
abbrev pub invariant-loop-made : goal.invariant-loop-made
invariant-loop-made l = l.places.items ≡ replicate l._made (replicate most_places no_source)
