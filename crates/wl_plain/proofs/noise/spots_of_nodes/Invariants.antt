use Rattle.std.proofs.Common.{◌≡◌, ◌++◌, map, drop}
use Rattle.toml.specs.View.{view}
use Rattle.wl_plain.specs.Noise.{spot_of_node}
use Rattle.wl_plain.proofs.noise.spots_of_nodes.Given as goal

-- what was made, and then what is made of the values that are left
abbrev pub invariant-loop-value : goal.invariant-loop-value
invariant-loop-value l =
    map view l.all.items ++ map spot_of_node (map view (drop l.value-index l.values)) ≡ map spot_of_node (map view l.values)
