use Rattle.std.proofs.Common.{◌≡◌, map, drop}
use Rattle.std.specs.List.{list_any}
use Rattle.toml.specs.View.{view}
use Rattle.wl_plain.specs.Noise.{is_node_named}
use Rattle.wl_plain.proofs.noise.any_named.Given as goal

-- one of those that are left has the name, if one of all does
abbrev pub invariant-loop-value : goal.invariant-loop-value
invariant-loop-value l =
    list_any (is_node_named l.name) (map view (drop l.value-index l.values)) ≡ list_any (is_node_named l.name) (map view l.values)
