use Rattle.std.proofs.Common.{◌≡◌, map, drop}
use Rattle.std.specs.List.{list_any}
use Rattle.toml.specs.View.{view}
use Rattle.wl_plain.specs.Asking.{asks_node_of}
use Rattle.wl_plain.proofs.asking.any_node.Given as goal

-- one of those that are left asks, if one of all does
abbrev pub invariant-loop-value : goal.invariant-loop-value
invariant-loop-value l = list_any asks_node_of (map view (drop l.value-index l.values)) ≡ list_any asks_node_of (map view l.values)
