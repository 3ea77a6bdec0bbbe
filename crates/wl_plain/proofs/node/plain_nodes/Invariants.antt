use Rattle.std.proofs.Common.{◌≡◌, ◌++◌, map, drop}
use Rattle.toml.specs.View.{view, table_view}
use Rattle.wl_plain.specs.Nodes.{plain_node_of}
use Rattle.wl_plain.proofs.node.plain_nodes.Given as goal

-- what was made, and then what is made of the values that are left
abbrev pub invariant-loop-value : goal.invariant-loop-value
invariant-loop-value l =
    map view l.all.items ++ map (plain_node_of l.units (table_view l.controllers)) (map view (drop l.value-index l.values))
    ≡ map (plain_node_of l.units (table_view l.controllers)) (map view l.values)
