use Rattle.std.proofs.Common.{◌≡◌, ◌++◌, drop, string_bytes}
use Rattle.std.specs.List.{flat_map}
use Rattle.wl_print.specs.Written.{node_lines}
use Rattle.wl_print.proofs.written.push_nodes.Given as goal

abbrev pub invariant-loop-node : goal.invariant-loop-node
invariant-loop-node l = string_bytes l.text ++ flat_map (node_lines l.version) (drop l.node-index l.nodes) ≡ string_bytes l.fn.text ++ flat_map (node_lines l.version) l.nodes
