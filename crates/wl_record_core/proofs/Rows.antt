-- The limits, in numbers.
use Rattle.std.specs.Prelude.{◌≡◌, ◌^◌, refl}
use Rattle.wl_limits.specs.declared.Limits.TheVariants.{Narrow, Wide}
use Rattle.wl_limits.specs.Limits.{node_limit, edge_limit}
use Rattle.wl_record_core.specs.Limits.{most_nodes, most_edges, text_nodes, text_edges, tick_end}

nodes_are : most_nodes ≡ node_limit Wide
unfolding most_nodes
nodes_are = refl

edges_are : most_edges ≡ edge_limit Wide
unfolding most_edges
edges_are = refl

text_nodes_are : text_nodes ≡ node_limit Narrow
unfolding text_nodes
text_nodes_are = refl

text_edges_are : text_edges ≡ edge_limit Narrow
unfolding text_edges
text_edges_are = refl

ticks_are : tick_end ≡ 2 ^ 48
unfolding tick_end
ticks_are = refl
