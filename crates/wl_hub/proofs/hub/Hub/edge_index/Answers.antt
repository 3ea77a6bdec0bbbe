use Rattle.std.proofs.Common.{◌+◌, slice_index_or, arith}
use Rattle.wl_hub.specs.Words.{edge_widths}
use Rattle.wl_hub.proofs.Shapes.{placed, place_below}
use Rattle.wl_hub.proofs.hub.Hub.edge_index.Goals as goal

pub overflow_add-result : goal.overflow_add-result
overflow_add-result g c =
    let here = placed (edge_widths c.args.self.now.shape.items) c.args.self.now.edge_firsts c.args.node c.args.seq c.args.self.now.edges_placed c.ranges.node.fits c.requires in
    let low = place_below (edge_widths c.args.self.now.shape.items) c.args.node c.args.seq (slice_index_or c.args.self.now.edge_firsts c.args.node 0 + c.args.seq) here in
    let counted = c.args.self.now.edges_counted in
    let room = c.args.self.now.room in
    omega (arith, low, counted.0, room)

pub returns-clause-place : goal.returns-clause-place
returns-clause-place g c =
    placed (edge_widths c.args.self.now.shape.items) c.args.self.now.edge_firsts c.args.node c.args.seq c.args.self.now.edges_placed c.ranges.node.fits c.requires

pub returns-clause-inside : goal.returns-clause-inside
returns-clause-inside g c =
    let here = placed (edge_widths c.args.self.now.shape.items) c.args.self.now.edge_firsts c.args.node c.args.seq c.args.self.now.edges_placed c.ranges.node.fits c.requires in
    let low = place_below (edge_widths c.args.self.now.shape.items) c.args.node c.args.seq (slice_index_or c.args.self.now.edge_firsts c.args.node 0 + c.args.seq) here in
    let counted = c.args.self.now.edges_counted in
    omega (arith, low, counted.0, counted.1)
