use Rattle.std.proofs.Common.{◌<◌, ◌∙◌, sym, subst, arith}
use Rattle.wl_topology.specs.Delays.{delay_of}
use Rattle.wl_replica.specs.State.{slots_of}
use Rattle.wl_group.specs.GroupValue.{GroupValue}
use Rattle.wl_group.specs.Ways.{way_in, AreWays}
use Rattle.wl_group.specs.Kept.{group_value}
use Rattle.wl_group.proofs.RowProofs.{known_at}
use Rattle.wl_group.proofs.WayProofs.{place_same}
use Rattle.wl_group.proofs.group.Group.known_at.Goals as goal

pub returns : goal.returns
returns c =
    let g : GroupValue = group_value c.self.inside.plan c.self.inside.lists c.self.inside.cells.items c.self.inside.replica c.self.inside.emitted.items in
    let to : AreWays g.plan c.args.node c.ways.result.now = subst (λ (v : GroupValue). AreWays v.plan c.args.node c.ways.result.now) (sym c.self.view_is) c.ways.ensures.ways in
    let all = c.self.invariant.kept.value.of_all in
    let some : 0 < g.replica.nodes = omega (arith, all, c.self.invariant.kept.value.checked.some_node) in
    known_at g c.args.self.now c.self.invariant.kept.value c.self.view_is c.args.node c.known_by.result
    (c.known_by.ensures
    ∙ place_same g.replica.nodes (λ i j. way_in c.ways.result.now i) (delay_of g.plan.topology) (slots_of g.replica) 0 c.args.node some
    (λ i b. to.each i (omega (arith, b, all))))
