-- The ways that are kept of a member are those of the plan's cable.
use Rattle.std.proofs.Common.{◌≡◌, ◌<◌, ◌≤◌, length, Some, None, sym, subst, arith}
use Rattle.std.specs.Prelude.{slice_index_or, true}
use Rattle.wl_topology.specs.Limits.{most_places}
use Rattle.wl_group.specs.GroupValue.{GroupValue, belongs}
use Rattle.wl_group.specs.Ways.{AreWays}
use Rattle.wl_group.proofs.BeginProofs.{has_place, cell_read}
use Rattle.wl_group.proofs.group.Group.ways.Goals as goal

pub returns-clause-ways : goal.returns-clause-ways
returns-clause-ways c =
    let b : c.args.node < length c.self.inside.cells.items =
    has_place c.self.inside.cells.items c.args.node (subst (λ (v : GroupValue). belongs v c.args.node ≡ true) (sym c.self.view_is) c.requires)
    in
    let e : slice_index_or c.self.inside.cells.items c.args.node None ≡ Some c.in-Some.cell =
    cell_read c.self.inside.cells.items c.args.node c.index.result.now c.in-Some.cell b c.index.ensures c.in-Some.is
    in
    subst (λ (v : GroupValue). AreWays v.plan c.args.node c.in-Some.cell.ways) c.self.view_is (c.self.invariant.kept.placed c.args.node c.in-Some.cell e).ways

pub returns-clause-some : goal.returns-clause-some
returns-clause-some c =
    let v = c.self.invariant.kept.value in
    subst (λ (w : GroupValue). 0 < w.replica.nodes) c.self.view_is (omega (arith, v.of_all, v.checked.some_node))

pub returns-clause-few : goal.returns-clause-few
returns-clause-few c =
    let v = c.self.invariant.kept.value in
    subst (λ (w : GroupValue). w.replica.nodes ≤ most_places) c.self.view_is (omega (arith, v.of_all, v.checked.few_nodes))
