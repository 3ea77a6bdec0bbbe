use Rattle.std.proofs.Common.{◌≡◌, ◌<◌, length, Some, None, sym, ◌∙◌, ap, subst}
use Rattle.std.specs.Prelude.{slice_index_or, true}
use Rattle.wl_node.specs.Reached.{IsNode}
use Rattle.wl_group.specs.GroupValue.{GroupValue, members_now, belongs}
use Rattle.wl_group.proofs.BeginProofs.{has_place, cell_read, kept_member}
use Rattle.wl_group.proofs.group.Group.node.Goals as goal

pub returns-clause-node : goal.returns-clause-node
returns-clause-node c =
    let b : c.args.i < length c.self.inside.cells.items =
    has_place c.self.inside.cells.items c.args.i (subst (λ (v : GroupValue). belongs v c.args.i ≡ true) (sym c.self.view_is) c.requires)
    in
    let e : slice_index_or c.self.inside.cells.items c.args.i None ≡ Some c.in-Some.cell =
    cell_read c.self.inside.cells.items c.args.i c.index.result.now c.in-Some.cell b c.index.ensures c.in-Some.is
    in
    subst (λ (v : GroupValue). IsNode (members_now v c.args.i).saw c.in-Some.cell.node) c.self.view_is
    (subst (λ m. IsNode m.saw c.in-Some.cell.node)
    (sym (kept_member c.self.inside.plan c.self.inside.lists c.self.inside.cells.items c.self.inside.replica c.self.inside.emitted.items c.args.i c.in-Some.cell e))
    (c.self.invariant.kept.placed c.args.i c.in-Some.cell e).node)

pub returns-clause-keeps : goal.returns-clause-keeps
returns-clause-keeps c listed =
    let b : c.args.i < length c.self.inside.cells.items =
    has_place c.self.inside.cells.items c.args.i (subst (λ (v : GroupValue). belongs v c.args.i ≡ true) (sym c.self.view_is) c.requires)
    in
    let e : slice_index_or c.self.inside.cells.items c.args.i None ≡ Some c.in-Some.cell =
    cell_read c.self.inside.cells.items c.args.i c.index.result.now c.in-Some.cell b c.index.ensures c.in-Some.is
    in
    c.self.invariant.kept.listing (ap (λ (v : GroupValue). v.lists) c.self.view_is ∙ listed) c.args.i c.in-Some.cell e
