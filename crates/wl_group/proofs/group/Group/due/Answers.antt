-- The tick that is kept of a member is that of its next quantum.
use Rattle.std.proofs.Common.{◌≡◌, ◌<◌, ◌∙◌, ap, length, Some, None, sym, subst}
use Rattle.std.specs.Prelude.{slice_index_or, true}
use Rattle.wl_plan.specs.PlanLine.{line_of}
use Rattle.wl_node.specs.Reached.{quanta_of}
use Rattle.wl_group.specs.Member.{next_tick}
use Rattle.wl_group.specs.GroupValue.{GroupValue, members_now, belongs}
use Rattle.wl_group.proofs.BeginProofs.{has_place, cell_read, kept_member}
use Rattle.wl_group.proofs.group.Group.due.Goals as goal

pub returns : goal.returns
returns c =
    let plan = c.self.inside.plan in
    let b : c.args.node < length c.self.inside.cells.items =
    has_place c.self.inside.cells.items c.args.node (subst (λ (v : GroupValue). belongs v c.args.node ≡ true) (sym c.self.view_is) c.requires)
    in
    let e : slice_index_or c.self.inside.cells.items c.args.node None ≡ Some c.in-Some.cell =
    cell_read c.self.inside.cells.items c.args.node c.index.result.now c.in-Some.cell b c.index.ensures c.in-Some.is
    in
    (c.self.invariant.kept.placed c.args.node c.in-Some.cell e).next
    ∙ (ap ((line_of plan).instant c.args.node) (sym (c.simulation_laws.ensures.length_seen (line_of plan) c.args.node (quanta_of c.in-Some.cell.node)))
    ∙ (ap (λ m. next_tick (line_of plan) c.args.node m) (sym (kept_member plan c.self.inside.lists c.self.inside.cells.items c.self.inside.replica c.self.inside.emitted.items c.args.node c.in-Some.cell e))
    ∙ ap (λ (v : GroupValue). next_tick (line_of v.plan) c.args.node (members_now v c.args.node)) c.self.view_is))
