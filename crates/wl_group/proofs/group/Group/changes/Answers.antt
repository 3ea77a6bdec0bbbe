-- The member's cell counts the changes that the slots hold.
use Rattle.std.proofs.Common.{◌≡◌, get_or, Some, None, take}
use Rattle.std.proofs.lemmas.Result.{IfOk-weaker}
use Rattle.wl_record_core.specs.Truth.{count_below}
use Rattle.wl_replica.specs.State.{slots_of}
use Rattle.wl_replica.specs.Known.{ticks}
use Rattle.wl_plan.specs.PlanLine.{line_of, table_of}
use Rattle.wl_group.specs.Member.{next_tick}
use Rattle.wl_group.specs.GroupValue.{members_now}
use Rattle.wl_group.proofs.RunProofs.{cell_read, in_cells}
use Rattle.wl_group.proofs.ChangesProofs.{held, before, whole, absent}
use Rattle.wl_group.proofs.group.Group.changes.Goals as goal
use Rattle.wl_group.proofs.group.Group.changes.Goals.{In-Some}

found_cell : (c : In-Some) → get_or c.self.inside.cells.items c.args.node None ≡ Some c.in-Some.cell
found_cell c =
    cell_read c.self.inside.cells.items c.args.node c.index.result.now c.in-Some.cell
    (in_cells c.value_laws.ensures c.checked_is_sound.ensures c.self.inside.plan c.self.inside.lists c.self.inside.cells.items c.self.inside.replica c.self.inside.emitted.items c.self.invariant.kept c.args.self.now c.self.view_is c.args.node c.requires)
    c.index.ensures c.in-Some.is

pub first_changes-requires : goal.first_changes-requires
first_changes-requires c =
    held c.value_laws.ensures c.checked_is_sound.ensures c.known_laws.ensures c.simulation_laws.ensures c.self.inside.plan c.self.inside.lists c.self.inside.cells.items c.self.inside.replica c.self.inside.emitted.items
    c.self.invariant.kept c.args.self.now c.self.view_is c.args.node c.requires c.in-Some.cell (found_cell c)

pub unreachable-requires : goal.unreachable-requires
unreachable-requires c =
    absent c.value_laws.ensures c.checked_is_sound.ensures c.self.inside.plan c.self.inside.lists c.self.inside.cells.items c.self.inside.replica c.self.inside.emitted.items
    c.self.invariant.kept c.args.self.now c.self.view_is c.args.node c.requires c.index.result.now c.index.ensures c.in-None.is

pub returns-clause-so_far : goal.returns-clause-so_far
returns-clause-so_far c =
    IfOk-weaker c.first_changes.result (λ list. list ≡ ticks ((slots_of c.self.inside.replica).edge c.args.node) c.in-Some.cell.changed)
    (λ list. list ≡ take (count_below (next_tick (line_of c.args.self.now.plan) c.args.node (members_now c.args.self.now c.args.node)) (table_of c.args.self.now.plan c.args.node)) (table_of c.args.self.now.plan c.args.node))
    (before c.value_laws.ensures c.checked_is_sound.ensures c.known_laws.ensures c.simulation_laws.ensures c.self.inside.plan c.self.inside.lists c.self.inside.cells.items c.self.inside.replica c.self.inside.emitted.items
    c.self.invariant.kept c.args.self.now c.self.view_is c.args.node c.requires c.in-Some.cell (found_cell (goal.at.returns-clause-so_far c).In-Some)) c.first_changes.ensures

pub returns-clause-whole : goal.returns-clause-whole
returns-clause-whole c ended =
    IfOk-weaker c.first_changes.result (λ list. list ≡ ticks ((slots_of c.self.inside.replica).edge c.args.node) c.in-Some.cell.changed)
    (λ list. list ≡ table_of c.args.self.now.plan c.args.node)
    (whole c.value_laws.ensures c.checked_is_sound.ensures c.known_laws.ensures c.simulation_laws.ensures c.self.inside.plan c.self.inside.lists c.self.inside.cells.items c.self.inside.replica c.self.inside.emitted.items
    c.self.invariant.kept c.args.self.now c.self.view_is c.args.node c.requires c.in-Some.cell (found_cell (goal.at.returns-clause-whole c).In-Some) ended) c.first_changes.ensures
