use Rattle.std.proofs.Common.{◌<◌, All, length, sym, subst}
use Rattle.wl_plan.specs.Checked.{IsChecked}
use Rattle.wl_plan.specs.declared.plan.Plan.{Plan}
use Rattle.wl_plan.specs.Groupings.{IsGrouping, most_groups}
use Rattle.wl_plan.specs.PlanLine.{line_of}
use Rattle.wl_world.proofs.WorldValueProofs.{first_world, at_first}
use Rattle.wl_world.specs.Steps.{HasStarted}
use Rattle.wl_world.specs.WorldValue.{IsWorldAt, IsWorldValue, world_value, cast_of}
use Rattle.wl_world.proofs.world.World.new.Goals as goal
use Rattle.wl_world.proofs.world.World.new.Goals.{In_ok-emitted}

is_world : (c : In_ok-emitted) → IsWorldValue (world_value c.of-plan.result c.args.grouping c.in_ok-groups.groups.items c.in_ok-emitted.emitted.items)
is_world c =
    first_world c.of-plan.result c.args.grouping c.in_ok-groups.groups.items c.in_ok-emitted.emitted.items
    (subst IsChecked (sym c.of-plan.ensures) c.requires.checked)
    (subst (λ (p : Plan). IsGrouping (length p.nodes) c.args.grouping) (sym c.of-plan.ensures)
    (c.requires.grouping, subst (All (λ n. n < most_groups)) c.grouping.view_is c.grouping.invariant))
    c.in_ok-groups.ensures.count c.in_ok-groups.ensures.first c.in_ok-emitted.ensures

pub invariant_of-result : goal.invariant_of-result
invariant_of-result c = is_world ((goal.at.invariant_of-result c).In_ok-emitted)

pub returns-clause-faithful : goal.returns-clause-faithful
returns-clause-faithful c =
    c.worlds_are_faithful.ensures (world_value c.of-plan.result c.args.grouping c.in_ok-groups.groups.items c.in_ok-emitted.emitted.items) (is_world ((goal.at.returns-clause-faithful c).In_ok-emitted))

pub returns-clause-started : goal.returns-clause-started
returns-clause-started c =
    let v = world_value c.of-plan.result c.args.grouping c.in_ok-groups.groups.items c.in_ok-emitted.emitted.items in
    subst (λ (p : Plan). HasStarted IsWorldAt (line_of p) (cast_of c.args.grouping) v) c.of-plan.ensures
    (at_first c.of-plan.result c.args.grouping c.in_ok-groups.groups.items c.in_ok-emitted.emitted.items c.in_ok-groups.ensures.first c.in_ok-emitted.ensures)
