use Rattle.wl_world.proofs.WorldValueProofs.{none_first, one_more_first}
use Rattle.wl_world.proofs.begin.first_groups.Goals as goal

pub loop-h-init : goal.loop-h-init
loop-h-init c = none_first c.args.plan.now c.args.grouping.now c.new-groups.result.items c.new-groups.ensures.items

pub loop-h-preserved : goal.loop-h-preserved
loop-h-preserved c =
    one_more_first c.args.plan.now c.args.grouping.now c.loop-h.groups.items c.push.new.self.items c.in_ok-first_group.field-0 c.loop-h.h
    c.loop-h.invariant.0 c.loop-h.invariant.1 c.in_ok-push.ensures.items
    (record {
      plan_is = c.in_ok-first_group.ensures.plan;
      lists = c.in_ok-first_group.ensures.lists;
      members = c.in_ok-first_group.ensures.members;
      begun_as = c.in_ok-first_group.ensures.begun;
    })
