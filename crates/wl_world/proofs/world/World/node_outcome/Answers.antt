-- The node's group has it, and it is at the end there.
use Rattle.std.proofs.Common.{◌≡◌, ◌<◌, ◌≤◌, true, refl, sym, ◌∙◌, ap, subst, length, Some, IfOk, slice_get}
use Rattle.std.proofs.lemmas.Option.{slice_get_read}
use Rattle.std.proofs.lemmas.Result.{IfOk-weaker}
use Rattle.wl_plan.specs.declared.plan.Plan.{Plan}
use Rattle.wl_plan.specs.PlanLine.{line_of}
use Rattle.wl_group.specs.Member.{next_tick}
use Rattle.wl_group.specs.GroupValue.{members_now, belongs as has}
use Rattle.wl_serial.specs.Outcome.{node_outcome_of}
use Rattle.wl_world.specs.WorldValue.{WorldValue, world_value}
use Rattle.wl_world.specs.Ended.{AreAtEnd}
use Rattle.wl_world.proofs.EndProofs.{ended_at}
use Rattle.wl_world.proofs.OutcomeProofs.{group_there, member_there, outcome_here}
use Rattle.wl_world.proofs.world.World.node_outcome.Goals as goal
use Rattle.wl_world.proofs.world.World.node_outcome.Goals.{After-index-group}

abbrev value : After-index-group → WorldValue
value c = world_value c.self.inside.plan c.self.inside.grouping c.self.inside.groups.items c.self.inside.emitted.items

there : (c : After-index-group) → slice_get c.self.inside.groups.items c.in-Some.h ≡ Some c.index-group.result.now
there c = slice_get_read c.self.inside.groups.items (length c.self.inside.groups.items) c.in-Some.h c.index-group.result.now refl
    (group_there c.grouping_laws.ensures (value c) c.self.invariant.staffed c.args.i c.in-Some.h c.in-Some.ensures) c.index-group.ensures

member : (c : After-index-group) → has c.index-group.result.now c.args.i ≡ true
member c = member_there (value c) c.self.invariant.staffed c.args.i c.in-Some.h c.index-group.result.now c.in-Some.ensures (there c)

pub changes-requires : goal.changes-requires
changes-requires c = member ((goal.at.changes-requires c).After-index-group)

pub node-requires : goal.node-requires
node-requires c = member ((goal.at.node-requires c).After-index-group)

pub returns : goal.returns
returns c =
    let a = (goal.at.returns c).After-index-group in
    let g = c.index-group.result.now in
    let staffed = c.self.invariant.staffed in
    let ended : AreAtEnd (value a) = subst AreAtEnd (sym c.self.view_is) c.requires.ended in
    let same : g.plan ≡ c.args.self.now.plan = staffed.plans c.in-Some.h g (there a) ∙ ap (λ (u : WorldValue). u.plan) c.self.view_is in
    let node : c.args.i < length g.plan.nodes = subst (λ (p : Plan). c.args.i < length p.nodes) (sym same) c.requires.node in
    let late : g.plan.end ≤ next_tick (line_of g.plan) c.args.i (members_now g c.args.i) =
    subst (λ (p : Plan). p.end ≤ next_tick (line_of p) c.args.i (members_now g c.args.i)) (sym (staffed.plans c.in-Some.h g (there a))) (ended c.in-Some.h c.args.i g (there a) (member a)) in
    subst (λ (p : Plan). IfOk c.node_outcome.result (λ told. told ≡ node_outcome_of p c.args.i)) same
    (IfOk-weaker c.node_outcome.result _ (λ told. told ≡ node_outcome_of g.plan c.args.i)
    (λ told is. outcome_here c.group_laws.ensures c.checked_is_sound.ensures g c.node.ensures.holds c.args.i node (member a) late _ c.node.ensures.setup c.in_ok-changes-in-Some.changes
    (c.in_ok-changes-in-Some.ensures.whole (ended_at (value a) staffed ended c.in-Some.h c.args.i g (there a) (member a))) told (is (c.node.ensures.keeps (staffed.lists c.in-Some.h g (there a))) (members_now g c.args.i).saw c.node.ensures.node))
    c.node_outcome.ensures)
