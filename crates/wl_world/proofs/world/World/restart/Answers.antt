use Rattle.std.proofs.Common.{◌≡◌, ◌<◌, refl, ap, subst, length, Some, slice_get, slice_set, arith}
use Rattle.std.proofs.lemmas.Option.{slice_get_read}
use Rattle.wl_plan.specs.PlanLine.{line_of}
use Rattle.wl_group.specs.GroupValue.{GroupValue}
use Rattle.wl_world.specs.declared.events.Event.TheVariants.{Restart}
use Rattle.wl_world.specs.declared.events.Answer.TheVariants.{Done}
use Rattle.wl_world.specs.Steps.{HasStepped}
use Rattle.wl_world.specs.WorldValue.{WorldValue, world_value, IsWorldAt, cast_of}
use Rattle.wl_world.proofs.WorldValueProofs.{world_stepped, restarts}
use Rattle.wl_world.proofs.world.World.restart.Goals as goal
use Rattle.wl_world.proofs.world.World.restart.Goals.{After-index_mut-again}

abbrev value : After-index_mut-again → WorldValue
value c = world_value c.self.inside.plan c.self.inside.grouping c.self.inside.groups.items c.self.inside.emitted.items

place : (c : After-index_mut-again) → c.args.group < length c.self.inside.groups.items
place c = omega arith

old_is : (c : After-index_mut-again) → slice_get c.self.inside.groups.items c.args.group ≡ Some c.index_mut-again.result.now
old_is c = slice_get_read c.self.inside.groups.items (length c.self.inside.groups.items) c.args.group c.index_mut-again.result.now refl (place c) c.index_mut-again.ensures.value

pub invariant_of-self-2 : goal.invariant_of-self-2
invariant_of-self-2 c =
    let a = (goal.at.invariant_of-self-2 c).After-index_mut-again in
    world_stepped (value a) c.args.group c.index_mut-again.result.now c.restart.new.self c.self.inside.emitted.items (Restart c.args.group) Done c.self.invariant (place a) (old_is a)
    (ap (λ (g : GroupValue). g.plan) c.in_ok-restart.ensures.ok) c.restart.ensures.lists c.restart.ensures.members
    (restarts c.party_laws.ensures (value a) c.args.group c.index_mut-again.result.now c.restart.new.self c.self.invariant.staffed (place a) (old_is a) c.in_ok-restart.ensures.begun)

pub returns-clause-ok : goal.returns-clause-ok
returns-clause-ok c =
    let a = (goal.at.returns-clause-ok c).After-index_mut-again in
    subst (λ (u : WorldValue). HasStepped IsWorldAt (line_of u.plan) (cast_of u.numbers) (Restart c.args.group) u
    (world_value c.self.inside.plan c.self.inside.grouping (slice_set c.self.inside.groups.items c.args.group c.restart.new.self) c.self.inside.emitted.items) Done) c.self.view_is
    (restarts c.party_laws.ensures (value a) c.args.group c.index_mut-again.result.now c.restart.new.self c.self.invariant.staffed (place a) (old_is a) c.in_ok-restart.ensures.begun)
