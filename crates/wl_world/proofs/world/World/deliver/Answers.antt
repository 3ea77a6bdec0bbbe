-- What is delivered was emitted, so it is true.
use Rattle.std.proofs.Common.{◌≡◌, ◌<◌, refl, ap, subst, length, Some, slice_get, slice_set, arith}
use Rattle.std.proofs.lemmas.Option.{slice_get_read}
use Rattle.wl_plan.specs.PlanLine.{line_of}
use Rattle.wl_group.specs.GroupValue.{GroupValue, belongs as has}
use Rattle.wl_world.specs.declared.events.Event.TheVariants.{Deliver}
use Rattle.wl_world.specs.declared.events.Answer.TheVariants.{Done}
use Rattle.wl_world.specs.Steps.{HasStepped}
use Rattle.wl_world.specs.WorldValue.{WorldValue, world_value, IsWorldAt, cast_of}
use Rattle.wl_world.proofs.WorldValueProofs.{world_stepped, true_for, delivers}
use Rattle.wl_world.proofs.world.World.deliver.Goals as goal
use Rattle.wl_world.proofs.world.World.deliver.Goals.{After-index_mut-taker}

abbrev value : After-index_mut-taker → WorldValue
value c = world_value c.self.inside.plan c.self.inside.grouping c.self.inside.groups.items c.self.inside.emitted.items

place : (c : After-index_mut-taker) → c.args.group < length c.self.inside.groups.items
place c = omega arith

old_is : (c : After-index_mut-taker) → slice_get c.self.inside.groups.items c.args.group ≡ Some c.index_mut-taker.result.now
old_is c = slice_get_read c.self.inside.groups.items (length c.self.inside.groups.items) c.args.group c.index_mut-taker.result.now refl (place c) c.index_mut-taker.ensures.value

entry_is : (c : After-index_mut-taker) → slice_get c.self.inside.emitted.items c.args.number ≡ Some c.index-entry.result.now
entry_is c = slice_get_read c.self.inside.emitted.items (length c.self.inside.emitted.items) c.args.number c.index-entry.result.now refl (omega arith) c.index-entry.ensures

pub take-requires : goal.take-requires
take-requires c =
    let a = (goal.at.take-requires c).After-index_mut-taker in
    true_for c.headline.ensures c.checked_is_sound.ensures (value a) c.args.group c.args.number c.index_mut-taker.result.now c.index-entry.result.now c.self.invariant (old_is a) (entry_is a)

pub invariant_of-self-2 : goal.invariant_of-self-2
invariant_of-self-2 c =
    let a = (goal.at.invariant_of-self-2 c).After-index_mut-taker in
    world_stepped (value a) c.args.group c.index_mut-taker.result.now c.take.new.self c.self.inside.emitted.items (Deliver c.args.group c.args.number) Done c.self.invariant (place a) (old_is a)
    (ap (λ (g : GroupValue). g.plan) c.in_ok-take.ensures.ok) (ap (λ (g : GroupValue). g.lists) c.in_ok-take.ensures.ok) (ap has c.in_ok-take.ensures.ok)
    (delivers c.party_laws.ensures (value a) c.args.group c.args.number c.index_mut-taker.result.now c.take.new.self c.index-entry.result.now c.self.invariant.staffed (place a) (old_is a) (entry_is a) c.in_ok-take.ensures.after)

pub returns-clause-ok : goal.returns-clause-ok
returns-clause-ok c =
    let a = (goal.at.returns-clause-ok c).After-index_mut-taker in
    subst (λ (u : WorldValue). HasStepped IsWorldAt (line_of u.plan) (cast_of u.numbers) (Deliver c.args.group c.args.number) u
    (world_value c.self.inside.plan c.self.inside.grouping (slice_set c.self.inside.groups.items c.args.group c.take.new.self) c.self.inside.emitted.items) Done) c.self.view_is
    (delivers c.party_laws.ensures (value a) c.args.group c.args.number c.index_mut-taker.result.now c.take.new.self c.index-entry.result.now c.self.invariant.staffed (place a) (old_is a) (entry_is a) c.in_ok-take.ensures.after)
