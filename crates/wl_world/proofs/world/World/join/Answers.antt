-- What a group knows is true, of the same plan.
use Rattle.std.proofs.Common.{◌≡◌, ◌<◌, refl, sym, ◌∙◌, ap, subst, length, Some, slice_get, slice_set, arith}
use Rattle.std.proofs.lemmas.Option.{slice_get_read}
use Rattle.wl_replica.specs.State.{State, slots_of}
use Rattle.wl_replica.specs.Slots.{HoldsTrue}
use Rattle.wl_plan.specs.PlanLine.{line_of, table_of}
use Rattle.wl_group.specs.GroupValue.{GroupValue, belongs as has}
use Rattle.wl_world.specs.declared.events.Event.TheVariants.{Join}
use Rattle.wl_world.specs.declared.events.Answer.TheVariants.{Done}
use Rattle.wl_world.specs.Steps.{HasStepped}
use Rattle.wl_world.specs.WorldValue.{WorldValue, world_value, IsWorldAt, cast_of}
use Rattle.wl_world.proofs.WorldValueProofs.{world_stepped, truth_of, joins}
use Rattle.wl_world.proofs.world.World.join.Goals as goal
use Rattle.wl_world.proofs.world.World.join.Goals.{After-index_mut-taker}

abbrev value : After-index_mut-taker → WorldValue
value c = world_value c.self.inside.plan c.self.inside.grouping c.self.inside.groups.items c.self.inside.emitted.items

place : (c : After-index_mut-taker) → c.args.group < length c.self.inside.groups.items
place c = omega arith

old_is : (c : After-index_mut-taker) → slice_get c.self.inside.groups.items c.args.group ≡ Some c.index_mut-taker.result.now
old_is c = slice_get_read c.self.inside.groups.items (length c.self.inside.groups.items) c.args.group c.index_mut-taker.result.now refl (place c) c.index_mut-taker.ensures.value

other_place : (c : After-index_mut-taker) → c.args.other < length c.self.inside.groups.items
other_place c = omega arith

other_is : (c : After-index_mut-taker) → slice_get c.self.inside.groups.items c.args.other ≡ Some c.index-giver.result.now
other_is c = slice_get_read c.self.inside.groups.items (length c.self.inside.groups.items) c.args.other c.index-giver.result.now refl (other_place c) c.index-giver.ensures

given_is : (c : After-index_mut-taker) → c.in_ok-given.given ≡ c.index-giver.result.now.replica
given_is c = c.in_ok-given.ensures ∙ c.replica.ensures.value

pub join-requires-clause-truth : goal.join-requires-clause-truth
join-requires-clause-truth c =
    let a = (goal.at.join-requires-clause-truth c).After-index_mut-taker in
    subst (λ (s : State). HoldsTrue (length c.index_mut-taker.result.now.plan.nodes) (table_of c.index_mut-taker.result.now.plan) (slots_of s)) (sym (given_is a))
    (truth_of (value a) c.args.group c.args.other c.index_mut-taker.result.now c.index-giver.result.now c.self.invariant (old_is a) (other_is a) c.replica.ensures.holds)

pub invariant_of-self-2 : goal.invariant_of-self-2
invariant_of-self-2 c =
    let a = (goal.at.invariant_of-self-2 c).After-index_mut-taker in
    world_stepped (value a) c.args.group c.index_mut-taker.result.now c.join.new.self c.self.inside.emitted.items (Join c.args.group c.args.other) Done c.self.invariant (place a) (old_is a)
    (ap (λ (g : GroupValue). g.plan) c.in_ok-join.ensures.ok) (ap (λ (g : GroupValue). g.lists) c.in_ok-join.ensures.ok) (ap has c.in_ok-join.ensures.ok)
    (joins c.party_laws.ensures (value a) c.args.group c.args.other c.index_mut-taker.result.now c.index-giver.result.now c.join.new.self c.self.invariant.staffed (place a) (other_place a) (old_is a) (other_is a)
    (λ p rs m e. c.in_ok-join.ensures.after p rs m (given_is a ∙ e)))

pub returns-clause-ok : goal.returns-clause-ok
returns-clause-ok c =
    let a = (goal.at.returns-clause-ok c).After-index_mut-taker in
    subst (λ (u : WorldValue). HasStepped IsWorldAt (line_of u.plan) (cast_of u.numbers) (Join c.args.group c.args.other) u
    (world_value c.self.inside.plan c.self.inside.grouping (slice_set c.self.inside.groups.items c.args.group c.join.new.self) c.self.inside.emitted.items) Done) c.self.view_is
    (joins c.party_laws.ensures (value a) c.args.group c.args.other c.index_mut-taker.result.now c.index-giver.result.now c.join.new.self c.self.invariant.staffed (place a) (other_place a) (old_is a) (other_is a)
    (λ p rs m e. c.in_ok-join.ensures.after p rs m (given_is a ∙ e)))
