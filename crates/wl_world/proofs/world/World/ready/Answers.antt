-- A group may run what its party may.
use Rattle.std.proofs.Common.{◌≡◌, ◌<◌, ℕ, true, refl, ◌∙◌, subst, length, IfSome, IfNone, arith}
use Rattle.std.proofs.lemmas.Option.{slice_get_read}
use Rattle.wl_plan.specs.PlanLine.{line_of}
use Rattle.wl_group.specs.GroupValue.{may_run}
use Rattle.wl_world.specs.declared.events.Event.TheVariants.{Advance}
use Rattle.wl_world.specs.Scene.{Scene, possible}
use Rattle.wl_world.specs.Moves.{IsStuckAt}
use Rattle.wl_world.specs.WorldValue.{WorldValue, world_value, IsWorldAt, cast_of}
use Rattle.wl_world.proofs.WorldValueProofs.{may_there, some_as, none_as}
use Rattle.wl_world.proofs.world.World.ready.Goals as goal
use Rattle.wl_world.proofs.world.World.ready.Goals.{After-ready}

abbrev value : After-ready → WorldValue
value c = world_value c.self.inside.plan c.self.inside.grouping c.self.inside.groups.items c.self.inside.emitted.items

same : (c : After-ready) (w : Scene) → IsWorldAt w (value c) → (i : ℕ) → possible (line_of c.self.inside.plan) (cast_of c.self.inside.grouping) w (Advance c.args.group i) ≡ may_run c.index.result.now i
same c =
    let place : c.args.group < length c.self.inside.groups.items = omega arith in
    may_there c.grouping_laws.ensures c.value_laws.ensures (value c) c.self.invariant.staffed c.args.group c.index.result.now place
    (slice_get_read c.self.inside.groups.items (length c.self.inside.groups.items) c.args.group c.index.result.now refl place c.index.ensures)

pub returns-clause-ready : goal.returns-clause-ready
returns-clause-ready c =
    let a = (goal.at.returns-clause-ready c).After-ready in
    subst (λ (u : WorldValue). IfSome c.ready.result (λ i. (w : Scene) → IsWorldAt w u → possible (line_of u.plan) (cast_of u.numbers) w (Advance c.args.group i) ≡ true)) c.self.view_is
    (some_as c.ready.result (λ i. may_run c.index.result.now i ≡ true) (λ i. (w : Scene) → IsWorldAt w (value a) → possible (line_of c.self.inside.plan) (cast_of c.self.inside.grouping) w (Advance c.args.group i) ≡ true)
    (λ i y w at. same a w at i ∙ y) c.ready.ensures.ready)

pub returns-clause-stuck : goal.returns-clause-stuck
returns-clause-stuck c =
    let a = (goal.at.returns-clause-stuck c).After-ready in
    subst (λ (u : WorldValue). IfNone c.ready.result ((w : Scene) → IsWorldAt w u → IsStuckAt (line_of u.plan) (cast_of u.numbers) c.args.group w)) c.self.view_is
    (none_as c.ready.result (λ n w at i. same a w at i ∙ n i) c.ready.ensures.stuck)
