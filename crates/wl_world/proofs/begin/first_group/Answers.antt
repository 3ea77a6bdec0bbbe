use Rattle.std.proofs.Common.{◌≡◌, true, IfOk, ap, subst, ◌∙◌}
use Rattle.std.proofs.lemmas.Result.{IfOk-weaker}
use Rattle.wl_plan.specs.declared.plan.Plan.{Plan}
use Rattle.wl_plan.specs.PlanLine.{line_of}
use Rattle.wl_group.specs.Party.{initial_party}
use Rattle.wl_group.specs.GroupValue.{GroupValue, Matches, names, initial_group, belongs as has}
use Rattle.wl_world.specs.Scene.{is_of_group}
use Rattle.wl_world.specs.WorldValue.{cast_of}
use Rattle.wl_world.proofs.WorldValueProofs.{names_are}
use Rattle.wl_world.proofs.begin.first_group.Goals as goal

pub returns-clause-plan : goal.returns-clause-plan
returns-clause-plan c = subst (λ (p : Plan). IfOk c.new.result (λ (group : GroupValue). group.plan ≡ p)) c.deref.ensures.0 c.new.ensures.plan

pub returns-clause-lists : goal.returns-clause-lists
returns-clause-lists c =
    IfOk-weaker c.new.result (λ (group : GroupValue). group ≡ initial_group true c.deref.result.now (names c.as_slice.result.now)) (λ (group : GroupValue). group.lists ≡ true)
    (λ group is. ap (λ (v : GroupValue). v.lists) is) c.new.ensures.value

pub returns-clause-members : goal.returns-clause-members
returns-clause-members c =
    subst (λ f. IfOk c.new.result (λ group. has group ≡ f))
    (names_are c.args.grouping.now c.as_slice.result.now c.args.h c.grouping_laws.ensures c.requires.group (c.as_slice.ensures ∙ c.in_ok-members.ensures))
    c.new.ensures.members

pub returns-clause-begun : goal.returns-clause-begun
returns-clause-begun c =
    subst (λ (p : Plan). IfOk c.new.result (λ group. Matches (initial_party (line_of p) (is_of_group (cast_of c.args.grouping.now) c.args.h)) group)) c.deref.ensures.0
    (subst (λ f. IfOk c.new.result (λ group. Matches (initial_party (line_of c.deref.result.now) f) group))
    (names_are c.args.grouping.now c.as_slice.result.now c.args.h c.grouping_laws.ensures c.requires.group (c.as_slice.ensures ∙ c.in_ok-members.ensures))
    c.new.ensures.begun)
