-- A node that may run ran, and what it emitted was kept; else nothing changed.
use Rattle.std.proofs.Common.{◌≡◌, ◌<◌, ◌++◌, refl, sym, ◌∙◌, ap, subst, inl, inr, length, Some, slice_get, slice_set, arith}
use Rattle.std.proofs.lemmas.Option.{slice_get_read}
use Rattle.wl_plan.specs.PlanLine.{line_of}
use Rattle.wl_group.specs.Advanced.{HasAdvanced, emitted}
use Rattle.wl_group.specs.GroupValue.{Matches, belongs as has}
use Rattle.wl_group.specs.Said.{reply_of_answer}
use Rattle.wl_world.specs.declared.events.Event.TheVariants.{Advance}
use Rattle.wl_world.specs.declared.events.Answer.TheVariants.{Done, Idle}
use Rattle.wl_world.specs.Steps.{HasStepped}
use Rattle.wl_world.specs.WorldValue.{WorldValue, world_value, IsWorldAt, cast_of, IsWorldValue}
use Rattle.wl_world.proofs.WorldValueProofs.{world_stepped, advances, waits, unchanged}
use Rattle.wl_world.proofs.world.World.advance.Goals as goal
use Rattle.wl_world.proofs.world.World.advance.Goals.{In-Emitted, In_ok-emission}

abbrev value : In_ok-emission → WorldValue
value c = world_value c.self.inside.plan c.self.inside.grouping c.self.inside.groups.items c.self.inside.emitted.items

place : (c : In_ok-emission) → c.args.group < length c.self.inside.groups.items
place c = omega arith

old_is : (c : In_ok-emission) → slice_get c.self.inside.groups.items c.args.group ≡ Some c.index_mut-runner.result.now
old_is c = slice_get_read c.self.inside.groups.items (length c.self.inside.groups.items) c.args.group c.index_mut-runner.result.now refl (place c) c.index_mut-runner.ensures.value

did : (c : In-Emitted) → HasAdvanced Matches (line_of c.index_mut-runner.result.now.plan) (has c.index_mut-runner.result.now) c.args.node c.index_mut-runner.result.now c.advance.new.self (emitted c.in-Emitted.emission.items)
did c = subst (λ a. HasAdvanced Matches (line_of c.index_mut-runner.result.now.plan) (has c.index_mut-runner.result.now) c.args.node c.index_mut-runner.result.now c.advance.new.self (reply_of_answer a)) c.in-Emitted.is c.in_ok-emission.ensures.answer

pub invariant_of-self-in-Emitted : goal.invariant_of-self-in-Emitted
invariant_of-self-in-Emitted c =
    let d = (goal.at.invariant_of-self-in-Emitted c).In-Emitted in
    let a = (goal.at.invariant_of-self-in-Emitted c).In_ok-emission in
    subst (λ es. IsWorldValue (world_value c.self.inside.plan c.self.inside.grouping (slice_set c.self.inside.groups.items c.args.group c.advance.new.self) es))
    (sym (c.append.ensures ∙ (ap (λ rs. rs ++ c.deref.result.now) c.in_ok-reserve.ensures.items ∙ ap (λ rs. c.self.inside.emitted.items ++ rs) c.deref.ensures.0)))
    (world_stepped (value a) c.args.group c.index_mut-runner.result.now c.advance.new.self (c.self.inside.emitted.items ++ c.in-Emitted.emission.items) (Advance c.args.group c.args.node) Done c.self.invariant
    (place a) (old_is a) c.advance.ensures.plan c.advance.ensures.lists c.advance.ensures.members
    (advances c.party_laws.ensures c.grouping_laws.ensures (value a) c.args.group c.args.node c.index_mut-runner.result.now c.advance.new.self c.in-Emitted.emission.items c.self.invariant.staffed (place a) (old_is a) (did d)))

pub returns-in-Emitted-clause-ok : goal.returns-in-Emitted-clause-ok
returns-in-Emitted-clause-ok c =
    let d = (goal.at.returns-in-Emitted-clause-ok c).In-Emitted in
    let a = (goal.at.returns-in-Emitted-clause-ok c).In_ok-emission in
    subst (λ (u : WorldValue). HasStepped IsWorldAt (line_of u.plan) (cast_of u.numbers) (Advance c.args.group c.args.node) u
    (world_value c.self.inside.plan c.self.inside.grouping (slice_set c.self.inside.groups.items c.args.group c.advance.new.self) c.append.new.emitted.items) Done) c.self.view_is
    (subst (λ es. HasStepped IsWorldAt (line_of c.self.inside.plan) (cast_of c.self.inside.grouping) (Advance c.args.group c.args.node) (value a)
    (world_value c.self.inside.plan c.self.inside.grouping (slice_set c.self.inside.groups.items c.args.group c.advance.new.self) es) Done)
    (sym (c.append.ensures ∙ (ap (λ rs. rs ++ c.deref.result.now) c.in_ok-reserve.ensures.items ∙ ap (λ rs. c.self.inside.emitted.items ++ rs) c.deref.ensures.0)))
    (advances c.party_laws.ensures c.grouping_laws.ensures (value a) c.args.group c.args.node c.index_mut-runner.result.now c.advance.new.self c.in-Emitted.emission.items c.self.invariant.staffed (place a) (old_is a) (did d)))

pub returns-in-Blocked-clause-ok : goal.returns-in-Blocked-clause-ok
returns-in-Blocked-clause-ok c =
    let a = (goal.at.returns-in-Blocked-clause-ok c).In_ok-emission in
    subst (λ (u : WorldValue). HasStepped IsWorldAt (line_of u.plan) (cast_of u.numbers) (Advance c.args.group c.args.node) u
    (world_value c.self.inside.plan c.self.inside.grouping (slice_set c.self.inside.groups.items c.args.group c.advance.new.self) c.reserve.new.self.items) Idle) c.self.view_is
    (subst (λ (u : WorldValue). HasStepped IsWorldAt (line_of c.self.inside.plan) (cast_of c.self.inside.grouping) (Advance c.args.group c.args.node) (value a) u Idle)
    (sym (unchanged (value a) c.args.group c.index_mut-runner.result.now c.advance.new.self c.reserve.new.self.items (old_is a)
    (c.in_ok-emission.ensures.answer.refused (inl (ap reply_of_answer c.in-Blocked.is))) c.in_ok-reserve.ensures.items))
    (waits c.advance_laws.ensures (value a) c.args.group c.args.node c.index_mut-runner.result.now c.advance.new.self (reply_of_answer c.in_ok-emission.field-0) c.self.invariant.staffed (old_is a)
    c.in_ok-emission.ensures.answer (inl (ap reply_of_answer c.in-Blocked.is))))

pub returns-in-Ended-clause-ok : goal.returns-in-Ended-clause-ok
returns-in-Ended-clause-ok c =
    let a = (goal.at.returns-in-Ended-clause-ok c).In_ok-emission in
    subst (λ (u : WorldValue). HasStepped IsWorldAt (line_of u.plan) (cast_of u.numbers) (Advance c.args.group c.args.node) u
    (world_value c.self.inside.plan c.self.inside.grouping (slice_set c.self.inside.groups.items c.args.group c.advance.new.self) c.reserve.new.self.items) Idle) c.self.view_is
    (subst (λ (u : WorldValue). HasStepped IsWorldAt (line_of c.self.inside.plan) (cast_of c.self.inside.grouping) (Advance c.args.group c.args.node) (value a) u Idle)
    (sym (unchanged (value a) c.args.group c.index_mut-runner.result.now c.advance.new.self c.reserve.new.self.items (old_is a)
    (c.in_ok-emission.ensures.answer.refused (inr (ap reply_of_answer c.in-Ended.is))) c.in_ok-reserve.ensures.items))
    (waits c.advance_laws.ensures (value a) c.args.group c.args.node c.index_mut-runner.result.now c.advance.new.self (reply_of_answer c.in_ok-emission.field-0) c.self.invariant.staffed (old_is a)
    c.in_ok-emission.ensures.answer (inr (ap reply_of_answer c.in-Ended.is))))
