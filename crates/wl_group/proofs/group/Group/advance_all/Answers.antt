-- One advance more after the others.
use Rattle.std.proofs.Common.{List, ◌++◌, ◌∙◌, ap, subst, sym}
use Rattle.wl_record_core.specs.declared.record.Record.{Record}
use Rattle.wl_group.specs.Running.{Ran, none}
use Rattle.wl_group.specs.GroupValue.{GroupValue, belongs}
use Rattle.wl_group.proofs.AllProofs.{ran_more, ran_plan, ran_lists, ran_members}
use Rattle.wl_group.proofs.group.Group.advance_all.Goals as goal

pub loop-i-init : goal.loop-i-init
loop-i-init c = subst (λ (rs : List Record). Ran c.args.self.now rs c.args.self.now) (sym c.new-all.ensures.items) none

pub loop-i-preserved : goal.loop-i-preserved
loop-i-preserved c =
    subst (λ (rs : List Record). Ran c.args.self.now rs c.run_next.new.self)
    (sym (c.append.ensures ∙ (ap (λ rs. rs ++ c.deref.result.now) c.in_ok-reserve.ensures.items ∙ ap (λ rs. c.loop-i.all.items ++ rs) c.deref.ensures.0)))
    (ran_more c.args.self.now c.loop-i.self c.run_next.new.self c.loop-i.all.items c.in_ok-emission.emission.items c.in-Some.i c.loop-i.invariant
    c.in-Some.ensures.ready c.in_ok-emission.ensures.ran)

pub returns-clause-plan : goal.returns-clause-plan
returns-clause-plan c = ran_plan c.args.self.now c.loop-i.self c.loop-i.all.items c.loop-i.invariant

pub returns-clause-lists : goal.returns-clause-lists
returns-clause-lists c = ran_lists c.args.self.now c.loop-i.self c.loop-i.all.items c.loop-i.invariant

pub returns-clause-members : goal.returns-clause-members
returns-clause-members c = ran_members c.value_laws.ensures c.args.self.now c.loop-i.self c.loop-i.all.items c.loop-i.invariant

pub returns-in_err-reserve-clause-plan : goal.returns-in_err-reserve-clause-plan
returns-in_err-reserve-clause-plan c = ran_plan c.args.self.now c.loop-i.self c.loop-i.all.items c.loop-i.invariant

pub returns-in_err-reserve-clause-lists : goal.returns-in_err-reserve-clause-lists
returns-in_err-reserve-clause-lists c = ran_lists c.args.self.now c.loop-i.self c.loop-i.all.items c.loop-i.invariant

pub returns-in_err-reserve-clause-members : goal.returns-in_err-reserve-clause-members
returns-in_err-reserve-clause-members c = ran_members c.value_laws.ensures c.args.self.now c.loop-i.self c.loop-i.all.items c.loop-i.invariant

pub returns-in_err-emission-clause-plan : goal.returns-in_err-emission-clause-plan
returns-in_err-emission-clause-plan c =
    ap (λ (v : GroupValue). v.plan) c.in_err-emission.ensures.err ∙ ran_plan c.args.self.now c.loop-i.self c.loop-i.all.items c.loop-i.invariant

pub returns-in_err-emission-clause-lists : goal.returns-in_err-emission-clause-lists
returns-in_err-emission-clause-lists c =
    ap (λ (v : GroupValue). v.lists) c.in_err-emission.ensures.err ∙ ran_lists c.args.self.now c.loop-i.self c.loop-i.all.items c.loop-i.invariant

pub returns-in_err-emission-clause-members : goal.returns-in_err-emission-clause-members
returns-in_err-emission-clause-members c =
    ap belongs c.in_err-emission.ensures.err ∙ ran_members c.value_laws.ensures c.args.self.now c.loop-i.self c.loop-i.all.items c.loop-i.invariant
