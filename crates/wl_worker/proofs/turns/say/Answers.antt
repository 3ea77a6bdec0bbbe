-- Each row of quanta leads on, and what it says comes after the rest.
use Rattle.std.proofs.Common.{◌∙◌, List, [], ◌++◌, ap, sym, subst, append-nil}
use Rattle.wl_record_core.specs.declared.record.Record.{Record}
use Rattle.wl_plan.specs.declared.plan.Plan.{Plan}
use Rattle.wl_worker.specs.Handed.{AreTrueOfPlan}
use Rattle.wl_worker.proofs.turns.say.Goals as goal

pub loop-i-init : goal.loop-i-init
loop-i-init c =
    let none = sym c.new-said.ensures.items in
    let emitted = c.args.group.now.emitted in (
      subst (AreTrueOfPlan c.args.group.now.plan) none tt,
      c.led_laws.ensures.stays c.args.group.now,
      sym (append-nil emitted) ∙ ap (λ (rs : List Record). emitted ++ rs) none,
    )

pub run_member-requires-clause-truth : goal.run_member-requires-clause-truth
run_member-requires-clause-truth c =
    subst (λ (p : Plan). AreTrueOfPlan p c.loop-i.said.items) (sym c.loop-i.invariant.1.plan) c.loop-i.invariant.0

pub loop-i-preserved : goal.loop-i-preserved
loop-i-preserved c = (
  subst (λ (p : Plan). AreTrueOfPlan p c.run_member.new.said.items) c.loop-i.invariant.1.plan c.run_member.ensures.truth,
  c.led_laws.ensures.joined c.args.group.now c.loop-i.group c.run_member.new.group c.loop-i.invariant.1 c.in_ok-run_member.ensures.led,
  c.in_ok-run_member.ensures.said c.args.group.now.emitted c.loop-i.invariant.2,
)
