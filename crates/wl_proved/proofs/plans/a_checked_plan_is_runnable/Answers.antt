use Rattle.std.proofs.Common.{◌∙◌, All, ap, subst}
use Rattle.std.proofs.lemmas.List.Elements.{All-get_or}
use Rattle.wl_frame.specs.Grammar.{IsContent}
use Rattle.wl_plan.specs.PlanLine.{no_setup}
use Rattle.wl_proved.proofs.plans.a_checked_plan_is_runnable.Goals as goal

pub returns : goal.returns
returns c = record {
  checked = c.laws.ensures.checked;
  frames = λ i inside. All-get_or (λ node. All (λ q. IsContent q.frame) node.queue) c.args.plan.now.nodes i no_setup inside
      (subst (All (λ node. All (λ q. IsContent q.frame) node.queue)) (c.as_slice.ensures ∙ ap (λ p. p.nodes) c.deref.ensures.0) c.all_have_frames.ensures);
}
