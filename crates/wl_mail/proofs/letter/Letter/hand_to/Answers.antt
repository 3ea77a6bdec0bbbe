use Rattle.std.proofs.Common.{refl, sym, ap, ◌∙◌}
use Rattle.std.specs.Arc.{arc_value}
use Rattle.wl_mail.proofs.TruthTests.{truth_of_tests}
use Rattle.wl_mail.proofs.Taken.{took_first}
use Rattle.wl_mail.proofs.letter.Letter.hand_to.Goals as goal

pub take_all-requires : goal.take_all-requires
take_all-requires c =
    truth_of_tests c.test_of_truth.ensures (arc_value c.args.self.now.plan) c.args.group.now.plan (arc_value c.args.self.now.records).items c.as_slice.result.now c.args.self.now.truth
    (sym c.deref.ensures ∙ (c.if-eq.ensures.same.0 refl ∙ (c.deref-2.ensures.0 ∙ c.plan.ensures.value))) (c.as_slice.ensures.value ∙ ap (λ (v : _). v.items) c.deref-then-eq.ensures)

pub returns-in_err-take_all-clause-took : goal.returns-in_err-take_all-clause-took
returns-in_err-take_all-clause-took c =
    took_first c.args.group.now c.take_all.new.group c.as_slice.result.now
    (truth_of_tests c.test_of_truth.ensures (arc_value c.args.self.now.plan) c.args.group.now.plan (arc_value c.args.self.now.records).items c.as_slice.result.now c.args.self.now.truth
    (sym c.deref.ensures ∙ (c.if-eq.ensures.same.0 refl ∙ (c.deref-2.ensures.0 ∙ c.plan.ensures.value))) (c.as_slice.ensures.value ∙ ap (λ (v : _). v.items) c.deref-then-eq.ensures))
    c.in_err-take_all.ensures.first

pub returns-then-eq-clause-took : goal.returns-then-eq-clause-took
returns-then-eq-clause-took c =
    took_first c.args.group.now c.take_all.new.group c.as_slice.result.now
    (truth_of_tests c.test_of_truth.ensures (arc_value c.args.self.now.plan) c.args.group.now.plan (arc_value c.args.self.now.records).items c.as_slice.result.now c.args.self.now.truth
    (sym c.deref.ensures ∙ (c.if-eq.ensures.same.0 refl ∙ (c.deref-2.ensures.0 ∙ c.plan.ensures.value))) (c.as_slice.ensures.value ∙ ap (λ (v : _). v.items) c.deref-then-eq.ensures))
    c.in_ok-take_all.ensures.first
