use Rattle.std.proofs.Common.{◌∙◌, ap}
use Rattle.std.specs.Arc.{arc_value}
use Rattle.wl_mail.specs.Truth.{are_true_of_plan}
use Rattle.wl_mail.proofs.TruthTests.{tests_pass}
use Rattle.wl_mail.proofs.letter.Letter.of.Goals as goal

pub invariant_of-result : goal.invariant_of-result
invariant_of-result c =
    let plan = arc_value c.args.plan.now in
    let told = tests_pass c.test_of_truth.ensures plan c.args.records.now c.requires in record {
      truth = ap (λ p. are_true_of_plan p (arc_value c.in_ok-records.records).items) c.in_ok-try_clone.ensures
          ∙ (ap (λ (v : _). are_true_of_plan plan v.items) c.in_ok-records.ensures.ok ∙ (ap (are_true_of_plan plan) c.in_ok-from_slice.ensures.items ∙ told));
    }
