use Rattle.std.proofs.Common.{◌∙◌, length, sym, ap}
use Rattle.wl_node.specs.Runs.{samples_by}
use Rattle.wl_node.proofs.RunsOfSamples.{none_by}
use Rattle.wl_node.proofs.samples.Samples.new.Goals as goal

pub invariant_of-result : goal.invariant_of-result
invariant_of-result c = record {
  counted = λ on. sym (ap (λ rs. length (samples_by rs)) c.in_ok-with_capacity.ensures.items ∙ ap length none_by);
  none = λ off. ap samples_by c.in_ok-with_capacity.ensures.items ∙ none_by;
}

pub returns-clause-samples : goal.returns-clause-samples
returns-clause-samples c = ap samples_by c.in_ok-with_capacity.ensures.items ∙ none_by
