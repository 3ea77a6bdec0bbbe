use Rattle.std.proofs.Common.{◌∙◌, ◌+◌, ◌++◌, ap, sym, length}
use Rattle.wl_node.specs.Runs.{samples_by}
use Rattle.wl_node.proofs.RunsOfSamples.{length_more, more_by, run_is}
use Rattle.wl_node.proofs.samples.Samples.push_run.Goals as goal

pub invariant_of-self : goal.invariant_of-self
invariant_of-self c = record {
  counted = λ on.
      ap (λ n. n + c.args.bits) (c.args.self.now.counted on)
      ∙ sym (ap (λ rs. length (samples_by rs)) c.push_reserved.ensures.items ∙ length_more c.args.self.now.runs.items _);
  none = λ off. (let on = c.if-self.true in cc);
}

pub returns-then-self-clause-samples : goal.returns-then-self-clause-samples
returns-then-self-clause-samples c on =
    ap samples_by c.push_reserved.ensures.items ∙ more_by c.args.self.now.runs.items _ ∙ ap (λ xs. samples_by c.args.self.now.runs.items ++ xs) (run_is _)
