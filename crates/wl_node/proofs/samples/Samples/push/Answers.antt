use Rattle.std.proofs.Common.{◌∙◌, ◌+◌, ap, sym, length, length-append, ◌∷◌, []}
use Rattle.wl_node.specs.Runs.{samples_by}
use Rattle.wl_node.proofs.samples.Samples.push.Goals as goal

pub invariant_of-self : goal.invariant_of-self
invariant_of-self c = record {
  counted = λ on.
      ap (λ n. n + 1) (c.args.self.now.counted on)
      ∙ sym (ap length c.add.ensures ∙ length-append (samples_by c.args.self.now.runs.items) ((c.args.quantum, c.args.level) ∷ []));
  none = λ off. (let on = c.if-self.true in cc);
}
