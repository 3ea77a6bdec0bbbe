use Rattle.std.proofs.Common.{◌∙◌, ◌≤◌, ap, sym, length, arith}
use Rattle.std.proofs.lemmas.List.{length-take-le, take_all}
use Rattle.wl_node.specs.Runs.{samples_by}
use Rattle.wl_node.proofs.samples.Samples.truncate.Goals as goal

pub invariant_of-self : goal.invariant_of-self
invariant_of-self c = record {
  counted = λ on.
      (let few : c.args.most ≤ length (samples_by c.args.self.now.runs.items) = omega (arith, c.args.self.now.counted on) in
      sym (ap length c.cut.ensures ∙ length-take-le c.args.most (samples_by c.args.self.now.runs.items) few));
  none = λ off. (let on = c.if-self.true in cc);
}

pub returns-then-self-most-clause-samples : goal.returns-then-self-most-clause-samples
returns-then-self-most-clause-samples c on =
    let few : length (samples_by c.args.self.now.runs.items) ≤ c.args.most = omega (arith, c.args.self.now.counted on) in
    sym (take_all c.args.most (samples_by c.args.self.now.runs.items) few)
