-- No sample.
use Rattle.std.proofs.Common.{◌≡◌, ◌∙◌, ◌++◌, ap, sym, arith, append-nil}
use Rattle.wl_node.specs.Runs.{samples_by, samples_from}
use Rattle.wl_node.proofs.RunsOfSamples.{from_none}
use Rattle.wl_node.proofs.traffic.Traffic.keep_bits.Goals as goal

pub returns-else-bits-gt0-clause-samples : goal.returns-else-bits-gt0-clause-samples
returns-else-bits-gt0-clause-samples c on =
    let none : c.keep_equal-bits.result ≡ 0 = (let f = c.if-bits-gt0.false in omega (arith, f)) in
    sym (append-nil (samples_by c.args.self.now.samples.runs.items))
    ∙ ap (λ xs. samples_by c.args.self.now.samples.runs.items ++ xs) (sym (ap (samples_from c.args.from c.args.bit c.args.level) none ∙ from_none c.args.from c.args.bit c.args.level))
