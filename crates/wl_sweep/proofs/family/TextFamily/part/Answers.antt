use Rattle.std.proofs.Common.{◌∙◌, ◌∷◌, [], ap, arith}
use Rattle.wl_sweep.specs.Tallies.{tally_of}
use Rattle.wl_sweep.proofs.Found.{tally_more}
use Rattle.wl_sweep.proofs.family.TextFamily.part.Goals as goal

pub loop-run-preserved : goal.loop-run-preserved
loop-run-preserved c =
    tally_more c.args.self.now.options c.args.self.now.text c.args.from c.loop-run.run c.loop-run.tally c.of.result c.then-tally.result
    (omega arith) (omega arith) c.then-tally.ensures c.loop-run.invariant
    (c.of.ensures ∙ ap (λ f. tally_of (f ∷ [])) c.in_ok-finding.ensures)
