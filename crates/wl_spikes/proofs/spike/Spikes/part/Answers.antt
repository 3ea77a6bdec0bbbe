use Rattle.std.proofs.Common.{◌∙◌, ◌∷◌, [], ap, arith}
use Rattle.wl_spikes.specs.Tallies.{spike_tally}
use Rattle.wl_spikes.proofs.Parts.{spikes_more}
use Rattle.wl_spikes.proofs.spike.Spikes.part.Goals as goal

pub loop-n-preserved : goal.loop-n-preserved
loop-n-preserved c =
    spikes_more c.args.self.now c.args.from c.loop-n.n c.loop-n.tally c.of.result c.then-tally.result
    (omega arith) (omega arith) c.then-tally.ensures c.loop-n.invariant
    (c.of.ensures ∙ ap (λ f. spike_tally (f ∷ [])) c.in_ok-found.ensures)
