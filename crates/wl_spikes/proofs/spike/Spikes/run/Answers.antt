use Rattle.std.proofs.Common.{◌∙◌, ◌++◌, ap, string_bytes, List, ℕ}
use Rattle.wl_spikes.specs.Words.{said_of_spikes}
use Rattle.wl_spikes.proofs.spike.Spikes.run.Goals as goal

pub returns-clause-text : goal.returns-clause-text
returns-clause-text g c =
    c.in_ok-push_said.ensures
    ∙ ap (λ (b : List ℕ). b ++ said_of_spikes c.args.self.now c.in_ok-tally.tally) c.new-text.ensures.bytes
    ∙ ap (said_of_spikes c.args.self.now) c.in_ok-tally.ensures
