use Rattle.std.proofs.Common.{◌∙◌, ap, nat_eq}
use Rattle.wl_sweep.proofs.Callers.{all_counted}
use Rattle.wl_spikes.specs.declared.tally.SpikeTally.{SpikeTally}
use Rattle.wl_spikes.specs.Tallies.{is_sound}
use Rattle.wl_spikes.proofs.tally.SpikeTally.all_sound.Goals as goal

pub returns : goal.returns
returns c xs is = ap (λ (t : SpikeTally). nat_eq t.sound t.runs) is ∙ all_counted is_sound xs
