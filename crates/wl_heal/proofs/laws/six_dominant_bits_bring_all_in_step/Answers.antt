use Rattle.wl_heal.proofs.Flagged.{six_dominant}
use Rattle.wl_heal.proofs.laws.six_dominant_bits_bring_all_in_step.Goals as goal

pub returns : goal.returns
returns c = six_dominant
