use Rattle.wl_counts.proofs.Waits.{jitter_curve}
use Rattle.wl_counts.proofs.laws.a_jitter_widens_a_curve.Goals as goal

pub returns : goal.returns
returns c = jitter_curve
