use Rattle.wl_longest.proofs.Headers.{no_longer}
use Rattle.wl_longest.proofs.laws.no_frame_is_longer.Goals as goal

pub returns : goal.returns
returns c = no_longer
