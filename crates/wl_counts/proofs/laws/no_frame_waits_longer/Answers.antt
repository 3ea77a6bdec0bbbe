use Rattle.wl_counts.proofs.Waits.{wait_short}
use Rattle.wl_counts.proofs.laws.no_frame_waits_longer.Goals as goal

pub returns : goal.returns
returns c = wait_short
