use Rattle.wl_heal.proofs.Bursts.{burst_found}
use Rattle.wl_heal.proofs.laws.a_burst_is_found.Goals as goal

pub returns : goal.returns
returns h = burst_found
