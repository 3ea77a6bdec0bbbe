use Rattle.wl_counts.proofs.Instances.{wait_short_by_instances}
use Rattle.wl_counts.proofs.laws.no_frame_waits_longer_by_instances.Goals as goal

pub returns : goal.returns
returns c = wait_short_by_instances
