use Rattle.wl_counts.proofs.Sums.{by_counts}
use Rattle.wl_counts.proofs.laws.a_sum_over_frames_is_bounded.Goals as goal

pub returns : goal.returns
returns c = by_counts
