use Rattle.wl_counts.proofs.Sums.{by_messages}
use Rattle.wl_counts.proofs.laws.a_sum_over_frames_is_one_over_messages.Goals as goal

pub returns : goal.returns
returns c = by_messages
