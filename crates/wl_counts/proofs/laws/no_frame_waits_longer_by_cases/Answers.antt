use Rattle.wl_counts.proofs.Cases.{wait_short_by_cases}
use Rattle.wl_counts.proofs.laws.no_frame_waits_longer_by_cases.Goals as goal

pub returns : goal.returns
returns c = wait_short_by_cases
