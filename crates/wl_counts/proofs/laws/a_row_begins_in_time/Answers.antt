use Rattle.wl_counts.proofs.Waits.{begin_in_time, end_in_time}
use Rattle.wl_counts.proofs.laws.a_row_begins_in_time.Goals as goal

pub returns : goal.returns
returns c = record { begins = begin_in_time; ends = end_in_time }
