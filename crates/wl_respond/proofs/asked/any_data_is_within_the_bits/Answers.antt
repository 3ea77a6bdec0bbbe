use Rattle.wl_respond.proofs.AnyData.{within_bits}
use Rattle.wl_respond.proofs.asked.any_data_is_within_the_bits.Goals as goal

pub returns : goal.returns
returns c = within_bits
