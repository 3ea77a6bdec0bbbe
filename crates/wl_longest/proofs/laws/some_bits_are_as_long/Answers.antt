use Rattle.wl_longest.proofs.Headers.{as_long}
use Rattle.wl_longest.proofs.laws.some_bits_are_as_long.Goals as goal

pub returns : goal.returns
returns c = as_long
