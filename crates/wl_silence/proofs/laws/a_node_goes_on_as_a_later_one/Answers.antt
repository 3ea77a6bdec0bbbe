use Rattle.wl_silence.proofs.Alike.{goes_on}
use Rattle.wl_silence.proofs.laws.a_node_goes_on_as_a_later_one.Goals as goal

pub returns : goal.returns
returns c = goes_on (record { clock = c.clock_goes_on.ensures.clock; beat = c.clock_goes_on.ensures.beat; sync = c.clock_goes_on.ensures.sync })
