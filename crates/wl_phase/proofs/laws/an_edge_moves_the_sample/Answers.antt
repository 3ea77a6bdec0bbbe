use Rattle.wl_phase.proofs.Runs.{way_laws}
use Rattle.wl_phase.proofs.laws.an_edge_moves_the_sample.Goals as goal

pub returns : goal.returns
returns c = way_laws (record { clock = c.clock_goes_on.ensures.clock; beat = c.clock_goes_on.ensures.beat; sync = c.clock_goes_on.ensures.sync })
