use Rattle.wl_buses.proofs.OneFrame.Calm.{no_edge_laws}
use Rattle.wl_buses.proofs.one_frame.laws.no_edge_counts_then.Goals as goal

pub returns : goal.returns
returns c =
    no_edge_laws (record { clock = c.clock_goes_on.ensures.clock; beat = c.clock_goes_on.ensures.beat; sync = c.clock_goes_on.ensures.sync })
    c.clock_goes_on.ensures.sample c.clock_goes_on.ensures.level c.an_edge_moves_the_sample.ensures
