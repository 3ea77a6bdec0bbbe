use Rattle.wl_buses.proofs.BothProofs.Expecting.{driven_is, seen_is}
use Rattle.wl_buses.proofs.both_proofs.laws.what_is_expected_is_driven.Goals as goal

pub returns : goal.returns
returns c = record { driven = driven_is c.simulation_laws.ensures; seen = seen_is c.simulation_laws.ensures }
