use Rattle.wl_buses.proofs.OneSender.Alone.{found_by_one}
use Rattle.wl_buses.proofs.one_sender.laws.one_driver_is_found.Goals as goal

pub returns : goal.returns
returns c = found_by_one c.driven_laws.ensures
