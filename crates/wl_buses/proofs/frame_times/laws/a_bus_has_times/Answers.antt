use Rattle.wl_buses.proofs.FrameTimes.Longest.{exact_times, simple_times}
use Rattle.wl_buses.proofs.frame_times.laws.a_bus_has_times.Goals as goal

pub returns-clause-exact : goal.returns-clause-exact
returns-clause-exact c = exact_times

pub returns-clause-simple : goal.returns-clause-simple
returns-clause-simple c = λ bus s chase line of enough. simple_times bus s line of chase enough
