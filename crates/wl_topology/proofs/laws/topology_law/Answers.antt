use Rattle.wl_topology.proofs.Accepted.{accepted}
use Rattle.wl_topology.proofs.laws.topology_law.Goals as goal

pub returns : goal.returns
returns c = accepted
