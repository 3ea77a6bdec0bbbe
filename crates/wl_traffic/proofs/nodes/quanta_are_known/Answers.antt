use Rattle.wl_traffic.proofs.Quanta.{known}
use Rattle.wl_traffic.proofs.nodes.quanta_are_known.Goals as goal

pub returns : goal.returns
returns c i b = known c.args.plan.now c.laws.ensures.checked c.laws.ensures.sound c.simulation_laws.ensures i b
