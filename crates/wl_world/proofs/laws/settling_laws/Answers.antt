-- What is left to settle, and how many rounds there are, rests on the laws of the simulation, of replicas and of groups.
use Rattle.wl_world.proofs.RoundProofs.{settling_laws}
use Rattle.wl_world.proofs.EndProofs.{end_laws}
use Rattle.wl_world.proofs.laws.settling_laws.Goals as goal

pub returns-clause-scenes : goal.returns-clause-scenes
returns-clause-scenes c = settling_laws c.simulation_laws.ensures c.known_laws.ensures c.group_laws.ensures c.party_laws.ensures

pub returns-clause-worlds : goal.returns-clause-worlds
returns-clause-worlds c = end_laws c.simulation_laws.ensures c.checked_is_sound.ensures c.grouping_laws.ensures c.known_laws.ensures c.group_laws.ensures c.party_laws.ensures
