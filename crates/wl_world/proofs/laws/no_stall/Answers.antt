-- No stall rests on the laws of replicas and of groups.
use Rattle.wl_world.proofs.NoStallProofs.{no_stall}
use Rattle.wl_world.proofs.FaithfulProofs.{worlds_go_on}
use Rattle.wl_world.proofs.laws.no_stall.Goals as goal

pub returns-clause-scenes : goal.returns-clause-scenes
returns-clause-scenes c = no_stall c.known_laws.ensures c.group_laws.ensures c.party_laws.ensures

pub returns-clause-worlds : goal.returns-clause-worlds
returns-clause-worlds c =
    worlds_go_on c.known_laws.ensures c.group_laws.ensures c.party_laws.ensures c.value_laws.ensures c.taking_is_joining.ensures c.slots_of_states.ensures c.checked_is_sound.ensures c.simulation_laws.ensures
    c.grouping_laws.ensures
