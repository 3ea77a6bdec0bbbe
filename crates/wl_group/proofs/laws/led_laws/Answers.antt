-- Where a group is led rests on the laws of groups, of slots and of the simulation.
use Rattle.wl_group.proofs.LedProofs.{led_laws}
use Rattle.wl_group.proofs.laws.led_laws.Goals as goal

pub returns : goal.returns
returns c =
    led_laws c.value_laws.ensures c.group_laws.ensures c.table_laws.ensures c.slots_laws.ensures c.known_laws.ensures c.simulation_laws.ensures c.slots_of_states.ensures c.checked_is_sound.ensures
