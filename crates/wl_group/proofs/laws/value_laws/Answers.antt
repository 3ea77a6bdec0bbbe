use Rattle.wl_group.proofs.ValueProofs.{value_laws}
use Rattle.wl_group.proofs.laws.value_laws.Goals as goal

pub returns : goal.returns
returns c =
    value_laws c.table_laws.ensures c.slots_laws.ensures c.known_laws.ensures c.simulation_laws.ensures c.slots_of_states.ensures
    c.taking_is_joining.ensures c.joining_is_a_join.ensures c.checked_is_sound.ensures
