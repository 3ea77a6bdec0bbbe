-- The headline rests on the laws of replicas and of groups.
use Rattle.wl_world.proofs.WorldProofs.{headline}
use Rattle.wl_world.proofs.laws.headline.Goals as goal

pub returns : goal.returns
returns c =
    headline c.known_laws.ensures c.group_laws.ensures c.party_laws.ensures
    c.same_records_same_state.ensures c.taking_is_joining.ensures c.joining_is_a_join.ensures c.slots_of_states.ensures
