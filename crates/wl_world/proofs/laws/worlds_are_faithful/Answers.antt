-- Each world is a scene that some events led to.
use Rattle.wl_world.proofs.FaithfulProofs.{worlds_faithful}
use Rattle.wl_world.proofs.laws.worlds_are_faithful.Goals as goal

pub returns : goal.returns
returns c = worlds_faithful c.headline.ensures c.slots_of_states.ensures c.checked_is_sound.ensures c.simulation_laws.ensures c.grouping_laws.ensures
