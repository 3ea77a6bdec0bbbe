use Rattle.wl_listeners.proofs.Outcomes.{same_outcome}
use Rattle.wl_listeners.proofs.laws.a_node_shows_the_same_beside_listeners.Goals as goal

pub returns : goal.returns
returns c = λ plan other at checked is i inside.
    same_outcome plan other at is.nodes (c.listeners_change_nothing.ensures.seen plan other at checked is) (c.listeners_change_nothing.ensures.changes plan other at checked is) i inside
