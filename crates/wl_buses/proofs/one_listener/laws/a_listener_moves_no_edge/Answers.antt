use Rattle.wl_buses.proofs.OneListener.Unchanged.{same_from, same_place}
use Rattle.wl_buses.proofs.one_listener.laws.a_listener_moves_no_edge.Goals as goal

pub returns : goal.returns
returns c = λ s drives old due due_old are_x are same_d same_due unheard some i inside.
    (same_place s are_x are drives old same_d due due_old same_due unheard some i inside, same_from s are_x are drives old same_d due due_old same_due unheard some i inside)
