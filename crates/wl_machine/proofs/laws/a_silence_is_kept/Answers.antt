use Rattle.wl_machine.proofs.Silent.{silent_now, silent_next, silent_left, silent_few, silent_none}
use Rattle.wl_machine.proofs.laws.a_silence_is_kept.Goals as goal

pub returns : goal.returns
returns c = record { now = silent_now; next = silent_next; left = silent_left; off = silent_few; none = silent_none }
