use Rattle.wl_machine.proofs.Resting.{rest_now, rest_left, rest_none, rest_off, rest_silence}
use Rattle.wl_machine.proofs.laws.a_rest_is_kept.Goals as goal

pub returns : goal.returns
returns c = record { now = rest_now; left = rest_left; none = rest_none; off = rest_off; silence = rest_silence }
