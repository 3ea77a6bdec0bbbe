use Rattle.wl_parts.proofs.Wholes.{parts_joined}
use Rattle.wl_parts.proofs.laws.parts_say_the_whole.Goals as goal

pub returns : goal.returns
returns g c = λ kinds w n ps few are. parts_joined kinds w n ps few are
