use Rattle.std.proofs.Common.{refl}
use Rattle.wl_traffic.proofs.healing.Trouble.new.Goals as goal

pub returns : goal.returns
returns c setup end = refl
