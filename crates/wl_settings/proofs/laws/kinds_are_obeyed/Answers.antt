use Rattle.wl_settings.proofs.KindSettings.{obeyed}
use Rattle.wl_settings.proofs.laws.kinds_are_obeyed.Goals as goal

pub returns : goal.returns
returns c = obeyed
