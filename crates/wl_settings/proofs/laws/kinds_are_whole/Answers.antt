use Rattle.wl_settings.proofs.KindSettings.{has_each, has_no_other}
use Rattle.wl_settings.proofs.laws.kinds_are_whole.Goals as goal

pub returns : goal.returns
returns c = λ a name clock k s. (has_no_other a name clock k s, has_each a name clock k s)
