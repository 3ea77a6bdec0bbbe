use Rattle.wl_heal.proofs.Idles.{silence_idles}
use Rattle.wl_heal.proofs.laws.a_silence_leaves_all_idle.Goals as goal

pub returns : goal.returns
returns c = silence_idles
