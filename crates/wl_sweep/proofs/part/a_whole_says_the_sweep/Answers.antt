use Rattle.wl_sweep.proofs.Shares.{says_the_sweep}
use Rattle.wl_sweep.proofs.part.a_whole_says_the_sweep.Goals as goal

pub returns : goal.returns
returns c = says_the_sweep
