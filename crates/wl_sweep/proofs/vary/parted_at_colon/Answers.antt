use Rattle.std.proofs.Common.{arith}
use Rattle.wl_sweep.proofs.Varied.{parted_is}
use Rattle.wl_sweep.proofs.vary.parted_at_colon.Goals as goal

pub returns : goal.returns
returns c = parted_is 58 c.args.text.now c.split_once.result c.split_once.ensures.cases (omega arith)
