use Rattle.std.proofs.Common.{arith}
use Rattle.wl_sweep.proofs.Varied.{parted_is}
use Rattle.wl_sweep.proofs.part.parted_at_slash.Goals as goal

pub returns : goal.returns
returns c = parted_is 47 c.args.text.now c.split_once.result c.split_once.ensures.cases (omega arith)
