use Rattle.std.proofs.Common.{length, sum}
use Rattle.wl_traffic.proofs.Growing.{mean_by_parts}
use Rattle.wl_traffic.proofs.statistics.mean.Goals as goal

pub returns : goal.returns
returns c = rw c.sum-sum.ensures.exact (mean_by_parts (length c.args.values.now) (sum c.args.values.now) c.requires)
