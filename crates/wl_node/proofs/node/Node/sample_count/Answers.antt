use Rattle.std.proofs.Common.{◌∙◌, sym, ap}
use Rattle.wl_node.specs.Reached.{node_setup}
use Rattle.wl_node.proofs.Leaving.{same_past}
use Rattle.std.proofs.Common.{length}
use Rattle.wl_node.proofs.node.Node.sample_count.Goals as goal

pub returns : goal.returns
returns c levels is = is.stayed.place.traffic.sampled ∙ sym (ap length (same_past (node_setup c.args.self.now) levels).samples)
