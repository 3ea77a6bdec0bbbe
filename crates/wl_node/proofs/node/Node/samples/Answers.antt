use Rattle.std.proofs.Common.{◌∙◌, sym}
use Rattle.wl_node.specs.Reached.{node_setup}
use Rattle.wl_node.proofs.Leaving.{same_past}
use Rattle.wl_node.proofs.node.Node.samples.Goals as goal

pub returns : goal.returns
returns c keeps levels is = is.stayed.place.traffic.samples keeps ∙ sym (same_past (node_setup c.args.self.now) levels).samples
