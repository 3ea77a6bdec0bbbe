use Rattle.std.proofs.Common.{◌∙◌, sym}
use Rattle.wl_node.specs.Reached.{node_setup}
use Rattle.wl_node.proofs.Leaving.{same_past}
use Rattle.wl_node.proofs.node.Node.frames.Goals as goal

pub returns : goal.returns
returns c levels is = c.deref.ensures.value ∙ (is.stayed.place.traffic.frames ∙ sym (same_past (node_setup c.args.self.now) levels).frames)
