use Rattle.std.proofs.Common.{◌∙◌, sym, ap}
use Rattle.wl_node.specs.Reached.{node_setup}
use Rattle.wl_node.proofs.Leaving.{same_past}
use Rattle.std.proofs.Common.{length}
use Rattle.wl_node.specs.Queues.{unsent_by}
use Rattle.wl_node.proofs.node.Node.unsent.Goals as goal

pub returns : goal.returns
returns c levels is = ap length c.frames.ensures ∙ (ap length is.stayed.place.traffic.unsent.left ∙ sym (ap (λ f. length (unsent_by (node_setup c.args.self.now).order (node_setup c.args.self.now).queue f)) (same_past (node_setup c.args.self.now) levels).frames))
