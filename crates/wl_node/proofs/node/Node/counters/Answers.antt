use Rattle.std.proofs.Common.{◌∙◌, sym, ap}
use Rattle.wl_node.specs.Reached.{node_setup}
use Rattle.wl_node.proofs.Leaving.{same_past}
use Rattle.wl_confine.specs.Counts.{counts_of}
use Rattle.wl_node.proofs.node.Node.counters.Goals as goal

pub returns : goal.returns
returns c levels is = is.stayed.place.traffic.counters ∙ sym (ap counts_of (same_past (node_setup c.args.self.now) levels).happened)
