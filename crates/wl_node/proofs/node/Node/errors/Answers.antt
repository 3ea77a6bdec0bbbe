use Rattle.std.proofs.Common.{◌∙◌, sym, ap}
use Rattle.wl_node.specs.Reached.{node_setup}
use Rattle.wl_node.proofs.Leaving.{same_past}
use Rattle.std.specs.Prelude.{count_by}
use Rattle.wl_confine.specs.Counts.{is_error}
use Rattle.wl_node.proofs.node.Node.errors.Goals as goal

pub returns : goal.returns
returns c levels is = is.stayed.place.traffic.errors ∙ sym (ap (count_by is_error) (same_past (node_setup c.args.self.now) levels).happened)
