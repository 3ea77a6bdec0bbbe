use Rattle.std.proofs.Common.{◌∙◌, sym, ap}
use Rattle.wl_node.specs.Reached.{node_setup}
use Rattle.wl_node.proofs.Leaving.{same_past}
use Rattle.std.specs.Prelude.{count_by}
use Rattle.wl_node.specs.History.{is_hard}
use Rattle.wl_node.proofs.node.Node.hards.Goals as goal

pub returns : goal.returns
returns c levels is = is.stayed.place.syncs.hards ∙ sym (ap (count_by is_hard) (same_past (node_setup c.args.self.now) levels).syncs)
