use Rattle.std.proofs.Common.{◌∙◌, sym, ap}
use Rattle.wl_node.specs.Reached.{node_setup}
use Rattle.wl_node.proofs.Leaving.{same_past}
use Rattle.std.specs.List.{flat_map}
use Rattle.wl_node.specs.History.{phase_of}
use Rattle.wl_node.proofs.node.Node.phases.Goals as goal

pub returns : goal.returns
returns c keeps levels is = c.deref.ensures.value ∙ (is.stayed.place.syncs.phases (is.stayed.place.same ∙ keeps) ∙ sym (ap (flat_map phase_of) (same_past (node_setup c.args.self.now) levels).syncs))
