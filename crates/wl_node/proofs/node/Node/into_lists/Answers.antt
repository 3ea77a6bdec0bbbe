use Rattle.std.proofs.Common.{◌∙◌, sym, ap}
use Rattle.std.specs.List.{flat_map}
use Rattle.wl_node.specs.History.{phase_of}
use Rattle.wl_node.specs.Reached.{node_setup}
use Rattle.wl_node.proofs.Leaving.{same_past}
use Rattle.wl_node.proofs.node.Node.into_lists.Goals as goal

pub returns-clause-samples : goal.returns-clause-samples
returns-clause-samples c keeps levels is = c.into_list.ensures ∙ (is.stayed.place.traffic.samples keeps ∙ sym (same_past (node_setup c.args.self) levels).samples)

pub returns-clause-frames : goal.returns-clause-frames
returns-clause-frames c levels is = c.from_vec.ensures ∙ (is.stayed.place.traffic.frames ∙ sym (same_past (node_setup c.args.self) levels).frames)

pub returns-clause-phases : goal.returns-clause-phases
returns-clause-phases c keeps levels is = c.from_vec-2.ensures ∙ (is.stayed.place.syncs.phases (is.stayed.place.same ∙ keeps) ∙ sym (ap (flat_map phase_of) (same_past (node_setup c.args.self) levels).syncs))
