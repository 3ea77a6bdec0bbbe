use Rattle.std.proofs.Common.{◌∙◌, sym, ap}
use Rattle.wl_node.specs.Reached.{node_setup}
use Rattle.wl_node.proofs.Leaving.{same_past}
use Rattle.std.specs.List.{flat_map}
use Rattle.wl_node.specs.Extremes.{phase_totals}
use Rattle.wl_node.specs.History.{phase_of}
use Rattle.wl_node.proofs.node.Node.phase_totals.Goals as goal

pub returns : goal.returns
returns c levels is = is.stayed.place.syncs.totals ∙ sym (ap (λ s. phase_totals (flat_map phase_of s)) (same_past (node_setup c.args.self.now) levels).syncs)
