use Rattle.std.proofs.Common.{◌∙◌, List, get_or, ap}
use Rattle.std.proofs.lemmas.List.{get_or_default}
use Rattle.wl_node.specs.declared.setup.NodeSetup.{NodeSetup}
use Rattle.wl_plan.specs.declared.plan.Plan.{Plan}
use Rattle.wl_plan.specs.PlanLine.{no_setup}
use Rattle.wl_traffic.proofs.nodes.setup_of.Goals as goal

pub returns : goal.returns
returns c =
    c.index-setups-i.is ∙ ap (λ (xs : List NodeSetup). get_or xs c.args.i c.index-setups-i.result) (c.as_slice-setups.ensures ∙ ap (λ (p : Plan). p.nodes) c.deref.ensures.0)
    ∙ get_or_default c.args.plan.now.nodes c.args.i c.index-setups-i.result no_setup c.requires
