use Rattle.std.proofs.Common.{length}
use Rattle.wl_plan.specs.PlanLine.{table_of}
use Rattle.wl_group.proofs.BeginProofs.{true_fits}
use Rattle.wl_group.proofs.begin.take_first.Goals as goal

pub take-requires : goal.take-requires
take-requires c =
    true_fits (length c.args.plan.now.nodes) c.args.replica.now.nodes (table_of c.args.plan.now) c.first_silence.result c.first_silence.ensures.truth c.requires.nodes
