use Rattle.std.proofs.Common.{◌≤◌, arith}
use Rattle.wl_record_core.specs.Limits.{tick_end-is}
use Rattle.wl_topology.specs.Limits.{never}
use Rattle.wl_plan.specs.PlanLine.{line_of}
use Rattle.wl_group.specs.Ways.{way_in}
use Rattle.wl_group.proofs.HeardProofs.{one_more_source}
use Rattle.wl_group.proofs.heard.heard_of.Goals as goal

pub overflow_add-run_end : goal.overflow_add-run_end
overflow_add-run_end c =
    let short : way_in c.args.ways.now c.args.i ≤ never = c.requires.ways.short c.args.i in
    omega (arith, c.run_end.ensures.early, short, tick_end-is)

pub returns-clause-sources : goal.returns-clause-sources
returns-clause-sources c = one_more_source (line_of c.args.plan.now) c.args.j c.args.sources.now c.args.i _ c.requires.sources c.heard_again.ensures.source
