-- Without a disturbance the nodes alone make the line.
use Rattle.std.proofs.Common.{◌∙◌, arith}
use Rattle.wl_topology.specs.Delays.{delay_of}
use Rattle.wl_topology.specs.Driven.{driven}
use Rattle.wl_plan.specs.PlanLine.{line_of, disturbed}
use Rattle.wl_plan.specs.Simulation.{level}
use Rattle.wl_group.proofs.HeardProofs.{without_disturbance}
use Rattle.wl_group.proofs.heard.found_from.Goals as goal

pub returns-clause-found : goal.returns-clause-found
returns-clause-found c u from until =
    let plan = c.args.plan.now in
    without_disturbance (driven (line_of plan).nodes (delay_of plan.topology) (level (line_of plan)) c.args.j u) (disturbed plan c.args.j u) c.driven_from-driven.result.dominant
    (c.requires.disturbance u (omega (arith, from, c.requires.disturbance_from)) (omega (arith, until, c.min.ensures)) ∙ c.if-disturbance.false)
    (c.driven_from-driven.ensures.driven u (omega (arith, from, c.driven_from-driven.ensures.from)) (omega (arith, until, c.min.ensures)))
