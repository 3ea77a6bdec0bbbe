-- A delay later what the node drives is heard.
use Rattle.std.proofs.Common.{◌≡◌, ◌-◌, ◌≤◌, arith}
use Rattle.wl_topology.specs.Delays.{delay_of}
use Rattle.wl_plan.specs.PlanLine.{line_of}
use Rattle.wl_plan.specs.Simulation.{level}
use Rattle.wl_group.proofs.HeardProofs.{heard_after}
use Rattle.wl_group.proofs.heard.heard_at.Goals as goal

pub returns-clause-heard : goal.returns-clause-heard
returns-clause-heard c u from until =
    let l = line_of c.args.plan.now in
    let d = delay_of c.args.plan.now.topology c.args.i c.args.j in
    let same : c.args.delay ≡ d = c.requires.way in
    let after : d ≤ u = omega (arith, same, from, c.if-t-delay.false) in
    heard_after d u (level l c.args.i (u - d)) c.drive_at-own.result.dominant after
    (c.drive_at-own.ensures.drive (u - d)
    (omega (arith, same, from, c.drive_at-own.ensures.from, c.if-t-delay.false))
    (omega (arith, same, until, after, c.saturating_add.ensures)))
