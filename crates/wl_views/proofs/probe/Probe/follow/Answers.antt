-- Its signals stay from each tick at which it is to the next one.
use Rattle.std.proofs.Common.{◌-◌, arith}
use Rattle.wl_views.specs.declared.probe.Probe.{Probe}
use Rattle.wl_views.proofs.Dates.{lasts_on}
use Rattle.wl_views.proofs.Watching.{awaited, on, remembered}
use Rattle.wl_views.proofs.probe.Probe.follow.Goals as goal

pub go-requires-clause-remembers : goal.go-requires-clause-remembers
go-requires-clause-remembers c =
    let w : Probe = c.loop-self.self in
    let inv = c.loop-self.invariant in
    let later = lasts_on c.args.plan.now c.args.i inv.0 w inv.1 in
    remembered c.simulation_laws.ensures c.args.plan.now c.laws.ensures.sound c.args.i c.requires.node w.until w
    (on c.args.plan.now c.args.i inv.0 (w.until - 1) w inv.1 (omega arith) (omega arith))

pub go-requires-clause-awaits : goal.go-requires-clause-awaits
go-requires-clause-awaits c =
    let w : Probe = c.loop-self.self in
    let inv = c.loop-self.invariant in
    let later = lasts_on c.args.plan.now c.args.i inv.0 w inv.1 in
    awaited c.simulation_laws.ensures c.args.plan.now c.laws.ensures.sound c.args.i c.requires.node w.until w (omega arith)
    (on c.args.plan.now c.args.i inv.0 (w.until - 1) w inv.1 (omega arith) (omega arith)) (omega arith)

pub returns : goal.returns
returns c =
    let inv = c.loop-self.invariant in
    on c.args.plan.now c.args.i inv.0 c.args.t c.loop-self.self inv.1 inv.2 (omega (arith, c.loop-self-test.false))
