-- The sender runs on alone, stretch by stretch.
use Rattle.std.proofs.Common.{◌<◌, length, sym, subst, arith}
use Rattle.wl_serial.specs.Running.{ticks_left}
use Rattle.wl_serial.proofs.Beside.{later_stretch, ran_more, ran_none, somewhere_on}
use Rattle.wl_serial.proofs.Runners.{fewer_left}
use Rattle.wl_serial.proofs.guess.lead.Goals as goal

pub loop-running-init : goal.loop-running-init
loop-running-init c =
    let plan = c.args.plan.now in
    let j = c.args.j in
    let rs = c.args.running.now in
    let ran = c.in_ok-stretch.ensures.ran in
    let b : j < length rs = omega (arith, c.requires.node, c.requires.somewhere.all) in
    let alone = ran_more plan j plan.end c.end.result rs rs c.stretch.new.running c.a_consistent_guess_holds.ensures c.simulation_laws.ensures
    c.laws.ensures.sound c.requires.node b (omega (arith, c.end.ensures)) (omega arith) (ran_none plan j plan.end rs c.requires.somewhere b) ran in (
      c.in_ok-stretch.ensures.lines,
      c.in_ok-stretch.ensures.heard,
      somewhere_on plan j plan.end rs c.stretch.new.running c.requires.somewhere alone,
      alone,
      (λ d. later_stretch plan j c.end.result rs c.stretch.new.running d b ran),
      c.sends_until-stop.ensures,
    )

pub loop-running-preserved : goal.loop-running-preserved
loop-running-preserved c =
    let plan = c.args.plan.now in
    let j = c.args.j in
    let first = c.args.running.now in
    let rs = c.loop-running.running in
    let h = c.loop-running.invariant in
    let ran = c.in_ok-stretch-2.ensures.ran in
    let new = c.stretch-in-loop-running.new.running in
    let b : j < length rs = omega (arith, c.requires.node, h.2.all) in
    let alone = ran_more plan j plan.end c.loop-running.stop first rs new c.a_consistent_guess_holds.ensures c.simulation_laws.ensures
    c.laws.ensures.sound c.requires.node b h.5 (omega arith) h.3 ran in (
      c.in_ok-stretch-2.ensures.lines,
      c.in_ok-stretch-2.ensures.heard,
      somewhere_on plan j plan.end first new c.requires.somewhere alone,
      alone,
      (λ d. let f = h.4 d in let e = later_stretch plan j c.loop-running.stop rs new d b ran in omega (arith, e, f)),
      c.sends_until-stop-in-loop-running.ensures,
    )

pub loop-running-smaller : goal.loop-running-smaller
loop-running-smaller c =
    let plan = c.args.plan.now in
    let rs = c.loop-running.running in
    let ran = c.in_ok-stretch-2.ensures.ran in
    let b : c.args.j < length rs = omega (arith, c.requires.node, c.loop-running.invariant.2.all) in
    let d = c.index-running-j-in-loop-running.result in
    subst (λ xs. ticks_left plan.end xs < ticks_left plan.end rs) (sym ran.is)
    (fewer_left plan.end rs c.args.j ran.r d b (omega (arith, c.loop-running-test.true, c.loop-running.invariant.5)) (ran.later d))
