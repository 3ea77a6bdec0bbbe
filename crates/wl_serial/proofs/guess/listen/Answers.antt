-- A stretch more.
use Rattle.std.proofs.Common.{◌<◌, length, refl, sym, subst, arith}
use Rattle.wl_serial.specs.Running.{ticks_left}
use Rattle.wl_serial.proofs.Beside.{ran_more, ran_none, somewhere_on, tells_then}
use Rattle.wl_serial.proofs.Runners.{fewer_left}
use Rattle.wl_serial.proofs.guess.listen.Goals as goal

pub loop-running-init : goal.loop-running-init
loop-running-init c = (
  c.requires.lines,
  c.requires.heard,
  c.requires.somewhere,
  ran_none c.args.plan.now c.args.i c.args.until c.args.running.now c.requires.somewhere (omega (arith, c.requires.node, c.requires.somewhere.all)),
  λ d b. refl,
)

pub loop-running-smaller : goal.loop-running-smaller
loop-running-smaller c =
    let plan = c.args.plan.now in
    let rs = c.loop-running.running in
    let ran = c.in_ok-stretch_alone.ensures.ran in
    let b : c.args.i < length rs = omega (arith, c.requires.node, c.loop-running.invariant.2.all) in
    let d = c.index-running-i.result in
    subst (λ xs. ticks_left plan.end xs < ticks_left plan.end rs) (sym ran.is)
    (fewer_left plan.end rs c.args.i ran.r d b (omega (arith, c.loop-running-test.true, c.requires.ends)) (ran.later d))

pub loop-running-preserved : goal.loop-running-preserved
loop-running-preserved c =
    let plan = c.args.plan.now in
    let i = c.args.i in
    let rs = c.loop-running.running in
    let new = c.stretch_alone.new.running in
    let h = c.loop-running.invariant in
    let b : i < length rs = omega (arith, c.requires.node, h.2.all) in
    let alone = ran_more plan i c.args.until c.args.until c.args.running.now rs new c.a_consistent_guess_holds.ensures c.simulation_laws.ensures
    c.laws.ensures.sound c.requires.node b (omega arith) c.requires.ends h.3 c.in_ok-stretch_alone.ensures.ran in (
      c.in_ok-stretch_alone.ensures.lines,
      c.in_ok-stretch_alone.ensures.heard,
      somewhere_on plan i c.args.until c.args.running.now new c.requires.somewhere alone,
      alone,
      tells_then i c.args.running.now rs new h.3.all h.4 (c.in_ok-stretch_alone.ensures.same c.if-branch.false),
    )

pub returns-then-branch-clause-ran : goal.returns-then-branch-clause-ran
returns-then-branch-clause-ran c =
    let plan = c.args.plan.now in
    let i = c.args.i in
    let rs = c.loop-running.running in
    let h = c.loop-running.invariant in
    let b : i < length rs = omega (arith, c.requires.node, h.2.all) in
    ran_more plan i c.args.until c.args.until c.args.running.now rs c.stretch_alone.new.running c.a_consistent_guess_holds.ensures c.simulation_laws.ensures
    c.laws.ensures.sound c.requires.node b (omega arith) c.requires.ends h.3 c.in_ok-stretch_alone.ensures.ran
