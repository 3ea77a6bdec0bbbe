-- The node ran on by what is known, and the others wait.
use Rattle.std.proofs.Common.{◌<◌, inr, length, sym, subst, arith}
use Rattle.wl_serial.specs.Running.{AllKeep, AreRunning, KnowsOthers, OnlyOne, ticks_left}
use Rattle.wl_serial.proofs.Keeping.{keep_on}
use Rattle.wl_serial.proofs.Known.{only_one_on}
use Rattle.wl_serial.proofs.Plain.{runs_plain}
use Rattle.wl_serial.proofs.Runners.{fewer_left, fewer_on, horizon_on, one_on, somewhere}
use Rattle.wl_serial.proofs.turn.run_below.Goals as goal

pub stretch-requires-clause-somewhere : goal.stretch-requires-clause-somewhere
stretch-requires-clause-somewhere c = somewhere c.args.plan.now c.loop-running.running c.loop-running.invariant.0

pub loop-running-preserved : goal.loop-running-preserved
loop-running-preserved c =
    let plan = c.args.plan.now in
    let j = c.args.j in
    let rs = c.loop-running.running in
    let h = c.loop-running.invariant in
    let ran = c.in_ok-stretch.ensures.ran in
    let r = ran.r in
    let b : j < length rs = omega (arith, c.requires.node, h.0.all) in
    let d = c.index-running-j.result in
    let before = c.loop-running-test.true in
    let run = runs_plain plan rs j c.args.horizon d r c.simulation_laws.ensures c.table_laws.ensures c.laws.ensures.sound h.0 h.4 b
    (ran.goes d) (ran.known d) (ran.later d) in (
      subst (AreRunning plan) (sym ran.is) (one_on plan rs j r b h.0 run),
      c.in_ok-stretch.ensures.lines,
      c.in_ok-stretch.ensures.heard,
      subst (OnlyOne j c.args.running.now) (sym ran.is) (only_one_on j c.args.running.now rs r h.3),
      subst (KnowsOthers plan j c.args.horizon) (sym ran.is) (horizon_on plan j c.args.horizon rs r h.4),
      inr (subst (λ xs. ticks_left plan.end xs < ticks_left plan.end c.args.running.now) (sym ran.is)
          (fewer_on plan.end c.args.running.now rs j r d b (omega (arith, before, c.requires.ends)) (ran.later d) h.5)),
      (λ k all. subst (AllKeep k) (sym ran.is) (keep_on k rs j r b (h.6 k all) (λ e. (ran.further e).keeps))),
    )

pub loop-running-smaller : goal.loop-running-smaller
loop-running-smaller c =
    let plan = c.args.plan.now in
    let j = c.args.j in
    let rs = c.loop-running.running in
    let ran = c.in_ok-stretch.ensures.ran in
    let b : j < length rs = omega (arith, c.requires.node, c.loop-running.invariant.0.all) in
    let d = c.index-running-j.result in
    subst (λ xs. ticks_left plan.end xs < ticks_left plan.end rs) (sym ran.is)
    (fewer_left plan.end rs j ran.r d b (omega (arith, c.loop-running-test.true, c.requires.ends)) (ran.later d))
