-- One node more has listened, or one has failed.
use Rattle.std.proofs.Common.{◌<◌, length, arith}
use Rattle.wl_serial.proofs.Following.{failed_later, listened_later, listened_more, listened_none, listened_own, listened_somewhere}
use Rattle.wl_serial.proofs.guess.follow.Goals as goal
use Rattle.wl_serial.proofs.guess.follow.Goals.{else-i-j-via-then-i-j+in_ok-listen+else-not-branch, else-i-j-via-else-i-j}

pub loop-i-init : goal.loop-i-init
loop-i-init c = (c.requires.lines, c.requires.heard, listened_none c.args.plan.now c.args.j c.args.until c.args.running.now)

pub listen-requires-clause-somewhere : goal.listen-requires-clause-somewhere
listen-requires-clause-somewhere c =
    listened_somewhere c.args.plan.now c.args.j c.args.until c.args.running.now c.loop-i.i c.loop-i.running c.requires.somewhere c.loop-i.invariant.2

pub returns-then-not-branch-clause-later : goal.returns-then-not-branch-clause-later
returns-then-not-branch-clause-later c =
    failed_later c.args.plan.now c.args.j c.args.until c.args.running.now c.loop-i.i c.loop-i.running c.listen.new.running c.loop-i.invariant.2 c.in_ok-listen.ensures.ran

pub returns-clause-later : goal.returns-clause-later
returns-clause-later c = listened_later c.args.plan.now c.args.j c.args.until c.args.running.now c.loop-i.i c.loop-i.running c.loop-i.invariant.2

pub loop-i-preserved : goal.loop-i-preserved
loop-i-preserved c =
    let plan = c.args.plan.now in
    let i = c.loop-i.i in
    let old = c.args.running.now in
    let rs = c.loop-i.running in
    let h = c.loop-i.invariant in
    elim c.else-i-j.branch [
      | else-i-j-via-then-i-j+in_ok-listen+else-not-branch w ↦
          let inside : i < length rs = omega (arith, c.loop-i-test.true, h.2.all) in
          rw (w.running-is, w.lines-is) (
            w.in_ok-listen.ensures.lines,
            w.in_ok-listen.ensures.heard,
            listened_more plan c.args.j c.args.until old i rs w.listen.new.running c.simulation_laws.ensures w.if-i-j.true h.2 w.in_ok-listen.ensures.ran
                (λ d. w.in_ok-listen.ensures.same w.if-not-branch.false d inside) (w.in_ok-listen.ensures.reached w.if-not-branch.false),
          )
      | else-i-j-via-else-i-j w ↦
          rw (w.running-is, w.lines-is) (h.0, h.1, listened_own plan c.args.j c.args.until old i rs w.if-i-j.false h.2)
    ]
