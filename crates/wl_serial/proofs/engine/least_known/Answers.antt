-- The one that is known the least far, if that is before the end.
use Rattle.std.proofs.Common.{◌≡◌, ◌<◌, length, subst, arith}
use Rattle.std.proofs.lemmas.List.{get_or_default}
use Rattle.wl_serial.proofs.Known.{IsLeast, least_one_more, least_stays, least_is_next, all_known}
use Rattle.wl_serial.proofs.engine.least_known.Goals as goal
use Rattle.wl_serial.proofs.engine.least_known.Goals.{then-known-i, else-known-i}

pub loop-i-preserved : goal.loop-i-preserved
loop-i-preserved c =
    let b : c.loop-i.i < length c.args.known.now = omega (arith, c.loop-i-test.true, c.nodes-i-end.ensures.few, c.told-known) in
    elim c.if-known-i.branch [
      | then-known-i w ↦
          rw (w.node-is, w.least-is)
          (least_one_more c.args.known.now c.loop-i.i c.loop-i.node c.loop-i.least _ b (get_or_default c.args.known.now c.loop-i.i 0 _ b) c.loop-i.invariant w.if-known-i.true)
      | else-known-i w ↦
          rw (w.node-is, w.least-is)
          (least_stays c.args.known.now c.loop-i.i c.loop-i.node c.loop-i.least _ b (get_or_default c.args.known.now c.loop-i.i 0 _ b) c.loop-i.invariant w.if-known-i.false)
    ]

pub returns : goal.returns
returns c =
    let all : c.loop-i.i ≡ length c.args.running.now = omega (arith, c.loop-i-test.false, c.loop-i.auto.i-end, c.nodes-i-end.ensures.value, c.nodes-i-end.ensures.some, c.requires.running.all) in
    least_is_next c.args.plan.now c.args.running.now c.args.known.now c.loop-i.node c.loop-i.least c.requires.running c.requires.known
    (subst (λ n. IsLeast c.args.known.now n c.loop-i.node c.loop-i.least) all c.loop-i.invariant) (omega (arith, c.if-end-least.false, c.end.ensures))

pub returns-then-end-least : goal.returns-then-end-least
returns-then-end-least c =
    let all : c.loop-i.i ≡ length c.args.running.now = omega (arith, c.loop-i-test.false, c.loop-i.auto.i-end, c.nodes-i-end.ensures.value, c.nodes-i-end.ensures.some, c.requires.running.all) in
    all_known c.args.plan.now c.args.running.now c.args.known.now c.loop-i.node c.loop-i.least c.requires.known
    (subst (λ n. IsLeast c.args.known.now n c.loop-i.node c.loop-i.least) all c.loop-i.invariant) (omega (arith, c.if-end-least.true, c.end.ensures))
