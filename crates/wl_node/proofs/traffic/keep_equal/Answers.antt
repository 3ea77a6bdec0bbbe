-- One sample more that the machine only keeps, or the end.
use Rattle.std.proofs.Common.{suc, ◌+◌, ◌-◌, ◌*◌, ◌≡◌, subst, arith}
use Rattle.wl_node.specs.KeptBits.{HasKept}
use Rattle.wl_node.proofs.KeptBits.{kept_more}
use Rattle.wl_node.proofs.traffic.keep_equal.Goals as goal

pub loop-end-preserved : goal.loop-end-preserved
loop-end-preserved c =
    let k = c.loop-end.bits in
    let e : suc k ≡ k + 1 = omega arith in
    let b : (k + 1) * c.args.bit ≡ k * c.args.bit + c.args.bit = omega arith in
    let l : k + 1 - 1 ≡ k = omega arith in (
      subst (λ n. HasKept c.args.level n c.args.machine.now c.keep.new.self) e
          (kept_more c.args.level k c.args.machine.now c.loop-end.machine c.keep.new.self c.loop-end.invariant.0 (record {
            machine = c.keep.ensures.machine c.if-not-keep.false;
            judged = c.keep.ensures.judged c.if-not-keep.false;
            before = c.keep.ensures.before c.if-not-keep.false;
            after = c.keep.ensures.after c.if-not-keep.false;
          })),
      (let i = c.loop-end.invariant.1 in omega (arith, i, b)),
      λ some. (let i = c.loop-end.invariant.1 in let t = c.loop-end-test.true in rw l (omega (arith, i, t))),
    )
