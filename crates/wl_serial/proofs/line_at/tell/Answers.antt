-- Each line in turn is told: what it heard stays up to the tick at which the change comes there.
use Rattle.std.proofs.Common.{◌<◌, length, arith}
use Rattle.std.proofs.Math.ListN.{set}
use Rattle.wl_serial.proofs.Expected.{line_told, heard_told}
use Rattle.wl_serial.proofs.Hearing.{told_one_more}
use Rattle.wl_serial.proofs.Runners.{line_on}
use Rattle.wl_serial.proofs.line_at.tell.Goals as goal

pub loop-m-init : goal.loop-m-init
loop-m-init c = (c.requires.lines, λ rs r inside are changed k d b. ((λ none. absurd (omega (arith, none))), (λ later. are k d b)))

pub loop-m-preserved : goal.loop-m-preserved
loop-m-preserved c =
    let plan = c.args.plan.now in
    let m = c.loop-m.m in
    let lines = c.loop-m.lines in
    let b : m < length lines = omega (arith, c.loop-m-test.true, c.loop-m.invariant.0.all, c.requires.lines.all) in
    let e = c.expect.new.self in
    let is = c.expect.ensures in (
      line_on plan m lines e b c.loop-m.invariant.0
          (line_told plan m c.args.i c.args.tick _ e c.requires.node (c.loop-m.invariant.0.each m _ b) is.delays is.others is.disturbance is.sources),
      λ rs r inside are changed.
          let told = c.loop-m.invariant.1 rs r inside are changed in
          told_one_more plan rs (set rs c.args.i r) lines m e b told
          (heard_told plan rs m c.args.i c.args.tick r _ e c.table_laws.ensures c.requires.node inside changed (c.loop-m.invariant.0.each m _ b) ((told m _ b).1 (omega arith)) is.from is.few is.comes
          is.dominant is.disturbance is.sources),
    )

pub returns-clause-heard : goal.returns-clause-heard
returns-clause-heard c rs r inside are changed k d b =
    (c.loop-m.invariant.1 rs r inside are changed k d b).0 (omega (arith, b, c.loop-m-test.false, c.loop-m.auto.m-end, c.loop-m.invariant.0.all, c.requires.lines.all))
