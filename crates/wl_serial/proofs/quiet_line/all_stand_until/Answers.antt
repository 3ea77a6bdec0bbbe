-- One node more stands, and the others do up to an earlier tick too.
use Rattle.std.proofs.Common.{◌<◌, ◌∙◌, inl, inr, length, get_or, sym, subst, arith}
use Rattle.std.proofs.lemmas.Bool.{cases_eq}
use Rattle.std.proofs.lemmas.List.{get_or_default}
use Rattle.wl_serial.specs.QuietLine.{NodeStands}
use Rattle.wl_serial.proofs.Resting.{stands_less}
use Rattle.wl_serial.proofs.Runners.{stands_at}
use Rattle.wl_serial.proofs.quiet_line.all_stand_until.Goals as goal

pub stands_until-requires-clause-running : goal.stands_until-requires-clause-running
stands_until-requires-clause-running c =
    stands_at c.args.plan.now c.args.running.now c.loop-i.i c.index-running-i.result c.loop-i-test.true c.index-running-i.is c.requires.running

pub loop-i-preserved : goal.loop-i-preserved
loop-i-preserved c =
    let plan = c.args.plan.now in
    let rs = c.args.running.now in
    let i = c.loop-i.i in
    let here : i < length rs = c.loop-i-test.true in
    let min = c.min-until.ensures in (
      λ some k d b. elim (cases_eq k i) [
        | inl own ↦
            subst (λ n. NodeStands plan c.min-until.result n (get_or rs n d)) (sym own)
            (stands_less plan c.min-until.result c.stands_until.result i (get_or rs i d) (omega (arith, min))
            (subst (NodeStands plan c.stands_until.result i) (c.index-running-i.is ∙ get_or_default rs i c.index-running-i.result d here) (c.stands_until.ensures (omega (arith, some, min)))))
        | inr other ↦
            stands_less plan c.min-until.result c.loop-i.until k (get_or rs k d) (omega (arith, min)) (c.loop-i.invariant.0 (omega (arith, some, min)) k d (omega (arith, b, other)))
      ],
      omega (arith, min, c.loop-i.invariant.1),
    )
