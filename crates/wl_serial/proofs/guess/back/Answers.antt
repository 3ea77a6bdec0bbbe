-- One node more is back.
use Rattle.std.proofs.Common.{◌≢◌, ◌∙◌, ◌<◌, length, get_or, refl, sym, subst, arith}
use Rattle.std.proofs.Math.ListN.{length-set}
use Rattle.std.proofs.lemmas.List.{get_or_default, get_or-set_other}
use Rattle.wl_node.specs.Marks.{HasPassed}
use Rattle.wl_serial.specs.Guess.{IsBefore}
use Rattle.wl_serial.specs.Running.{IsLater}
use Rattle.wl_serial.proofs.Back.{back_more}
use Rattle.wl_serial.proofs.guess.back.Goals as goal

pub back-requires : goal.back-requires
back-requires c =
    let i = c.loop-i.i in
    let b : i < length c.args.running.now = omega (arith, c.loop-i-test.true, c.loop-i.invariant.0) in
    let d = c.index-running-i.result in
    let e = c.index-marks-i.result in
    subst (λ x. HasPassed x.mark (get_or c.loop-i.running i d).node) (sym c.index-marks-i.is)
    (subst (λ r. HasPassed (get_or c.args.marks.now i e).mark r.node) (sym (c.loop-i.invariant.2 i d (omega arith))) (c.requires.each i d e b))

pub loop-i-init : goal.loop-i-init
loop-i-init c = (refl, (λ rs before later k d none inside. absurd (omega (arith, none))), (λ k d more. refl))

pub loop-i-preserved : goal.loop-i-preserved
loop-i-preserved c =
    let i = c.loop-i.i in
    let xs = c.loop-i.running in
    let h = c.loop-i.invariant in
    let r = c.back.new.self in
    let b : i < length xs = omega (arith, c.loop-i-test.true, h.0) in
    let m : i < length c.args.marks.now = omega (arith, c.loop-i-test.true, c.requires.all) in
    let x = c.index-running-i.result in
    let e = c.index-marks-i.result in (
      length-set xs i r ∙ h.0,
      (λ rs before later k d c_in inside.
          back_more rs xs i r b (h.1 rs before later)
          (λ f there.
          c.in_ok-back.ensures (get_or rs i f)
          (subst (IsBefore (get_or rs i f)) (sym c.index-marks-i.is) (before.each i f e there))
          (subst (IsLater (get_or rs i f)) (sym (h.2 i f (omega arith)) ∙ get_or_default xs i f x b) (later.each i f there)))
          k d c_in inside),
      (λ k d more. get_or-set_other xs i k r d (let ne : k ≢ i = omega (arith, more) in ne) ∙ h.2 k d (omega (arith, more))),
    )
