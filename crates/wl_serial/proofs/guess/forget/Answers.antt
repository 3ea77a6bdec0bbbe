-- One place more has heard nothing.
use Rattle.std.proofs.Common.{◌<◌, inl, inr, length, get_or, sym, subst, arith}
use Rattle.std.proofs.Math.ListN.{set}
use Rattle.std.proofs.lemmas.Bool.{cases_eq}
use Rattle.std.proofs.lemmas.List.{get_or-set_other, get_or-set_same}
use Rattle.wl_serial.specs.LineAt.{IsHeard}
use Rattle.wl_serial.proofs.Runners.{line_on}
use Rattle.wl_serial.proofs.guess.forget.Goals as goal

pub loop-j-init : goal.loop-j-init
loop-j-init c = (c.requires.lines, λ rs k d none. absurd (omega (arith, none)))

pub loop-j-preserved : goal.loop-j-preserved
loop-j-preserved c =
    let plan = c.args.plan.now in
    let lines = c.loop-j.lines in
    let j = c.loop-j.j in
    let e = c.new.result in
    let b : j < length lines = omega (arith, c.loop-j-test.true, c.loop-j.invariant.0.all, c.requires.lines.all) in (
      line_on plan j lines e b c.loop-j.invariant.0 c.new.ensures.line,
      λ rs k d h. elim (cases_eq k j) [
        | inl here ↦ subst (λ n. IsHeard plan rs n (get_or (set lines j e) n d)) (sym here) (subst (IsHeard plan rs j) (sym (get_or-set_same lines j e d b)) (c.new.ensures.heard rs))
        | inr other ↦ subst (IsHeard plan rs k) (sym (get_or-set_other lines j k e d other)) (c.loop-j.invariant.1 rs k d (omega (arith, h, other)))
      ],
    )
