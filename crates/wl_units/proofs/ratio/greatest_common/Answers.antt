use Rattle.std.proofs.Common.{◌≡◌, ◌∙◌, ◌-◌, sym, ap, arith, rules}
use Rattle.std.proofs.lemmas.Bool.Decides.{nat_tests}
use Rattle.wl_units.specs.Ratios.{euclid}
use Rattle.wl_units.proofs.Steps.{at_end, none_left, one_more}
use Rattle.wl_units.proofs.ratio.greatest_common.Goals as goal

pub returns-then-b-eq0 : goal.returns-then-b-eq0
returns-then-b-eq0 c =
    let none : c.loop-step.b ≡ 0 = grind (arith, nat_tests) in
    sym (at_end (200 - c.loop-step._step) c.loop-step.a) ∙ ap (λ b. euclid (200 - c.loop-step._step) c.loop-step.a b) (sym none) ∙ c.loop-step.invariant

pub loop-step-preserved : goal.loop-step-preserved
loop-step-preserved c =
    sym (one_more c.loop-step._step c.loop-step.a c.loop-step.b (grind (arith, nat_tests)) (search rules)) ∙ c.loop-step.invariant

pub returns : goal.returns
returns c =
    sym (none_left c.loop-step._step c.loop-step.a c.loop-step.b (grind (arith, nat_tests))) ∙ c.loop-step.invariant
