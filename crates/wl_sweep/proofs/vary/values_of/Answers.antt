use Rattle.std.proofs.Common.{◌≡◌, ◌∙◌, sym, subst, arith, rules, true, false, List, ℤ, Result, SFits, w64}
use Rattle.std.specs.Prelude.{◌&&◌, ◌-ℤ◌, ◌/◌, int_lt, unsigned_abs}
use Rattle.wl_sweep.specs.declared.vary.RangeFault.{RangeFault}
use Rattle.wl_sweep.specs.Vary.{IsRead, few_values, takes}
use Rattle.std.proofs.lemmas.Int.{to_z-of_z}
use Rattle.wl_sweep.proofs.Varied.{values_read}
use Rattle.wl_sweep.proofs.vary.values_of.Goals as goal
use Rattle.wl_sweep.proofs.vary.values_of.Goals.{then-takes, else-takes}

pub returns : goal.returns
returns c =
    let k = c.args.key in
    let ends = c.args.ends in
    let taken : (takes k ends.low && takes k ends.high) ≡ true = first_of (search rules, grind arith) in
    let ordered : int_lt ends.high ends.low ≡ false = first_of (search rules, grind arith) in
    let far : c.abs_diff-distance.result ≡ unsigned_abs (ends.high -ℤ ends.low) = first_of (search rules, grind arith) in
    let d = c.abs_diff-distance.result in
    let step = c.max-step.result in
    let fits : SFits w64 ends.low = first_of (search rules, grind arith) in
    subst (λ (wanted : Result (List ℤ) RangeFault). IsRead wanted c.few_values.result)
    (sym (values_read k ends d c.in_ok-step_of.field-0 step taken ordered far (sym c.step_of.ensures ∙ c.in_ok-step_of.was) c.max-step.ensures))
    (subst (λ (low : ℤ). IsRead (few_values low step (d / step)) c.few_values.result) (to_z-of_z w64 ends.low fits) c.few_values.ensures)
