use Rattle.std.proofs.Common.{◌≡◌, ◌∙◌, ℕ, suc, ◌+◌, ◌||◌, Bool, sym, ap, arith}
use Rattle.std.specs.Result.{is_err}
use Rattle.wl_topology.specs.Driven.{any_below}
use Rattle.wl_bound.specs.Families.{changed}
use Rattle.wl_bound.specs.Helps.{is_refused_at}
use Rattle.wl_bound.proofs.family.Family.is_possible.Goals as goal
use Rattle.wl_bound.proofs.family.Family.is_possible.Goals.{then-refused, else-refused}

-- one node more
next : (p : ℕ → Bool) (i : ℕ) (old new : Bool) → old ≡ any_below i p → new ≡ (old || p i) → new ≡ any_below (i + 1) p
next p i old new before is =
    let step : suc i ≡ i + 1 = omega arith in
    is ∙ ap (λ b. b || p i) before ∙ ap (λ n. any_below n p) step

pub loop-i-preserved : goal.loop-i-preserved
loop-i-preserved c = elim c.if-refused.branch [
  | then-refused w ↦
      next (is_refused_at c.args.self.now c.args.change) c.loop-i.i c.loop-i.refused c.if-refused.refused c.loop-i.invariant
      (w.refused-is ∙ w.if-refused.true ∙ sym (ap (λ b. b || is_refused_at c.args.self.now c.args.change c.loop-i.i) w.if-refused.true))
  | else-refused w ↦
      next (is_refused_at c.args.self.now c.args.change) c.loop-i.i c.loop-i.refused c.if-refused.refused c.loop-i.invariant
      (w.refused-is ∙ (w.is_err-refused.ensures.value ∙ (ap is_err w.of.ensures ∙ ap (λ m. is_err (changed c.args.change m.segments)) w.member.ensures))
      ∙ sym (ap (λ b. b || is_refused_at c.args.self.now c.args.change c.loop-i.i) w.if-refused.false))
]
