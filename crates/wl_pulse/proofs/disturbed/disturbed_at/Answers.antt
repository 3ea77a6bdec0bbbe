-- One disturbance more.
use Rattle.std.proofs.Common.{◌≡◌, ◌∙◌, ◌+◌, ◌<◌, ◌||◌, ℕ, Bool, List, length, take, get_or, arith}
use Rattle.std.specs.List.{list_any}
use Rattle.std.proofs.lemmas.List.Folds.{list_any_more}
use Rattle.wl_plan.specs.PlanLine.{is_at}
use Rattle.wl_pulse.proofs.disturbed.disturbed_at.Goals as goal

one_more : {X : Type 0} (p : X → Bool) (xs items : List X) (i : ℕ) (d : X) → items ≡ xs → i < length items
    → list_any p (take (i + 1) xs) ≡ (list_any p (take i xs) || p (get_or items i d))
one_more p xs items i d same here = rw (← same) (list_any_more p items i d here)

pub loop-d-preserved : goal.loop-d-preserved
loop-d-preserved c =
    let at = is_at c.args.plan.now c.args.j in
    record {
      from = c.with_disturbance-pulse.ensures.from ∙ c.loop-d.invariant.from;
      until = omega arith;
      dominant = λ u from until. one_more (at u) _ _ c.loop-d.d-index _ c.as_slice-d-items.ensures c.loop-d-test.true
          ∙ c.with_disturbance-pulse.ensures.dominant (λ t. list_any (at t) (take c.loop-d.d-index c.args.plan.now.disturbances)) c.loop-d.invariant.dominant u from until;
    }
