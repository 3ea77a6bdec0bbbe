use Rattle.std.proofs.Common.{◌≡◌, ℕ, ◌<◌, length, slice_index_or}
use Rattle.wl_worker.specs.PlanName.{HasWords}
use Rattle.wl_worker.proofs.plan_name.shape_of_plan.Given as goal

abbrev pub invariant-loop-i : goal.invariant-loop-i
invariant-loop-i l = (length l.shape.items ≡ l.i) × ((k : ℕ) → k < l.i → HasWords l.plan k (slice_index_or l.shape.items k (0, 0)))
