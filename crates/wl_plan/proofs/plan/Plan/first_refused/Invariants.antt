use Rattle.std.proofs.Common.{◌≡◌, ℕ, ◌<◌, false, get_or}
use Rattle.wl_plan.specs.declared.plan.Disturbance.{Disturbance}
use Rattle.wl_plan.specs.Checked.{is_refused}
use Rattle.wl_plan.proofs.plan.Plan.first_refused.Given as goal

abbrev pub invariant-loop-n : goal.invariant-loop-n
invariant-loop-n l = (k : ℕ) (d : Disturbance) → k < l.n → is_refused l.limits l.self (k, get_or l.self.disturbances k d) ≡ false
