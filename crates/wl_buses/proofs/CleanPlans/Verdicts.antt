-- What it means that the verdict on a plan is for any senders.
use Rattle.std.proofs.Common.{◌≡◌, refl, Option, Some, None}
use Rattle.wl_plan.specs.declared.plan.Plan.{Plan}
use Rattle.wl_bound.specs.Conditions.{first_failure_of, plain}
use Rattle.wl_bound.specs.Families.{Buses}
use Rattle.wl_bound.specs.Verdicts.{for_any, for_one, outside_of, unless_outside, verdict_of}
use Rattle.wl_bound.specs.declared.condition.Failure.{Failure}
use Rattle.wl_bound.specs.declared.condition.Senders.TheVariants.{Any, One}
use Rattle.wl_bound.specs.declared.verdict.Outside.{Outside}
use Rattle.wl_bound.specs.declared.verdict.Verdict.{Verdict}
use Rattle.wl_bound.specs.declared.verdict.Verdict.TheVariants.{ForAny}

none_outside : (cause : Option Outside) (verdict : Verdict) → unless_outside cause verdict ≡ ForAny → (cause ≡ None) × (verdict ≡ ForAny)
none_outside None verdict e = (refl, e)
none_outside (Some cause) verdict e = cc

none_fails : (any one : Option Failure) → for_any any (for_one one) ≡ ForAny → any ≡ None
none_fails None one e = refl
none_fails (Some failure) None e = cc
none_fails (Some failure) (Some other) e = cc

-- the condition has no cause to say nothing, and doesn't fail for any senders
pub of_verdict : (plan : Plan) (f : Buses) → verdict_of plan f ≡ ForAny → (outside_of plan ≡ None) × (first_failure_of f plain Any ≡ None)
of_verdict plan f e =
    let x = none_outside (outside_of plan) (for_any (first_failure_of f plain Any) (for_one (first_failure_of f plain One))) e in
    (x.0, none_fails (first_failure_of f plain Any) (first_failure_of f plain One) x.1)
