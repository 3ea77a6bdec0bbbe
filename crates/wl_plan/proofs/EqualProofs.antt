-- A test of two plans that is `same_plan` tells whether they are equal.
use Rattle.std.proofs.Common.{◌≡◌, ◌∙◌, ◌↔◌, Bool, IsTrue, sym}
use Rattle.wl_plan.specs.declared.plan.Plan.{Plan}
use Rattle.wl_plan.specs.Same.{same_plan, plan_decides}

pub tells_equal : (a b : Plan) (x : Bool) → x ≡ same_plan a b → IsTrue x ↔ (a ≡ b)
tells_equal a b x e = (λ h. (plan_decides a b).0 (sym e ∙ h), λ p. e ∙ (plan_decides a b).1 p)
