-- Records are true of a plan where the test says so of each.
use Rattle.std.proofs.Common.{◌≡◌, ◌&&◌, Bool, true, false, List, [], ◌∷◌, refl, sym, subst}
use Rattle.std.specs.Cmp.Derive.{both_true}
use Rattle.wl_record_core.specs.declared.record.Record.{Record}
use Rattle.wl_plan.specs.declared.plan.Plan.{Plan}
use Rattle.wl_plan.specs.PlanLine.{TestOfTruth, is_true_of_plan}
use Rattle.wl_mail.specs.Truth.{AreTrueOfPlan, are_true_of_plan}

first_of : (b c : Bool) → (b && c) ≡ true → b ≡ true
first_of true c e = refl
first_of false c e = e

second_of : (b c : Bool) → (b && c) ≡ true → c ≡ true
second_of true c e = e
second_of false true e = refl
second_of false false e = e

pub tests_pass : TestOfTruth → (plan : Plan) (rs : List Record) → AreTrueOfPlan plan rs → are_true_of_plan plan rs ≡ true
tests_pass law plan [] h = refl
tests_pass law plan (r ∷ rs) h = both_true ((law plan r).1 h.0) (tests_pass law plan rs h.1)

truth_told : TestOfTruth → (plan : Plan) (rs : List Record) → are_true_of_plan plan rs ≡ true → AreTrueOfPlan plan rs
truth_told law plan [] e = tt
truth_told law plan (r ∷ rs) e =
    ((law plan r).0 (first_of (is_true_of_plan plan r) (are_true_of_plan plan rs) e), truth_told law plan rs (second_of (is_true_of_plan plan r) (are_true_of_plan plan rs) e))

-- records that pass the tests of a plan are true of an equal one
pub truth_of_tests : TestOfTruth → (plan other : Plan) (rs qs : List Record) → are_true_of_plan plan rs ≡ true → plan ≡ other → qs ≡ rs → AreTrueOfPlan other qs
truth_of_tests law plan other rs qs e same copied =
    subst (λ p. AreTrueOfPlan p qs) same (subst (AreTrueOfPlan plan) (sym copied) (truth_told law plan rs e))
