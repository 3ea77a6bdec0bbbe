-- What the first line of a margin's text says of the family that it is about.
use Rattle.std.proofs.Common.{◌≡◌, ◌⊎◌, inl, inr, refl, sym, subst, ℕ, List, Option, Some, None}
use Rattle.wl_plan.specs.declared.plan.Plan.{Plan}
use Rattle.wl_setup.specs.declared.bus.Bus.{Bus}
use Rattle.wl_bound.specs.Conditions.{first_failure_of, plain}
use Rattle.wl_bound.specs.Families.{Buses}
use Rattle.wl_bound.specs.Verdicts.{for_any, for_one, unless_outside}
use Rattle.wl_bound.specs.declared.condition.Failure.{Failure}
use Rattle.wl_bound.specs.declared.condition.Senders.TheVariants.{Any, One}
use Rattle.wl_bound.specs.declared.verdict.Outside.{Outside}
use Rattle.wl_bound.specs.declared.verdict.Verdict.{Verdict}
use Rattle.wl_bound.specs.declared.verdict.Verdict.TheVariants.{ForAny, ForOne}
use Rattle.wl_margin.specs.declared.reasons.Asked.{Asked}
use Rattle.wl_margin.specs.declared.reasons.Asked.TheVariants.{ThisPlan, AllNodes}
use Rattle.wl_margin.specs.Margins.{IsFamilyText, IsTextFor, IsTextOfPaces, verdict_asked}
use Rattle.wl_proved.specs.Words.{IsFamilyOf}

-- the text is that of the family
pub family_text : (asked : Asked) (tick : ℕ) (bus : Bus) (f : Buses) (text : List ℕ) → IsFamilyOf asked bus f → IsTextFor asked tick bus text
    → IsFamilyText asked tick bus.deviations bus.plan bus.names f text
family_text asked tick bus f text of is =
    subst (λ g. IsFamilyText asked tick bus.deviations bus.plan bus.names g text) (sym of.2) (subst (λ o. IsTextOfPaces asked tick bus o text) of.1 is)

pub none_outside : (cause : Option Outside) (verdict other : Verdict) → unless_outside cause verdict ≡ other → (other ≡ ForAny) ⊎ (other ≡ ForOne) → cause ≡ None
none_outside None verdict other e is = refl
none_outside (Some cause) verdict other e (inl is) = cc
none_outside (Some cause) verdict other e (inr is) = cc

pub inside_verdict : (cause : Option Outside) (verdict : Verdict) → unless_outside cause verdict ≡ ForAny → verdict ≡ ForAny
inside_verdict None verdict e = e
inside_verdict (Some cause) verdict e = cc

pub none_fails : (any one : Option Failure) → for_any any (for_one one) ≡ ForAny → any ≡ None
none_fails None one e = refl
none_fails (Some failure) None e = cc
none_fails (Some failure) (Some other) e = cc

pub sound_for_any : (asked : Asked) (plan : Plan) (f : Buses) → verdict_asked asked plan f ≡ ForAny → first_failure_of f plain Any ≡ None
sound_for_any ThisPlan plan f e = none_fails (first_failure_of f plain Any) (first_failure_of f plain One) (inside_verdict _ _ e)
sound_for_any AllNodes plan f e = none_fails (first_failure_of f plain Any) (first_failure_of f plain One) (inside_verdict _ _ e)
