use Rattle.std.proofs.Common.{◌≡◌, ◌∙◌, ◌⊎◌, inl, inr, refl, sym, subst, ℕ, List, true, false, Option, Some, None}
use Rattle.std.proofs.lemmas.Bool.{and_parts, not-true}
use Rattle.std.specs.Option.{is_some}
use Rattle.wl_setup.specs.declared.bus.Bus.{Bus}
use Rattle.wl_bound.specs.Conditions.{first_failure_of, plain}
use Rattle.wl_bound.specs.Families.{Buses}
use Rattle.wl_bound.specs.Verdicts.{outside_of, verdict_of}
use Rattle.wl_bound.specs.declared.condition.Failure.{Failure}
use Rattle.wl_bound.specs.declared.condition.Senders.TheVariants.{One}
use Rattle.wl_margin.specs.declared.reasons.Asked.TheVariants.{ThisPlan}
use Rattle.wl_margin.specs.Margins.{IsFamilyText, is_law_abiding}
use Rattle.wl_margin.specs.Paces.{first_stray, keep_pace}
use Rattle.wl_margin.proofs.Callers.{paces-length}
use Rattle.wl_proved.specs.PlansOfFamily.{IsPlanOfFamily}
use Rattle.wl_proved.specs.Words.{IsProvedForAny, IsProvedForOne}
use Rattle.wl_proved.proofs.Members.{own_plan}
use Rattle.wl_proved.proofs.Said.{family_text, none_outside, sound_for_any}
use Rattle.wl_proved.proofs.Texts.{any_tested, one_tested}
use Rattle.wl_proved.proofs.laws.proved_means_clean.Goals as goal

is_none_of : (o : Option Failure) → is_some o ≡ false → o ≡ None
is_none_of None h = refl
is_none_of (Some k) h = cc

pub returns-clause-any : goal.returns-clause-any
returns-clause-any c = λ asked tick bus f text of is said plan of_family.
    (let x = any_tested asked tick bus.deviations bus.plan bus.names f text (family_text asked tick bus f text of is) said in
    c.plans_of_a_family_run_clean.ensures.any f plan of_family (sound_for_any asked bus.plan f x.1) (and_parts _ _ x.2).1)

pub returns-clause-any_in_time : goal.returns-clause-any_in_time
returns-clause-any_in_time c = λ asked tick bus f text of is said plan of_family late.
    (let x = any_tested asked tick bus.deviations bus.plan bus.names f text (family_text asked tick bus f text of is) said in
    let sound = sound_for_any asked bus.plan f x.1 in
    let room = (and_parts _ _ x.2).1 in
    (c.plans_of_a_family_run_clean.ensures.any f plan of_family sound room).verdict (c.a_late_end_leaves_no_frame.ensures.any f plan of_family sound room late))

pub returns-clause-one : goal.returns-clause-one
returns-clause-one c = λ asked tick bus f text of is said plan sender of_family alone.
    (let x = one_tested asked tick bus.deviations bus.plan bus.names f text (family_text asked tick bus f text of is) said in
    c.plans_of_a_family_run_clean.ensures.one f plan sender of_family alone (is_none_of (first_failure_of f plain One) (not-true _ (and_parts _ _ x.2).1)))

pub returns-clause-one_in_time : goal.returns-clause-one_in_time
returns-clause-one_in_time c = λ asked tick bus f text of is said plan sender of_family alone late.
    (let x = one_tested asked tick bus.deviations bus.plan bus.names f text (family_text asked tick bus f text of is) said in
    let sound = is_none_of (first_failure_of f plain One) (not-true _ (and_parts _ _ x.2).1) in
    (c.plans_of_a_family_run_clean.ensures.one f plan sender of_family alone sound).verdict (c.a_late_end_leaves_no_frame.ensures.one f plan sender of_family alone sound late))

-- what the plan itself has passed
record HasPassed (bus : Bus) (f : Buses) : Type 0 where
  pace : first_stray bus.deviations bus.plan f ≡ None
  inside : outside_of bus.plan ≡ None
  abiding : is_law_abiding ThisPlan bus.deviations bus.plan ≡ true

passed : (tick : ℕ) (bus : Bus) (f : Buses) (text : List ℕ) → IsFamilyText ThisPlan tick bus.deviations bus.plan bus.names f text
    → IsProvedForAny f bus.names text ⊎ IsProvedForOne f bus.names text → HasPassed bus f
passed tick bus f text is (inl said) =
    (let x = any_tested ThisPlan tick bus.deviations bus.plan bus.names f text is said in record {
      pace = x.0;
      inside = none_outside (outside_of bus.plan) _ (verdict_of bus.plan f) refl (inl x.1);
      abiding = (and_parts _ _ x.2).0;
    })
passed tick bus f text is (inr said) =
    (let x = one_tested ThisPlan tick bus.deviations bus.plan bus.names f text is said in record {
      pace = x.0;
      inside = none_outside (outside_of bus.plan) _ (verdict_of bus.plan f) refl x.1;
      abiding = (and_parts _ _ x.2).0;
    })

pub returns-clause-own : goal.returns-clause-own
returns-clause-own c = λ tick bus f text of is said runs count.
    (let x = passed tick bus f text (family_text ThisPlan tick bus f text of is) said in
    let abiding = and_parts _ _ x.abiding in
    let paces = c.clocks_keep_pace.ensures bus.deviations bus.plan f x.pace (not-true _ abiding.0) in
    subst (λ g. IsPlanOfFamily g bus.plan) (sym of.2)
    (own_plan bus.plan of.0 (paces-length bus.deviations of.0 of.1 ∙ count) runs (subst (λ g. keep_pace bus.plan g ≡ true) of.2 paces) abiding.1 x.inside))
