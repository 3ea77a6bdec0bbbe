-- The family of a setting's plan, by the plan and what its clocks may do.
use Rattle.std.proofs.Common.{◌≡◌, ◌∙◌, refl, ap, subst, IfSome, ℕ, nat_lt, Bool, true, false, List, [], ◌∷◌, length, Option, Some, None, option_map, Result, Ok, Err}
use Rattle.std.specs.List.{enumerate_from}
use Rattle.wl_bound.specs.Families.{Buses, family_of}
use Rattle.wl_bound.specs.Oscillators.{Pace}
use Rattle.wl_margin.proofs.PaceLemmas.{paces-length}
use Rattle.wl_plan.specs.declared.plan.Plan.{Plan}
use Rattle.wl_setup.specs.declared.bus.Bus.{Bus}
use Rattle.wl_setup.specs.declared.bus.Deviation.{Deviation}
use Rattle.wl_setup.specs.declared.fault.SetupFault.{SetupFault}
use Rattle.wl_setup.specs.declared.plan_text.PlanText.{PlanText}
use Rattle.wl_setup.specs.Buses.{BusesAreOfPlans, IsOfPlan, deviation_of}
use Rattle.wl_setup.specs.Names.{names_of}
use Rattle.wl_setup.specs.Plans.{after, each, plan_of_text}
use Rattle.wl_settings.specs.declared.asked.Asked.{Asked}
use Rattle.wl_settings.specs.declared.asked.Setting.{Setting}
use Rattle.wl_apply.specs.declared.chosen.QuantumLength.{QuantumLength}
use Rattle.wl_settings.specs.Judged.{all_paces, deviation_by, deviations_of, family_in, family_of_plan, made_plan, runnable_plan}
use Rattle.wl_settings.specs.Plans.{for_nodes, more_if, node_text, plan_of_quantum}

-- the bus of a text whose plan is known
abbrev bus_by : PlanText → Result Plan SetupFault → Result Bus SetupFault
bus_by p r =
    after r (λ plan. after (each deviation_of (enumerate_from 0 p.node)) (λ deviations. Ok (record { plan = plan; names = names_of p; deviations = deviations })))

-- a plan with its family, or none
abbrev pub family_from : PlanText → Option Plan → Option (List Pace) → Option Buses
family_from p None paces = None
family_from p (Some plan) paces = option_map (family_of plan) paces

some_is : (made plan : Plan) → Some made ≡ Some plan → made ≡ plan
some_is made plan is = cc

module _ (a : Asked) (s : Setting) (q : QuantumLength) where
  -- what the clocks of the nodes may do, as the plan has it
  deviate : (third fourth : Bool) → each deviation_of (enumerate_from 0 (node_text a q s 0 ∷ node_text a q s 1 ∷ more_if third (node_text a q s 2) (more_if fourth (node_text a q s 3) [])))
      ≡ Ok (deviation_by q a.tolerance ∷ deviation_by q a.tolerance ∷ more_if third (deviation_by q a.tolerance) (more_if fourth (deviation_by q a.tolerance) []))
  deviate true true = refl
  deviate true false = refl
  deviate false true = refl
  deviate false false = refl

  all_deviate : each deviation_of (enumerate_from 0 (for_nodes a (node_text a q s))) ≡ Ok (deviations_of a q)
  all_deviate = deviate (nat_lt 2 a.nodes) (nat_lt 3 a.nodes)

  bus_is : (made : Plan) → bus_by (plan_of_quantum a s q) (Ok made) ≡ Ok (record { plan = made; names = names_of (plan_of_quantum a s q); deviations = deviations_of a q })
  bus_is made =
      ap (λ (ds : Result (List Deviation) SetupFault). after ds (λ deviations. Ok (record { plan = made; names = names_of (plan_of_quantum a s q); deviations = deviations })))
      all_deviate

  counted : (r : Result Plan SetupFault) (plan : Plan) → made_plan r ≡ Some plan → IsOfPlan r (bus_by (plan_of_quantum a s q) r) → length (deviations_of a q) ≡ length plan.nodes
  counted (Ok made) plan is law =
      (subst (λ (bus : Result Bus SetupFault). IsOfPlan (Ok made) bus) (bus_is made) law).1 ∙ ap (λ (p : Plan). length p.nodes) (some_is made plan is)
  counted (Err fault) plan is law = cc

  -- as many oscillators as nodes
  pub one_for_each : (law : BusesAreOfPlans) (plan : Plan) (paces : List Pace) → runnable_plan (plan_of_quantum a s q) ≡ Some plan
      → all_paces a q ≡ Some paces → length paces ≡ length plan.nodes
  one_for_each law plan paces is are =
      paces-length (deviations_of a q) paces are
      ∙ counted (plan_of_text (plan_of_quantum a s q)) plan is (law (plan_of_quantum a s q))

  by_answer : (r : Result Plan SetupFault) → family_in (bus_by (plan_of_quantum a s q) r) ≡ family_from (plan_of_quantum a s q) (made_plan r) (all_paces a q)
  by_answer (Ok plan) = ap family_in (bus_is plan)
  by_answer (Err fault) = refl

  pub family_is : family_of_plan (plan_of_quantum a s q) ≡ family_from (plan_of_quantum a s q) (runnable_plan (plan_of_quantum a s q)) (all_paces a q)
  unfolding family_of_plan
  family_is = by_answer (plan_of_text (plan_of_quantum a s q))

pub all_fit : (paces : Option (List Pace)) (n : ℕ) → ((ps : List Pace) → paces ≡ Some ps → length ps ≡ n) → IfSome paces (λ ps. length ps ≡ n)
all_fit None n fit = tt
all_fit (Some ps) n fit = fit ps refl
