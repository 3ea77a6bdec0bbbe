use Rattle.std.proofs.Common.{rules, ◌≡◌, ◌∙◌, sym, ap, subst, IfOk, length, option_map, Option, None, Some, List}
use Rattle.wl_bound.specs.Families.{Buses, family_of}
use Rattle.wl_bound.specs.Oscillators.{Pace}
use Rattle.wl_plan.specs.declared.plan.Plan.{Plan}
use Rattle.wl_settings.specs.Judged.{all_paces, runnable_plan}
use Rattle.wl_settings.specs.Plans.{setting_plan, setting_quantum}
use Rattle.wl_settings.proofs.PlanFamilies.{all_fit, family_from, family_is, one_for_each}
use Rattle.wl_settings.proofs.judged.family_of_setting.Goals as goal

pub returns-in_err-plan : goal.returns-in_err-plan
returns-in_err-plan c = search rules

pub returns-in_default : goal.returns-in_default
returns-in_default c =
    let a = c.args.asked.now in
    let s = c.args.setting in
    let q = setting_quantum a c.args.clock s in
    let none : runnable_plan (setting_plan a c.args.clock s) ≡ None = sym c.in_ok-plan.ensures ∙ c.in_default.is in
    sym (family_is a s q ∙ ap (λ (r : Option Plan). family_from (setting_plan a c.args.clock s) r (all_paces a q)) none)

pub returns-in_err-all : goal.returns-in_err-all
returns-in_err-all c = search rules

pub family_with-requires : goal.family_with-requires
family_with-requires c =
    let a = c.args.asked.now in
    let s = c.args.setting in
    let q = setting_quantum a c.args.clock s in
    let some : runnable_plan (setting_plan a c.args.clock s) ≡ Some c.in-Some.plan = sym c.in_ok-plan.ensures ∙ c.in-Some.is in
    let paces : c.in_ok-all.all ≡ all_paces a q = c.in_ok-all.ensures in
    all_fit c.in_ok-all.all (length c.in-Some.plan.nodes) (λ ps is. one_for_each a s q c.buses_of_plans.ensures c.in-Some.plan ps some (sym paces ∙ is))

pub returns : goal.returns
returns c =
    let a = c.args.asked.now in
    let s = c.args.setting in
    let q = setting_quantum a c.args.clock s in
    let some : runnable_plan (setting_plan a c.args.clock s) ≡ Some c.in-Some.plan = sym c.in_ok-plan.ensures ∙ c.in-Some.is in
    let paces : c.in_ok-all.all ≡ all_paces a q = c.in_ok-all.ensures in
    let whole = family_is a s q ∙ (ap (λ (r : Option Plan). family_from (setting_plan a c.args.clock s) r (all_paces a q)) some
    ∙ ap (λ (ps : Option (List Pace)). option_map (family_of c.in-Some.plan) ps) (sym paces)) in
    subst (λ (f : Option Buses). IfOk c.family_with.result (λ g. g ≡ f)) (sym whole) c.family_with.ensures
