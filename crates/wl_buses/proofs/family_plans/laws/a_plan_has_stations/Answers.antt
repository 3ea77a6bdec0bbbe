use Rattle.wl_buses.proofs.FamilyPlans.Standing.{is_bus, is_plan}
use Rattle.wl_buses.proofs.family_plans.laws.a_plan_has_stations.Goals as goal

pub returns : goal.returns
returns c = record {
  plan = λ f plan clocks steady of speak. is_plan f plan clocks of speak steady;
  bus = λ f plan clocks of speak. is_bus f plan clocks of speak;
}
