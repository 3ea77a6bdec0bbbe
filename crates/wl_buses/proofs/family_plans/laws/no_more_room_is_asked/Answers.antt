use Rattle.wl_buses.proofs.FamilyPlans.Least.{passes}
use Rattle.wl_buses.proofs.family_plans.laws.no_more_room_is_asked.Goals as goal

pub returns : goal.returns
returns c = λ f chase short has rests. passes f chase short has rests
