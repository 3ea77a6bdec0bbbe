use Rattle.wl_bound.specs.Rooms.{plain_bus}
use Rattle.wl_buses.proofs.FamilyPlans.Roomy.{answers, rests}
use Rattle.wl_buses.proofs.family_plans.laws.a_family_leaves_room.Goals as goal

pub returns : goal.returns
returns c = record {
  answers = λ f leaves. answers (plain_bus f) (c.room_law.ensures f leaves);
  rests = λ f leaves. rests (plain_bus f) (c.room_law.ensures f leaves);
}
