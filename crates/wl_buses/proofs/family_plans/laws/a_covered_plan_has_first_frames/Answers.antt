use Rattle.std.proofs.Common.{refl}
use Rattle.wl_buses.specs.FamilyPlans.FamilyStations.{stations_of}
use Rattle.wl_buses.proofs.FamilyPlans.Waiting.{frames, idle, sends, speaks}
use Rattle.wl_buses.proofs.family_plans.laws.a_covered_plan_has_first_frames.Goals as goal

pub returns : goal.returns
returns c = record {
  speaks = λ plan covered. speaks plan covered;
  sends = λ plan paces e. sends plan paces e;
  frames = λ f plan clocks none are send. frames f plan clocks none are send;
  idle = λ plan s covered count. idle plan covered s count;
  first = λ f plan clocks steady of covered none are send.
      c.a_plan_has_a_first_frame.ensures.ready plan _ (stations_of f plan clocks)
      (c.a_plan_has_stations.ensures.plan f plan clocks steady of (speaks plan covered)) (frames f plan clocks none are send)
      (idle plan covered (stations_of f plan clocks) refl);
}
