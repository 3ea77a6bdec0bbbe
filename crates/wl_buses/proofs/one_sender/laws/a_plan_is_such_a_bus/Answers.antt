use Rattle.wl_buses.specs.OneSender.Plans.{sender_bus_of}
use Rattle.wl_buses.proofs.OneSender.PlanProofs.{plan_is_bus}
use Rattle.wl_buses.proofs.one_sender.laws.a_plan_is_such_a_bus.Goals as goal

pub returns : goal.returns
returns c = record {
  bus = λ plan clocks is sender inside frame stuffed decides. plan_is_bus c.checked_is_sound.ensures plan clocks is sender inside frame stuffed decides;
  acknowledged = λ plan clocks is sender inside frame stuffed decides sends meets ends.
      c.the_first_frame_is_acknowledged.ensures (sender_bus_of plan clocks sender frame stuffed decides)
      (plan_is_bus c.checked_is_sound.ensures plan clocks is sender inside frame stuffed decides) sends meets ends;
  through = λ plan clocks is sender inside frame first decides stuffed lengths sends frames meets slots.
      c.every_frame_gets_through.ensures (sender_bus_of plan clocks sender frame first decides) stuffed lengths
      (plan_is_bus c.checked_is_sound.ensures plan clocks is sender inside frame first decides) sends frames meets slots;
}
