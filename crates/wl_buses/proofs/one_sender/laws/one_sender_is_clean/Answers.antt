use Rattle.wl_buses.specs.OneSender.Clean.{bus_with, tolerance_of}
use Rattle.wl_buses.specs.BothProofs.Queues.{decides_at, wakes_at}
use Rattle.wl_buses.specs.OneSender.OneSender.{IsBus}
use Rattle.wl_bound.specs.Senders.{lone_sender}
use Rattle.wl_bound.specs.Families.{bus_of}
use Rattle.wl_plan.specs.PlanLine.{setup_at}
use Rattle.wl_buses.proofs.OneSender.Cleaning.{is_bound, sends, within}
use Rattle.wl_buses.proofs.one_sender.laws.one_sender_is_clean.Goals as goal

pub returns : goal.returns
returns c = λ f plan clocks sender one stuffed lengths steady of frames sound.
    let is : IsBus (bus_with plan clocks sender one stuffed) =
    c.a_plan_is_such_a_bus.ensures.bus plan clocks steady sender one.inside one.frame (stuffed one.frame)
    (decides_at (setup_at plan sender).segments (wakes_at (setup_at plan sender) (setup_at plan sender).queue)) in
    c.tolerances_are_enough.ensures.through (tolerance_of f) (bus_with plan clocks sender one stuffed) stuffed lengths is (sends f plan clocks sender one stuffed steady of is lengths frames) frames
    (within f plan clocks sender one stuffed steady of is)
    (c.a_sound_bus_fits.ensures (bus_of f (lone_sender sender)) (tolerance_of f) (bus_with plan clocks sender one stuffed) is (is_bound f plan clocks sender one stuffed steady of is) sound)
