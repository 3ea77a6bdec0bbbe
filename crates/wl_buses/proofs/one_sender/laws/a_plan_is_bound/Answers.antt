use Rattle.wl_buses.specs.BothProofs.Queues.{decides_at, wakes_at}
use Rattle.wl_plan.specs.PlanLine.{setup_at}
use Rattle.wl_buses.proofs.OneSender.Cleaning.{is_bound}
use Rattle.wl_buses.proofs.one_sender.laws.a_plan_is_bound.Goals as goal

pub returns : goal.returns
returns c = λ f plan clocks sender one stuffed steady of.
    is_bound f plan clocks sender one stuffed steady of
    (c.a_plan_is_such_a_bus.ensures.bus plan clocks steady sender one.inside one.frame (stuffed one.frame)
    (decides_at (setup_at plan sender).segments (wakes_at (setup_at plan sender) (setup_at plan sender).queue)))
