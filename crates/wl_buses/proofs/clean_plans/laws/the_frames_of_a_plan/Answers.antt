use Rattle.std.proofs.Common.{refl}
use Rattle.wl_plan.specs.PlanLine.{setup_at}
use Rattle.wl_buses.specs.FirstFrame.FirstFrames.{queues_of, waiting_of}
use Rattle.wl_buses.proofs.clean_plans.laws.the_frames_of_a_plan.Goals as goal

pub returns : goal.returns
returns c = λ plan s chase most of are room enough has.
    (let x = c.the_frames_of_a_line.ensures (setup_at plan) (waiting_of plan (queues_of plan) s) chase most are room enough (c.a_plan_has_a_first_frame.ensures.idle plan (queues_of plan) s of has)
    (c.a_plan_has_a_first_frame.ensures.hands plan (queues_of plan) s of has.has.begin) (λ i. refl) in record {
      bus = record { frames = x.bus.frames; count = x.bus.count; some = x.bus.some; are = x.bus.are; first = x.bus.first; by = x.bus.by };
      ends = x.ends;
    })
