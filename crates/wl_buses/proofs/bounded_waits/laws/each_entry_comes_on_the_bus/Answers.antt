use Rattle.wl_counts.specs.Counts.{sum_below}
use Rattle.wl_plan.specs.PlanLine.{setup_at}
use Rattle.wl_buses.specs.FirstFrame.FirstFrames.{queues_of}
use Rattle.wl_buses.specs.BoundedWaits.Messages.{entries}
use Rattle.wl_buses.proofs.BoundedWaits.Entries.{as_line, each_entry}
use Rattle.wl_buses.proofs.BoundedWaits.Ordering.{are_handed}
use Rattle.wl_buses.proofs.bounded_waits.laws.each_entry_comes_on_the_bus.Goals as goal

pub returns : goal.returns
returns c = λ plan s chase of are room for_all has.
    (let x = c.the_frames_of_a_plan.ensures plan s chase (sum_below (entries (setup_at plan)) s.count) of are room for_all has in (
      x.bus,
      each_entry plan s x
          (are_handed c.the_winner_sends_its_next_frame.ensures.first c.the_winner_sends_its_next_frame.ensures.queued (setup_at plan) s (as_line plan s x.bus) are room
          (c.a_plan_has_a_first_frame.ensures.idle plan (queues_of plan) s of has) (λ i inside. of.lengths i inside)),
    ))
