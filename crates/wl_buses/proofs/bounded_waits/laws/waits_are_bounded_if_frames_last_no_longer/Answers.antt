use Rattle.wl_plan.specs.PlanLine.{setup_at}
use Rattle.wl_buses.specs.FirstFrame.FirstFrames.{queues_of}
use Rattle.wl_buses.proofs.BoundedWaits.Entries.{as_line}
use Rattle.wl_buses.proofs.BoundedWaits.Ordering.{are_handed, hands_with}
use Rattle.wl_buses.proofs.BoundedWaits.Waits.{wait_no_longer}
use Rattle.wl_buses.proofs.bounded_waits.laws.waits_are_bounded_if_frames_last_no_longer.Goals as goal

pub returns : goal.returns
returns c = λ plan s bus t ms d chase blocking whole r w of are room for_all decide has lasts passes have late delays blocks enough.
    (let idle = c.a_plan_has_a_first_frame.ensures.idle plan (queues_of plan) s of has in
    wait_no_longer (setup_at plan) s (as_line plan s bus) t ms d (λ i inside. of.lengths i inside) are room idle late have delays
    (hands_with (setup_at plan) s (λ i inside. of.lengths i inside) are)
    (are_handed c.the_winner_sends_its_next_frame.ensures.first c.the_winner_sends_its_next_frame.ensures.queued (setup_at plan) s (as_line plan s bus) are room idle (λ i inside. of.lengths i inside))
    (record { first = c.who_loses_has_begun_with_its_next_frame.ensures.first; next = c.who_loses_has_begun_with_its_next_frame.ensures.next })
    (λ s a b are room was next. c.stations_rest_after_a_frame.ensures.rest s a.outset a.bits was.chase next.which next.decides are room was.outset was.ends was.won was.answer was.room next.more)
    c.who_is_ready_takes_part.ensures.ready c.who_is_ready_takes_part.ensures.next c.who_is_ready_takes_part.ensures.first chase for_all decide c.nobody_decides_twice.ensures
    (record { own = c.a_frame_begins_before_later_ones.ensures.own; other = c.a_frame_begins_before_later_ones.ensures.other }) lasts passes c.periods_give_a_curve.ensures
    c.no_frame_waits_longer_by_instances.ensures blocking whole r w blocks enough)
