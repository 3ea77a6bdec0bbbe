use Rattle.std.proofs.Common.{◌≡◌, ap, ◌*◌, arith}
use Rattle.wl_segments.specs.Lengths.{bit_quanta}
use Rattle.wl_buses.specs.FrameTimes.Times.{start_place, frame_time, following_place}
use Rattle.wl_buses.proofs.FrameTimes.Following.{begins_by_due, first_by_due, winner_has}
use Rattle.wl_buses.proofs.frame_times.laws.the_next_frame_begins_in_time.Goals as goal

pub returns-clause-place : goal.returns-clause-place
returns-clause-place c = begins_by_due

pub returns-clause-winner : goal.returns-clause-winner
returns-clause-winner c = λ s a b t are room is wins next take now.
    (let due = begins_by_due s a b next wins.won.station (winner_has s a b next wins) in
    let none : next.decides wins.won.station * bit_quanta (s.lengths wins.won.station) ≡ 0 * bit_quanta (s.lengths wins.won.station) = ap (λ n. n * bit_quanta (s.lengths wins.won.station)) now in
    c.times_add_up.ensures.earlier s t (frame_time t a.bits) wins.won.station (start_place s b wins.won.station) (following_place s a wins.won.station) is.won.station (start_place s a is.won.station) (omega arith)
    (c.a_frame_lasts_no_longer.ensures.next s a t are room is take wins.won.station wins.won.inside))

pub returns-clause-first : goal.returns-clause-first
returns-clause-first c = first_by_due
