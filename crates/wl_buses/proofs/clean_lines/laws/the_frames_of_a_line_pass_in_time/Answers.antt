use Rattle.wl_buses.proofs.FrameTimes.Passing.{passed_by}
use Rattle.wl_buses.proofs.clean_lines.laws.the_frames_of_a_line_pass_in_time.Goals as goal

pub returns : goal.returns
returns c = λ l setups w t are room take all i k n inside early less late.
    all.in_time i k n inside early less
    (passed_by c.a_frame_lasts_no_longer.ensures.passes c.times_add_up.ensures.later w.stations (all.bus.frames n) t are room (all.bus.are.each n less) take (all.bus.by.winner n) i k
    (all.bus.by.wins n less) inside late)
