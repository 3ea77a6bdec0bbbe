use Rattle.wl_buses.proofs.CleanLines.Beginning.{first_frames}
use Rattle.wl_buses.proofs.clean_lines.laws.the_frames_of_a_line.Goals as goal

pub returns : goal.returns
returns c = λ setups w chase most are room enough idle hand queues.
    first_frames c.resting_stations_begin_the_next_frame.ensures.outset c.stations_rest_after_a_frame.ensures.rest c.stations_rest_after_a_frame.ensures.free c.another_frame_follows.ensures.first
    c.the_winner_sends_its_next_frame.ensures.next c.the_winner_sends_its_next_frame.ensures.first c.idle_stations_begin_a_first_frame.ensures.outset setups w are room chase enough idle hand queues most
