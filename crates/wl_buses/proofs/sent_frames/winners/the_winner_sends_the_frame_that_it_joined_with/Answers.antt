use Rattle.wl_buses.proofs.SentFrames.Joined.{won_with}
use Rattle.wl_buses.proofs.sent_frames.winners.the_winner_sends_the_frame_that_it_joined_with.Goals as goal

pub returns : goal.returns
returns c = won_with c.a_station_that_joins_still_sends.ensures c.machines_answer_as_asked.ensures
