use Rattle.wl_buses.proofs.SentFrames.Nexting.{first_handed, next_handed, next_queued}
use Rattle.wl_buses.proofs.sent_frames.winners.the_winner_sends_its_next_frame.Goals as goal

pub returns-clause-first : goal.returns-clause-first
returns-clause-first c = λ w f are room idle is first. first_handed c.idle_machines_may_begin_together.ensures c.the_winner_sends_the_frame_that_it_began.ensures w f are room is first

pub returns-clause-next : goal.returns-clause-next
returns-clause-next c = λ s a b are room was is after.
    next_handed c.idle_machines_may_wait.ensures
    (λ s a b are room f next. c.stations_rest_after_a_frame.ensures.rest s a.outset a.bits f.chase next.which next.decides are room f.outset f.ends f.won f.answer f.room next.more)
    c.stations_rest_after_a_frame.ensures.free c.the_winner_sends_the_frame_that_it_began.ensures s are room a b was is after

pub returns-clause-queued : goal.returns-clause-queued
returns-clause-queued c = λ s setups frames count are room all by n less.
    next_queued c.idle_machines_may_wait.ensures
    (λ s a b are room f next. c.stations_rest_after_a_frame.ensures.rest s a.outset a.bits f.chase next.which next.decides are room f.outset f.ends f.won f.answer f.room next.more)
    c.stations_rest_after_a_frame.ensures.free c.the_winner_sends_the_frame_that_it_began.ensures s are room setups frames count all by n less
