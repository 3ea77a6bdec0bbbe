use Rattle.wl_buses.proofs.NextFrames.Queueing.{hands_between, queue_hands}
use Rattle.wl_buses.proofs.next_frames.queues.a_queue_hands_its_next_frame.Goals as goal

pub returns-clause-next : goal.returns-clause-next
returns-clause-next c = λ r i queue by some. queue_hands r i queue by some

pub returns-clause-between : goal.returns-clause-between
returns-clause-between c = λ s frames count are i setup levels node run some by. hands_between s frames count are i setup levels node run some by
