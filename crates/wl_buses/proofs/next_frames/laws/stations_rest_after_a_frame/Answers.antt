use Rattle.wl_buses.proofs.NextFrames.Free.{all_rest, free_after}
use Rattle.wl_buses.proofs.next_frames.laws.stations_rest_after_a_frame.Goals as goal

pub returns-clause-free : goal.returns-clause-free
returns-clause-free c = λ s o end are room is ends won. record {
  together = λ handed active. c.all_may_begin_again.ensures.may s o end are room is ends won handed active;
  free = free_after s o end won.station won.frame (c.machines_answer_as_asked.ensures s o end are room is ends won);
}

pub returns-clause-rest : goal.returns-clause-rest
returns-clause-rest c = λ s o end chase sent decides are room is ends won can rest more.
    all_rest s are o is end sent decides (λ i k inside there. c.the_next_frame_finds_all_at_rest.ensures s o end chase are room is ends won can rest i k inside there) more
