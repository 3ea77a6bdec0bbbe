use Rattle.wl_wire.proofs.Run.{stay_in_step, find_no_error}
use Rattle.wl_wire.proofs.laws.machines_stay_in_step.Goals as goal

pub returns : goal.returns
returns c = record {
  step = stay_in_step c.the_arbitration_decides.ensures c.a_sent_frame_is_the_head_that_began_its_stretch.ensures;
  errors = find_no_error c.the_arbitration_decides.ensures c.a_sent_frame_is_the_head_that_began_its_stretch.ensures;
}
