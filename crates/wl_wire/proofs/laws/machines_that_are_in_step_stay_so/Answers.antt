use Rattle.wl_wire.proofs.Run.{remain_in_step, remain_without_error, own_heads_stay}
use Rattle.wl_wire.proofs.laws.machines_that_are_in_step_stay_so.Goals as goal

pub returns : goal.returns
returns c = record {
  step = remain_in_step c.the_arbitration_decides.ensures c.a_sent_frame_is_the_head_that_began_its_stretch.ensures;
  errors = remain_without_error c.the_arbitration_decides.ensures c.a_sent_frame_is_the_head_that_began_its_stretch.ensures;
  heads = own_heads_stay c.the_arbitration_decides.ensures c.a_sent_frame_is_the_head_that_began_its_stretch.ensures;
}
