use Rattle.wl_buses.proofs.OneSender.Fitting.{ends_in_slots, in_step}
use Rattle.wl_buses.proofs.one_sender.laws.tolerances_are_enough.Goals as goal

pub returns : goal.returns
returns c = record {
  in_step = λ t b is within fit. in_step t b is within fit;
  ends = λ t b is within fit. ends_in_slots t b is within fit;
  through = λ t b stuffed lengths is sends frames within fit.
      c.every_frame_gets_through.ensures b stuffed lengths is sends frames (in_step t b is within fit) (ends_in_slots t b is within fit);
}
