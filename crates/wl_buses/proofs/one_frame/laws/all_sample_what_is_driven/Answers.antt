use Rattle.wl_buses.proofs.OneFrame.Sampled.{all_right}
use Rattle.wl_buses.proofs.one_frame.laws.all_sample_what_is_driven.Goals as goal

pub returns : goal.returns
returns c = λ s sends since b next drove are room one. all_right s are room.samples sends since b next drove one c.driven_laws.ensures
