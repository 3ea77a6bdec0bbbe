use Rattle.wl_buses.proofs.OneFrame.Starting.{frame_close}
use Rattle.wl_buses.proofs.one_frame.laws.a_frame_begins_close_together.Goals as goal

pub returns : goal.returns
returns c = λ s b are allowed begin. frame_close s are b allowed begin
