use Rattle.wl_buses.proofs.FrameEnd.Twelve.{room_to_rest}
use Rattle.wl_buses.proofs.frame_end.laws.a_bus_has_room_to_rest.Goals as goal

pub returns : goal.returns
returns c = λ bus s chase line of has leaves winner wins may. room_to_rest bus s line of winner wins may chase has leaves
