use Rattle.wl_buses.proofs.OneFrame.AckBounds.{answers_room, catches_up}
use Rattle.wl_buses.proofs.one_frame.ack.a_bus_has_room_to_answer.Goals as goal

pub returns-clause-room : goal.returns-clause-room
returns-clause-room c = λ bus s chase line of has winner inside may. answers_room bus s line of winner inside may chase has

pub returns-clause-catch : goal.returns-clause-catch
returns-clause-catch c = λ bus s chase line of has winner inside may. catches_up bus s line of winner inside may chase has
