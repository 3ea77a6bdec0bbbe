use Rattle.wl_buses.proofs.TakesPart.Twelve.{room_to_decide}
use Rattle.wl_buses.proofs.takes_part.laws.a_bus_has_room_to_decide.Goals as goal

pub returns : goal.returns
returns c = λ bus s chase line of has leaves. room_to_decide bus s line of chase has leaves
