use Rattle.std.proofs.Common.{arith}
use Rattle.wl_buses.specs.OneListener.Beside.{with_listener}
use Rattle.wl_buses.proofs.OneListener.BusRoom.{fits_eleven}
use Rattle.wl_buses.proofs.one_listener.laws.a_bus_has_room_to_listen.Goals as goal

pub returns : goal.returns
returns c = λ bus s chase line of has leaves winner inside may. (
  record {
    catch = c.a_bus_has_room_to_answer.ensures.catch bus (with_listener s) chase line of has winner (omega arith) may;
    room = c.a_bus_has_room_to_answer.ensures.room bus (with_listener s) chase line of has winner (omega arith) may;
  },
  fits_eleven bus s line of winner (omega arith) may chase has leaves,
)
