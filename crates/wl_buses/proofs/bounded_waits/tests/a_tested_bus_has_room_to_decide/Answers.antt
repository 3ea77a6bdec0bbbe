use Rattle.wl_buses.proofs.BoundedWaits.Deciding.{room_to_decide}
use Rattle.wl_buses.proofs.bounded_waits.tests.a_tested_bus_has_room_to_decide.Goals as goal

pub returns : goal.returns
returns c = λ f leaves. room_to_decide f leaves
