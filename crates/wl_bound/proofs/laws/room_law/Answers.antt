use Rattle.wl_bound.specs.Rooms.{plain_bus}
use Rattle.wl_bound.proofs.RoomsLemmas.{is_room}
use Rattle.wl_bound.proofs.laws.room_law.Goals as goal

pub returns : goal.returns
returns c = λ f leaves. is_room (plain_bus f) leaves
