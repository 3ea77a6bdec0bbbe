use Rattle.wl_buses.proofs.HeardFrames.Room.{may_join}
use Rattle.wl_buses.proofs.heard_frames.laws.a_station_with_room_may_join.Goals as goal

pub returns : goal.returns
returns c = λ s w frames count chase has idle. may_join s w frames count chase has idle
