use Rattle.wl_buses.proofs.OneFrame.Bounded.{has_room, have_ways}
use Rattle.wl_buses.proofs.one_frame.laws.a_sound_bus_has_room.Goals as goal

pub returns-clause-ways : goal.returns-clause-ways
returns-clause-ways c = λ bus s line of. have_ways bus s line of

pub returns-clause-room : goal.returns-clause-room
returns-clause-room c = λ bus s line of sound. has_room bus s line of sound
