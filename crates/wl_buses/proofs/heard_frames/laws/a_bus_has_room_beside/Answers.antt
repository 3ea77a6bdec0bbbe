use Rattle.std.proofs.Common.{suc, arith}
use Rattle.wl_buses.proofs.HeardFrames.Others.{are_others, room_others, room_for_all}
use Rattle.wl_buses.proofs.heard_frames.laws.a_bus_has_room_beside.Goals as goal

pub returns-clause-room : goal.returns-clause-room
returns-clause-room c = λ bus s chase line of sound answer rest listen mute two.
    (let all = c.a_bus_has_room_for_all.ensures bus (record s { count = suc s.count }) chase line of answer rest in
    record {
      are = record { line = line; ways = c.a_sound_bus_has_room.ensures.ways bus (record s { count = suc s.count }) line of };
      room = c.a_sound_bus_has_room.ensures.room bus (record s { count = suc s.count }) line of sound;
      mute = mute;
      two = two;
      answers = λ w wins own. (all w (omega arith) own).0;
      rests = λ w wins own. (all w (omega arith) own).1;
      eleven = λ w wins own. (c.a_bus_has_room_to_listen.ensures bus s chase line of answer listen w wins own).1;
    })

pub returns-clause-others : goal.returns-clause-others
returns-clause-others c = λ s chase has. (are_others s chase has, room_others s chase has, room_for_all s chase has)
