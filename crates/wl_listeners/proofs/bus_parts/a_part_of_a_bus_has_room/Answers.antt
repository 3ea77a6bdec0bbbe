use Rattle.wl_listeners.proofs.BusParts.{sound_part}
use Rattle.wl_listeners.proofs.BusRooms as rooms
use Rattle.wl_listeners.proofs.bus_parts.a_part_of_a_bus_has_room.Goals as goal

pub returns-clause-sound : goal.returns-clause-sound
returns-clause-sound c = λ whole at n are all sound. sound_part whole at n are all sound

pub returns-clause-answers : goal.returns-clause-answers
returns-clause-answers c = λ whole at n chase are has. rooms.answers whole at n chase are has

pub returns-clause-rests : goal.returns-clause-rests
returns-clause-rests c = λ whole at n chase are leaves. rooms.rests whole at n chase are leaves

pub returns-clause-listens : goal.returns-clause-listens
returns-clause-listens c = λ whole at n i chase are less leaves. rooms.listens whole at n chase are i less leaves
