use Rattle.wl_buses.proofs.next_frames.begun.a_bus_has_room_for_all.Goals as goal

pub returns : goal.returns
returns c = λ bus s chase line of answer rest w inside may. (
  record { catch = c.a_bus_has_room_to_answer.ensures.catch bus s chase line of answer w inside may; room = c.a_bus_has_room_to_answer.ensures.room bus s chase line of answer w inside may },
  c.a_bus_has_room_to_rest.ensures bus s chase line of answer rest w inside may,
)
