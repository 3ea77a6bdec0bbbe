use Rattle.wl_listeners.proofs.heard.a_listener_with_room_receives_each_frame.Goals as goal

pub returns : goal.returns
returns c = λ plan other at i s bus chase checked without of calm first line stations sound answer rest listen mute two is.
    (let has = c.a_bus_has_room_beside.ensures.room bus s chase line stations sound answer rest listen mute two in
    let others = c.a_bus_has_room_beside.ensures.others s chase has in
    let all = c.any_senders_are_clean.ensures.room other s chase of calm others.0 others.1 others.2 first in (
      all,
      c.a_listener_of_a_plan_receives_each_frame.ensures plan other at i s chase checked without of first others.0 others.1 has is all,
    ))
