use Rattle.wl_proved.proofs.Heard.{hears_clean}
use Rattle.wl_proved.proofs.hearing.listeners_receive_all_frames.Goals as goal

pub returns : goal.returns
returns c = λ plan other at i s bus chase checked alone without of calm first line stations sound answer rest listen mute two is.
    (let r = c.a_listener_with_room_receives_each_frame.ensures plan other at i s bus chase checked without of calm first line stations sound answer rest listen mute two is in
    hears_clean c.simulation_laws.ensures c.clean_is_clean.ensures plan other i s chase of.count is.inside (c.checked_is_sound.ensures plan checked).causal (c.checked_is_sound.ensures other alone).causal r.0 r.1)
