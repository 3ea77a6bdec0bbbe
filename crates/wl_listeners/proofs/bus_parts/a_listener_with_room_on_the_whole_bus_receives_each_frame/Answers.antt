use Rattle.std.proofs.Common.{◌∙◌, ap, arith, suc, sym}
use Rattle.wl_listeners.specs.BusParts.{bus_part, then_node}
use Rattle.wl_listeners.proofs.Whole.{all_senders, are_nodes, hears_last, is_mute, then_last}
use Rattle.wl_listeners.proofs.bus_parts.a_listener_with_room_on_the_whole_bus_receives_each_frame.Goals as goal

pub returns : goal.returns
returns c = λ plan other at i s whole chase checked without of calm first line nodes only stations sound answer rest hear two is.
    (let with = then_node at s.count i in
    let are = are_nodes plan other at s.count i without.nodes of.count is.inside is.none whole nodes in
    let all = all_senders plan other at s.count i without.nodes of.count is.inside is.none whole only in
    let mute = sym (stations.sends s.count (omega arith)) ∙ ap whole.sends (then_last at s.count i)
    ∙ is_mute plan other at s.count i without.nodes of.count is.inside is.none whole nodes only in
    let part = c.a_part_of_a_bus_has_room.ensures in
    c.a_listener_with_room_receives_each_frame.ensures plan other at i s (bus_part whole with (suc s.count)) (λ k. chase (with k)) checked without of calm first line stations
    (part.sound whole with (suc s.count) are all sound) (part.answers whole with (suc s.count) chase are answer) (part.rests whole with (suc s.count) chase are rest)
    (part.listens whole with (suc s.count) s.count chase are (omega arith) (hears_last whole chase at s.count i hear)) mute two is)
