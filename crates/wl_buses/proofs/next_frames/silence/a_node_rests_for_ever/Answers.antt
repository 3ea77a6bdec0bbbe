use Rattle.wl_buses.proofs.NextFrames.Quiet.{rests_on}
use Rattle.wl_buses.proofs.next_frames.silence.a_node_rests_for_ever.Goals as goal

pub returns : goal.returns
returns c = λ s past i setup levels node rest since line inside segments run first early is_free sent q more silent.
    rests_on c.a_station_begins_its_bits.ensures c.no_edge_counts_then.ensures s line past i inside setup segments levels node run rest since first early is_free sent q more silent
