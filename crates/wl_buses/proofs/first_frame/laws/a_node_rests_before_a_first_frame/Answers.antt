use Rattle.wl_buses.proofs.FirstFrame.Resting.{rests_first}
use Rattle.wl_buses.proofs.first_frame.laws.a_node_rests_before_a_first_frame.Goals as goal

pub returns : goal.returns
returns c = λ setups w length i on room are hand valid inside segments levels node run finds.
    rests_first c.idle_machines_may_begin_together.ensures c.nothing_is_found_before_a_frame.ensures c.an_edge_moves_the_sample.ensures c.no_edge_counts_then.ensures c.a_station_begins_its_bits.ensures setups w on room are hand
    (c.idle_stations_begin_a_first_frame.ensures.outset w on.line are) length valid i inside segments levels node run finds
