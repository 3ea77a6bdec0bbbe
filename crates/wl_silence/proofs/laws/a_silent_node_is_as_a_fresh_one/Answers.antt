use Rattle.wl_silence.proofs.Rested.{as_fresh}
use Rattle.wl_silence.proofs.laws.a_silent_node_is_as_a_fresh_one.Goals as goal

pub returns : goal.returns
returns c = λ setup levels node first book run is.
    as_fresh
    (record {
      goes = record { clock = c.clock_goes_on.ensures.clock; beat = c.clock_goes_on.ensures.beat; sync = c.clock_goes_on.ensures.sync };
      ways = c.an_edge_moves_the_sample.ensures;
      calm = c.no_edge_counts_then.ensures;
      edges = c.a_station_begins_its_bits.ensures;
      samples = c.the_sample_comes_near.ensures;
    })
    c.a_silence_leaves_all_idle.ensures setup levels node first book run is
