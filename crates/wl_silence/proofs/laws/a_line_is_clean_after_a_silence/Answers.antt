use Rattle.wl_silence.proofs.Clean.{clean_since}
use Rattle.wl_silence.proofs.laws.a_line_is_clean_after_a_silence.Goals as goal

pub returns : goal.returns
returns c = λ l setups s from until first chase of is are have room left.
    clean_since
    (record {
      lines = c.simulation_laws.ensures;
      driven = c.driven_laws.ensures;
      clock = record {
        goes = record { clock = c.clock_goes_on.ensures.clock; beat = c.clock_goes_on.ensures.beat; sync = c.clock_goes_on.ensures.sync };
        ways = c.an_edge_moves_the_sample.ensures;
        calm = c.no_edge_counts_then.ensures;
        edges = c.a_station_begins_its_bits.ensures;
        samples = c.the_sample_comes_near.ensures;
      };
      leaves = c.a_silence_leaves_all_idle.ensures;
    })
    c.all_frames_of_a_line_get_through.ensures l setups s from until first of is are have chase room left
