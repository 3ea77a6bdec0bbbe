use Rattle.wl_silence.proofs.AtFirst.{has_left, silent_for}
use Rattle.wl_silence.proofs.Lines.{SilentLaws}
use Rattle.wl_silence.proofs.laws.what_a_silence_asks_can_be_met.Goals as goal

laws : goal.After-a_station_begins_its_bits → SilentLaws
laws c = record {
  lines = c.simulation_laws.ensures;
  driven = c.driven_laws.ensures;
  clock = record {
    goes = record { clock = c.clock_goes_on.ensures.clock; beat = c.clock_goes_on.ensures.beat; sync = c.clock_goes_on.ensures.sync };
    ways = c.an_edge_moves_the_sample.ensures;
    calm = c.no_edge_counts_then.ensures;
    edges = c.a_station_begins_its_bits.ensures;
    samples = c.the_sample_comes_near.ensures;
  };
  leaves = c.a_silence_leaves_all_idle.ensures;
}

pub returns-clause-silence : goal.returns-clause-silence
returns-clause-silence c = λ l setups s from until bits of are waits.
    silent_for (laws c) c.what_is_expected_is_driven.ensures.driven c.what_is_expected_is_driven.ensures.seen l setups s from until bits of are waits.unready waits.lasts

pub returns-clause-left : goal.returns-clause-left
returns-clause-left c = λ l setups s from until bits of are waits.
    has_left (laws c) c.what_is_expected_is_driven.ensures.driven c.what_is_expected_is_driven.ensures.seen l setups s from until bits of are waits.unready waits.lasts
