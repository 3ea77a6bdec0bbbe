use Rattle.wl_silence.proofs.Empty.{shows_silent, stays_silent}
use Rattle.wl_silence.proofs.Lines.{SilentLaws}
use Rattle.wl_silence.proofs.laws.a_line_without_frames_stays_silent.Goals as goal

laws : goal.After-a_station_begins_its_bits → SilentLaws
laws c = record {
  lines = c.simulation_laws.ensures;
  driven = c.driven_laws.ensures;
  clock = record {
    goes = record { clock = c.clock_goes_on.ensures.clock; beat = c.clock_goes_on.ensures.beat; sync = c.clock_goes_on.ensures.sync };
    ways = c.an_edge_moves_the_sample.ensures;
    calm = c.no_edge_counts_then.ensures;
    edges = c.a_station_begins_its_bits.ensures;
    samples = c.the_sample_comes_near.ensures;
  };
  leaves = c.a_silence_leaves_all_idle.ensures;
}

pub returns-clause-silent : goal.returns-clause-silent
returns-clause-silent c = stays_silent (laws c) c.what_is_expected_is_driven.ensures.driven c.what_is_expected_is_driven.ensures.seen

pub returns-clause-shows : goal.returns-clause-shows
returns-clause-shows c = shows_silent (laws c) c.what_is_expected_is_driven.ensures.driven c.what_is_expected_is_driven.ensures.seen
