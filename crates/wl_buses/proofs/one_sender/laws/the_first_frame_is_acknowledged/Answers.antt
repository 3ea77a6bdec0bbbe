use Rattle.wl_buses.proofs.OneSender.Together.{acknowledged}
use Rattle.wl_buses.proofs.one_sender.laws.the_first_frame_is_acknowledged.Goals as goal

pub returns : goal.returns
returns c = acknowledged (record {
  clocks = record {
    goes = record { clock = c.clock_goes_on.ensures.clock; beat = c.clock_goes_on.ensures.beat; sync = c.clock_goes_on.ensures.sync };
    level = c.clock_goes_on.ensures.level;
    sample = c.clock_goes_on.ensures.sample;
  };
  frame = record {
    found = c.a_transmitter_sends_its_head_stuffed.ensures.found;
    end = c.a_transmitter_sends_its_head_stuffed.ensures.end;
    stays = c.stuffing_goes_on_bit_by_bit.ensures.stays;
    keeps = c.stuffing_goes_on_bit_by_bit.ensures.keeps;
  };
  listens = record {
    ways = c.an_edge_moves_the_sample.ensures;
    samples = c.a_listener_samples_each_frame.ensures;
  };
  lines = c.driven_laws.ensures;
  simulation = c.simulation_laws.ensures;
  in_time = c.an_acknowledgement_comes_in_time.ensures;
  apart = c.an_acknowledgement_comes_after_each_sample.ensures;
  answer = c.the_sender_samples_the_acknowledgement.ensures;
})
