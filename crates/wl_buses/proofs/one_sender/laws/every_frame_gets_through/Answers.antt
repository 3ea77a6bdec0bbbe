use Rattle.wl_buses.proofs.OneSender.Always.{gets_through}
use Rattle.wl_buses.proofs.one_sender.laws.every_frame_gets_through.Goals as goal

pub returns : goal.returns
returns c = λ b stuffed lengths is sends frames meets slots.
    gets_through (record {
      clocks = record {
        goes = record { clock = c.clock_goes_on.ensures.clock; beat = c.clock_goes_on.ensures.beat; sync = c.clock_goes_on.ensures.sync };
        level = c.clock_goes_on.ensures.level;
        sample = c.clock_goes_on.ensures.sample;
      };
      frame = record {
        found = c.a_transmitter_sends_its_head_stuffed.ensures.found;
        end = c.a_transmitter_sends_its_head_stuffed.ensures.end;
        stays = c.stuffing_goes_on_bit_by_bit.ensures.stays;
        keeps = c.stuffing_goes_on_bit_by_bit.ensures.keeps;
      };
      listens = record { ways = c.an_edge_moves_the_sample.ensures; samples = c.a_listener_samples_each_frame.ensures };
      lines = c.driven_laws.ensures;
      simulation = c.simulation_laws.ensures;
      in_time = c.an_acknowledgement_comes_in_time.ensures;
      apart = c.an_acknowledgement_comes_after_each_sample.ensures;
      answer = c.the_sender_samples_the_acknowledgement.ensures;
    })
    (record {
      ends = c.an_acknowledgement_is_over_everywhere.ensures.ends;
      ends_there = c.an_acknowledgement_is_over_everywhere.ensures.ends_there;
      moved_there = c.an_acknowledgement_ends_in_time.ensures;
      finds = c.an_early_acknowledgement_moves_a_node.ensures.finds;
      over = c.an_early_acknowledgement_moves_a_node.ensures.over;
      others = c.an_early_acknowledgement_moves_a_node.ensures.others;
      later = c.an_early_acknowledgement_moves_a_node.ensures.later;
      sampled = c.an_early_acknowledgement_moves_a_node.ensures.sampled;
      next = c.the_next_sample_is_dominant.ensures;
    }) b stuffed lengths is sends frames meets slots
