use Rattle.wl_phase.proofs.Listening.{each_bit}
use Rattle.wl_phase.proofs.laws.a_listener_stays_in_step.Goals as goal

pub returns : goal.returns
returns c = λ s j seen found sender listener book near edges listens b less.
    let done = each_bit s j seen found (record {
      goes = record { clock = c.clock_goes_on.ensures.clock; beat = c.clock_goes_on.ensures.beat; sync = c.clock_goes_on.ensures.sync };
      ways = c.an_edge_moves_the_sample.ensures;
      sender = sender;
      listener = listener;
      book = book;
      near = near;
      edges = edges;
      listens = listens;
    }) b less in
    (done.0, done.1.samples)
