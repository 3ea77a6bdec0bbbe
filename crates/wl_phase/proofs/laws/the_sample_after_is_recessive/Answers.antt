use Rattle.wl_phase.proofs.Finding.{samples_end}
use Rattle.wl_phase.proofs.laws.the_sample_after_is_recessive.Goals as goal

pub returns : goal.returns
returns c = λ l seen k n book is ends.
    samples_end (record { clock = c.clock_goes_on.ensures.clock; beat = c.clock_goes_on.ensures.beat; sync = c.clock_goes_on.ensures.sync })
    c.an_edge_moves_the_sample.ensures l book seen k n is ends
