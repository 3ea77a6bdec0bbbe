use Rattle.wl_phase.proofs.Starting.{first_hard}
use Rattle.wl_phase.proofs.laws.the_first_edge_synchronises_hard.Goals as goal

pub returns : goal.returns
returns c = λ l seen found book finds.
    first_hard (record { clock = c.clock_goes_on.ensures.clock; beat = c.clock_goes_on.ensures.beat; sync = c.clock_goes_on.ensures.sync }) l book seen found finds
