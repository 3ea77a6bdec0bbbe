use Rattle.wl_engines.specs.Shown.{run_parts}
use Rattle.wl_engines.proofs.shown.parts_of.Goals as goal

pub returns : goal.returns
unfolding run_parts
returns c = c.thousandths.ensures
