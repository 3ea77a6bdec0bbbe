use Rattle.wl_listeners.proofs.Parts.{same_below, same_level, same_seen}
use Rattle.wl_listeners.proofs.laws.a_part_goes_as_in_the_whole.Goals as goal

pub returns : goal.returns
returns c = record {
  seen = λ part whole at until causal is i t inside early. same_seen c.driven_laws.ensures c.simulation_laws.ensures part whole at until causal is i t inside early;
  drives = λ part whole at until causal is i t inside early. same_level c.driven_laws.ensures c.simulation_laws.ensures part whole at until causal is i t inside early;
  changes = λ part whole at until causal is i t inside early. same_below c.driven_laws.ensures c.simulation_laws.ensures part whole at until causal is i t inside early;
}
