use Rattle.wl_phase.proofs.Phases.{phase_laws}
use Rattle.wl_phase.proofs.laws.an_edge_moves_the_phase.Goals as goal

pub returns : goal.returns
returns c = phase_laws c.an_edge_moves_the_sample.ensures
