use Rattle.wl_topology.proofs.Driven.{driven_same, driven_from, driven_by}
use Rattle.wl_topology.proofs.laws.driven_laws.Goals as goal

pub returns : goal.returns
returns c = record { same = driven_same; dominant_from = driven_from; dominant_by = driven_by }
