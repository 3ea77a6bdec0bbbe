use Rattle.wl_topology.specs.Limits.{most_places}
use Rattle.wl_group.proofs.HeardProofs.{nothing_heard, nothing_disturbed}
use Rattle.wl_group.proofs.heard.nothing_heard.Goals as goal

pub returns-clause-heard : goal.returns-clause-heard
returns-clause-heard c l = nothing_heard l most_places

pub returns-clause-disturbances : goal.returns-clause-disturbances
returns-clause-disturbances c plan = nothing_disturbed plan most_places
