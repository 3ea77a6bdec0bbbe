use Rattle.std.proofs.Common.{subst}
use Rattle.wl_replica.specs.State.{IsOfRecords}
use Rattle.wl_replica.proofs.replica.Replica.nodes.Goals as goal

pub returns-clause-records : goal.returns-clause-records
returns-clause-records c = subst IsOfRecords c.self.view_is c.nodes.ensures.records
