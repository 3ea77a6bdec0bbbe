use Rattle.wl_replica.proofs.OfRecords.{of_records}
use Rattle.wl_replica.proofs.dense.Rows.nodes.Goals as goal

pub returns-clause-records : goal.returns-clause-records
returns-clause-records c = of_records c.self.inside.nodes c.self.inside.edges.rows.items c.self.inside.silences.rows.items c.self.invariant c.args.self.now c.self.view_is
