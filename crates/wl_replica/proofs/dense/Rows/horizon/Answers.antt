use Rattle.wl_replica.specs.State.{slots_of}
use Rattle.wl_replica.specs.Dense.{row_number, edges_of_row}
use Rattle.wl_replica.proofs.RunsKept.{run_by, horizon_told}
use Rattle.wl_replica.proofs.dense.Rows.horizon.Goals as goal

pub returns : goal.returns
returns c =
    let w = slots_of c.args.self.now in
    let run = run_by w c.args.node (edges_of_row c.edge_numbers.result.now) (row_number c.silence_numbers.result.now) c.known_of.result c.edge_numbers.ensures.words c.silence_numbers.ensures.words c.known_of.ensures in
    horizon_told w c.args.node c.known_of.result run
