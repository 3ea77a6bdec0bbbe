use Rattle.wl_replica.proofs.DenseShown.{empty_shown}
use Rattle.wl_replica.proofs.dense.Rows.new.Goals as goal

pub returns : goal.returns
returns c = empty_shown c.args.nodes c.in_ok-empty_rows.field-0.items c.in_ok-empty_rows-2.field-0.items c.in_ok-empty_rows.ensures c.in_ok-empty_rows-2.ensures
