use Rattle.std.proofs.Common.{arith}
use Rattle.wl_replica.proofs.RowSteps.{grown_none}
use Rattle.wl_replica.proofs.node_rows.make_room_for.Goals as goal

pub loop-node-init : goal.loop-node-init
loop-node-init c = record { grown = grown_none c.args.rows.now.items; room = λ i lt. absurd (omega arith) }

pub index_mut-requires : goal.index_mut-requires
index_mut-requires c = omega (arith, c.loop-node-test.true, c.loop-node.invariant.grown.count, c.requires.mine)

pub index-requires : goal.index-requires
index-requires c = omega (arith, c.loop-node-test.true, c.requires.theirs)
