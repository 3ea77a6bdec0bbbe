use Rattle.wl_respond.proofs.Longest.{none_more}
use Rattle.wl_respond.proofs.table.most_bits.Goals as goal

pub loop-n-init : goal.loop-n-init
loop-n-init c = none_more c.args.queue.now c.args.field c.args.frame.now c.bits_in-most.result c.bits_in-most.ensures.has c.bits_in-most.ensures.within

pub loop-n-preserved : goal.loop-n-preserved
loop-n-preserved c = c.more_bits-most.ensures c.args.frame.now c.loop-n.invariant
