use Rattle.std.proofs.Common.{length}
use Rattle.wl_respond.proofs.plan.+go_in_order.Given as goal

abbrev pub decreases-go_in_order : goal.decreases-go_in_order
decreases-go_in_order l = length l.queue.now
