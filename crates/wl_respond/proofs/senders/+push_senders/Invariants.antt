use Rattle.std.proofs.Common.{length}
use Rattle.wl_respond.proofs.senders.+push_senders.Given as goal

abbrev pub decreases-push_senders : goal.decreases-push_senders
decreases-push_senders l = length l.from.now
