use Rattle.std.proofs.Common.{length}
use Rattle.wl_respond.proofs.message.+are_fair.Given as goal

abbrev pub decreases-are_fair : goal.decreases-are_fair
decreases-are_fair l = length l.messages.now
