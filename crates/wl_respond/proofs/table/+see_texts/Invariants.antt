use Rattle.std.proofs.Common.{length}
use Rattle.wl_respond.proofs.table.+see_texts.Given as goal

abbrev pub decreases-see_texts : goal.decreases-see_texts
decreases-see_texts l = length l.frames.now
