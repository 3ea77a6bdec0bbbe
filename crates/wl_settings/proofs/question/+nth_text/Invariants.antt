use Rattle.std.proofs.Common.{length}
use Rattle.wl_settings.proofs.question.+nth_text.Given as goal

abbrev pub decreases-nth_text : goal.decreases-nth_text
decreases-nth_text l = length l.words.now
