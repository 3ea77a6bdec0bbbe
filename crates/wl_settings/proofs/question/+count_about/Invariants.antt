use Rattle.std.proofs.Common.{length}
use Rattle.wl_settings.proofs.question.+count_about.Given as goal

abbrev pub decreases-count_about : goal.decreases-count_about
decreases-count_about l = length l.words.now
