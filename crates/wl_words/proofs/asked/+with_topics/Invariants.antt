use Rattle.std.proofs.Common.{length}
use Rattle.wl_words.proofs.asked.+with_topics.Given as goal

abbrev pub decreases-with_topics : goal.decreases-with_topics
decreases-with_topics l = length l.topics.now
