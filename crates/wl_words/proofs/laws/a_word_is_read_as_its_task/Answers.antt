use Rattle.wl_words.proofs.Words.{reads_each_word}
use Rattle.wl_words.proofs.laws.a_word_is_read_as_its_task.Goals as goal

pub returns : goal.returns
returns c = reads_each_word
