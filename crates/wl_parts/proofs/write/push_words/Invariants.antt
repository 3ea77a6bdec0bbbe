use Rattle.std.proofs.Common.{◌≡◌, ◌++◌, List, ℕ, drop}
use Rattle.wl_parts.specs.Text.{word_words, each_words}
use Rattle.wl_parts.proofs.write.push_words.Given as goal

abbrev pub invariant-loop-word : goal.invariant-loop-word
invariant-loop-word l =
    (rest : List ℕ) → l.text.items ++ each_words word_words (drop l.word-index l.words) rest ≡ l.initial.text.items ++ each_words word_words l.words rest
