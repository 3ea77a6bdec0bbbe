-- What the words that are left are read as, goes after the numbers so far.
use Rattle.std.proofs.Common.{◌++◌, vec_items}
use Rattle.std.specs.Str.Iter.{split_whitespace_rest}
use Rattle.test_words.specs.Words.{AreNumbers}
use Rattle.test_words.proofs.words.numbers.Given as goal

abbrev pub invariant-loop-word : goal.invariant-loop-word
invariant-loop-word g l = (ns : _) → AreNumbers g.T.FromStr.from_str_gives (split_whitespace_rest l.word-iterator) ns
    → AreNumbers g.T.FromStr.from_str_gives l.words (vec_items l.numbers ++ ns)
