use Rattle.std.proofs.Common.{◌≡◌, ◌++◌, drop, map}
use Rattle.wl_words.specs.CommandLine.{asked_word}
use Rattle.wl_words.proofs.asked.with_texts.Given as goal

-- the words so far, and then the texts that are left
abbrev pub invariant-loop-text : goal.invariant-loop-text
invariant-loop-text l =
    l.words.items ++ map (asked_word l.topic) (map (λ w. w.now) (drop l.text-index l.texts))
    ≡ l.initial.words.items ++ map (asked_word l.topic) (map (λ w. w.now) l.texts)
