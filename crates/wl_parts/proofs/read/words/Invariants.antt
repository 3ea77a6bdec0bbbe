use Rattle.std.proofs.Common.{◌≡◌, ◌++◌, ◌+◌, List, ℕ, length}
use Rattle.wl_parts.specs.Text.{word_words, each_words}
use Rattle.wl_parts.proofs.read.words.Given as goal

-- of words whose text this is those that are left have what is left
abbrev pub invariant-loop : goal.invariant-loop
invariant-loop l =
    (ws : List (List ℕ)) (end : List ℕ) → l.count ≡ length ws → l.text ≡ each_words word_words ws end
    → (left : List (List ℕ)) × (l.all ++ left ≡ ws) × (l.counter + length left ≡ l.count) × (l.rest ≡ each_words word_words left end)
