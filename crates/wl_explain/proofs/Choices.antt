-- Which words are said of two clocks.
use Rattle.std.proofs.Common.{◌≡◌, refl, ℕ, ◌<◌, ◌≤◌, List}
use Rattle.std.proofs.lemmas.Bool.{le-ltb, lt-ltb}
use Rattle.wl_node.specs.declared.setup.NodeSetup.{NodeSetup}
use Rattle.wl_explain.specs.Doubts.{borne, difference, greatest_difference}
use Rattle.wl_explain.specs.Words.{apart_words, bit_rate, clocks_line, unlike_words}

-- the words of bit rates that are unlike
pub unlike_chosen : (end : ℕ) (a b : List ℕ) (s u : NodeSetup) → greatest_difference < difference end s u
    → unlike_words a b (bit_rate end s) (bit_rate end u) ≡ clocks_line end a b s u
unlike_chosen end a b s u h = let t = lt-ltb greatest_difference (difference end s u) h in rw t refl

-- and of clocks that are too far apart
pub apart_chosen : (end : ℕ) (a b : List ℕ) (s u : NodeSetup) → difference end s u ≤ greatest_difference → borne s u < difference end s u
    → apart_words a b (difference end s u) (borne s u) ≡ clocks_line end a b s u
apart_chosen end a b s u k h =
    let none = le-ltb greatest_difference (difference end s u) k in
    let t = lt-ltb (borne s u) (difference end s u) h in
    rw (none, t) refl
