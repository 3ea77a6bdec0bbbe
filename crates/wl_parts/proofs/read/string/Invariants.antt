use Rattle.std.proofs.Common.{◌≡◌, ◌++◌, ◌∷◌, List, ℕ, length}
use Rattle.wl_lines.specs.Json.{escaped}
use Rattle.wl_parts.proofs.read.string.Given as goal

-- of the bytes of a string those that are left have what is left
abbrev pub invariant-loop-rest : goal.invariant-loop-rest
invariant-loop-rest l =
    (bs : List ℕ) (end : List ℕ) → l.text ≡ escaped bs ++ 34 ∷ end
    → (left : List ℕ) × (l.all ++ left ≡ bs) × (l.rest ≡ escaped left ++ 34 ∷ end)

abbrev pub decreases-loop-rest : goal.decreases-loop-rest
decreases-loop-rest l = length l.rest
