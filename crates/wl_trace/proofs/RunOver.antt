-- Quanta of one level that a node has run, and some more of them.
use Rattle.std.proofs.Common.{◌≡◌, ◌∙◌, ap, add-one, ℕ, ◌+◌, List, [], ◌∷◌, ◌++◌, length, replicate, length-append}
use Rattle.std.proofs.lemmas.List.{length-replicate}
use Rattle.wl_level.specs.declared.Level.{Level}
use Rattle.wl_level.proofs.Callers.{snoc}

-- so many more quanta have been seen
pub longer : (levels : List Level) (level : Level) (quantum n : ℕ) → length levels ≡ quantum → length (levels ++ replicate n level) ≡ quantum + n
longer levels level quantum n e =
    length-append levels (replicate n level) ∙ ap (λ k. length levels + k) (length-replicate n level) ∙ ap (λ k. k + n) e

-- one quantum more
pub one_more : (levels : List Level) (level : Level) (n : ℕ) → levels ++ replicate (n + 1) level ≡ (levels ++ replicate n level) ++ level ∷ []
one_more levels level n = ap (λ (k : ℕ). levels ++ replicate k level) (add-one n) ∙ snoc levels level n
