-- For crates above: a text that grows by one piece of what is said after another.
use Rattle.std.proofs.Common.{◌≡◌, ◌∙◌, ap, ℕ, suc, ◌+◌, List, ◌++◌, append_assoc, arith, Result, OnOk}
use Rattle.std.proofs.lemmas.Result.{on_ok_weaker}
use Rattle.wl_margin.specs.Pieces.{each_below}
pub use Rattle.wl_margin.proofs.PaceLemmas.{members-length, paces-length}

-- by one piece and then by another
pub grown : (old mid new p q : List ℕ) → mid ≡ old ++ p → new ≡ mid ++ q → new ≡ old ++ (p ++ q)
grown old mid new p q e f = f ∙ (ap (λ x. x ++ q) e ∙ append_assoc old p q)

pub grown_ok : {T E : Type 0} (r : Result T E) (old mid new p q : List ℕ) → mid ≡ old ++ p → OnOk r (new ≡ mid ++ q) → OnOk r (new ≡ old ++ (p ++ q))
grown_ok r old mid new p q e h = on_ok_weaker r (λ f. grown old mid new p q e f) h

-- by three
pub grown_twice : {T E : Type 0} (r : Result T E) (old first second new p q s : List ℕ) → first ≡ old ++ p → second ≡ first ++ q
    → OnOk r (new ≡ second ++ s) → OnOk r (new ≡ old ++ (p ++ q ++ s))
grown_twice r old first second new p q s e f h = grown_ok r old second new (p ++ q) s (grown old first second p q e f) h

-- by four
pub grown_thrice : {T E : Type 0} (r : Result T E) (old first second third new p q s u : List ℕ) → first ≡ old ++ p → second ≡ first ++ q
    → third ≡ second ++ s → OnOk r (new ≡ third ++ u) → OnOk r (new ≡ old ++ (p ++ q ++ s ++ u))
grown_thrice r old first second third new p q s u e f g h =
    grown_ok r old third new (p ++ q ++ s) u (grown old second third (p ++ q) s (grown old first second p q e f) g) h

-- by what is said of the next number
pub each_more : (said : ℕ → List ℕ) (i : ℕ) (old mid new : List ℕ) → mid ≡ old ++ each_below said i → new ≡ mid ++ said i
    → new ≡ old ++ each_below said (i + 1)
each_more said i old mid new e f =
    grown old mid new (each_below said i) (said i) e f ∙ ap (λ k. old ++ each_below said k) {x = suc i} {y = i + 1} (omega arith)
