-- Lists that grow by what there is for one number after another.
use Rattle.std.proofs.Common.{◌≡◌, ◌∙◌, refl, sym, ap, ℕ, suc, ◌+◌, List, [], ◌++◌, append_assoc, arith}
use Rattle.std.proofs.lemmas.List.{append-nil}
use Rattle.wl_settings.specs.Settings.{each_under}

pub none_more : {X : Type 0} (f : ℕ → List X) (old : List X) → old ≡ old ++ each_under f 0
unfolding each_under
none_more f old = sym (append-nil old)

pub none_under : {X : Type 0} (f : ℕ → List X) → [] ≡ each_under f 0
unfolding each_under
none_under f = refl

pub one_more : {X : Type 0} (f : ℕ → List X) (i : ℕ) (old mid new : List X) → mid ≡ old ++ each_under f i → new ≡ mid ++ f i
    → new ≡ old ++ each_under f (i + 1)
unfolding each_under
one_more f i old mid new e g =
    g ∙ (ap (λ x. x ++ f i) e ∙ append_assoc old (each_under f i) (f i)) ∙ ap (λ k. old ++ each_under f k) {x = suc i} {y = i + 1} (omega arith)
