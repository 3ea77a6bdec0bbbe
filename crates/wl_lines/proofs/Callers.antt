-- For crates above: lines for each number below one, one more at a time.
use Rattle.std.proofs.Common.{◌≡◌, ◌∙◌, ap, arith, append_assoc, ℕ, ◌+◌, suc, List, [], ◌∷◌, ◌++◌}
use Rattle.wl_lines.specs.Shapes.{TextLine, lines_to}

pub one_more : (line : ℕ → TextLine) (n : ℕ) (old mid new : List TextLine) → mid ≡ old ++ lines_to line n → new ≡ mid ++ line n ∷ []
    → new ≡ old ++ lines_to line (n + 1)
one_more line n old mid new e f =
    f ∙ (ap (λ lines. lines ++ line n ∷ []) e ∙ append_assoc old (lines_to line n) (line n ∷ []))
    ∙ ap (λ k. old ++ lines_to line k) {x = suc n} {y = n + 1} (omega arith)
