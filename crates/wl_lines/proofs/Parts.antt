-- Lists of parts of different lengths.
use Rattle.std.proofs.Common.{◌≡◌, ◌&&◌, refl, ap, suc, Bool, true, false, List, [], ◌∷◌, length}
use Rattle.wl_lines.specs.Shapes.{Part}
use Rattle.wl_lines.specs.Aligned.{same_part, same_parts}

-- they aren't the same
pub unlike : (a b : List Part) → (length a ≡ length b → ⊥) → false ≡ same_parts a b
unlike [] [] apart = let no : ⊥ = apart refl in absurd no
unlike [] (b ∷ others) apart = refl
unlike (a ∷ parts) [] apart = refl
unlike (a ∷ parts) (b ∷ others) apart = go (same_part a b) (unlike parts others (λ e. apart (ap suc e)))
  where
    go : (same : Bool) → false ≡ same_parts parts others → false ≡ (same && same_parts parts others)
    go true later = later
    go false later = refl
