-- A text that grew piece by piece has grown by all of them.
use Rattle.std.proofs.Common.{◌≡◌, ◌∙◌, ap, ℕ, List, ◌++◌, append_assoc}

pub two : (a b t₀ t₁ t₂ : List ℕ) → t₁ ≡ t₀ ++ a → t₂ ≡ t₁ ++ b → t₂ ≡ t₀ ++ (a ++ b)
two a b t₀ t₁ t₂ e f = f ∙ ap (λ t. t ++ b) e ∙ append_assoc t₀ a b

pub three : (a b c t₀ t₁ t₂ t₃ : List ℕ) → t₁ ≡ t₀ ++ a → t₂ ≡ t₁ ++ b → t₃ ≡ t₂ ++ c → t₃ ≡ t₀ ++ (a ++ b ++ c)
three a b c t₀ t₁ t₂ t₃ p q r = two (a ++ b) c t₀ t₂ t₃ (two a b t₀ t₁ t₂ p q) r

pub four : (a b c d t₀ t₁ t₂ t₃ t₄ : List ℕ) → t₁ ≡ t₀ ++ a → t₂ ≡ t₁ ++ b → t₃ ≡ t₂ ++ c → t₄ ≡ t₃ ++ d → t₄ ≡ t₀ ++ (a ++ b ++ c ++ d)
four a b c d t₀ t₁ t₂ t₃ t₄ p q r s = two (a ++ b ++ c) d t₀ t₃ t₄ (three a b c t₀ t₁ t₂ t₃ p q r) s

pub five : (a b c d e t₀ t₁ t₂ t₃ t₄ t₅ : List ℕ) → t₁ ≡ t₀ ++ a → t₂ ≡ t₁ ++ b → t₃ ≡ t₂ ++ c → t₄ ≡ t₃ ++ d → t₅ ≡ t₄ ++ e
    → t₅ ≡ t₀ ++ (a ++ b ++ c ++ d ++ e)
five a b c d e t₀ t₁ t₂ t₃ t₄ t₅ p q r s u =
    two (a ++ b ++ c ++ d) e t₀ t₄ t₅ (two (a ++ b ++ c) d t₀ t₃ t₄ (two (a ++ b) c t₀ t₂ t₃ (two a b t₀ t₁ t₂ p q) r) s) u

pub seven : (a b c d e f g t₀ t₁ t₂ t₃ t₄ t₅ t₆ t₇ : List ℕ) → t₁ ≡ t₀ ++ a → t₂ ≡ t₁ ++ b → t₃ ≡ t₂ ++ c → t₄ ≡ t₃ ++ d → t₅ ≡ t₄ ++ e → t₆ ≡ t₅ ++ f → t₇ ≡ t₆ ++ g
    → t₇ ≡ t₀ ++ (a ++ b ++ c ++ d ++ e ++ f ++ g)
seven a b c d e f g t₀ t₁ t₂ t₃ t₄ t₅ t₆ t₇ p q r s u v w =
    two (a ++ b ++ c ++ d ++ e ++ f) g t₀ t₆ t₇ (two (a ++ b ++ c ++ d ++ e) f t₀ t₅ t₆ (five a b c d e t₀ t₁ t₂ t₃ t₄ t₅ p q r s u) v) w
