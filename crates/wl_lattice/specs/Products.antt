-- Pairs and arrays of words, joined part by part. This project's profile.
use Rattle.std.specs.Prelude.{◌≡◌, ℕ, List, [], ◌∷◌, length, All}

-- two lists joined place by place; what one has past the end of the other stays
abbrev pub joined_lists : {W : Type 0} → (W → W → W) → List W → List W → List W
joined_lists joined [] ys = ys
joined_lists joined (x ∷ xs) [] = x ∷ xs
joined_lists joined (x ∷ xs) (y ∷ ys) = joined x y ∷ joined_lists joined xs ys

-- the values of an array of n words
pub record AreWords {W : Type 0} (is_word : W → Type 0) (n : ℕ) (ws : List W) : Type 0 where
  pub count : length ws ≡ n
  pub each : All is_word ws
