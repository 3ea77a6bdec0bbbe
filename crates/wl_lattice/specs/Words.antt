-- The two words, and how they join. This project's profile.
use Rattle.std.specs.Prelude.{◌≡◌, ◌⊎◌, ℕ, max, if◌then◌else◌, ◌==◌}
use Rattle.wl_lattice.specs.declared.MaxWord.{MaxWord}
use Rattle.wl_lattice.specs.declared.FlatWord.{FlatWord}
use Rattle.wl_lattice.specs.declared.FlatWord.TheVariants.{Nothing, Value, Clash}

-- the word of a number
abbrev pub max_word : ℕ → MaxWord
max_word n = record { word = n }

-- the greater number
abbrev pub joined_max : MaxWord → MaxWord → MaxWord
joined_max a b = max_word (max a.word b.word)

-- nothing gives way, equal values stay, and two different values clash for good
abbrev pub joined_flat : FlatWord → FlatWord → FlatWord
joined_flat Nothing b = b
joined_flat (Value x) Nothing = Value x
joined_flat (Value x) (Value y) = if x == y then Value x else Clash
joined_flat (Value x) Clash = Clash
joined_flat Clash b = Clash

-- What can be read back from a joined flat word.
pub record ReadsBack : Type 0 where
  -- a value comes from a side that had it
  pub value_from : (a b : FlatWord) (x : ℕ) → joined_flat a b ≡ Value x → (a ≡ Value x) ⊎ (b ≡ Value x)
  -- a clash comes from a side, or from two different values
  pub clash_from : (a b : FlatWord) → joined_flat a b ≡ Clash
      → (a ≡ Clash) ⊎ ((b ≡ Clash) ⊎ ((x : ℕ) × (y : ℕ) × (a ≡ Value x) × (b ≡ Value y) × ¬ (x ≡ y)))
  -- a value stays, unless a clash comes
  pub value_stays : (x : ℕ) (b : FlatWord) → (joined_flat (Value x) b ≡ Value x) ⊎ (joined_flat (Value x) b ≡ Clash)
  -- a value that something is at most, and that is not lost, is that value
  pub value_kept : (x : ℕ) (b : FlatWord) → joined_flat (Value x) b ≡ b → ¬ (b ≡ Clash) → b ≡ Value x
  -- a clash stays
  pub clash_stays : (b : FlatWord) → (joined_flat Clash b ≡ Clash) × (joined_flat b Clash ≡ Clash)
