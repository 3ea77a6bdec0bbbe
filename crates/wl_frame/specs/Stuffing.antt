-- Bit stuffing, as a relation between the list on the line and the list that it stands for.
use Rattle.std.specs.Prelude.{◌≡◌, ℕ, zero, suc, ◌<◌, ◌&&◌, Bool, true, false, List, [], ◌∷◌, ◌++◌, length, Option, if◌then◌else◌}
use Rattle.wl_level.specs.declared.Level.{Level}
use Rattle.wl_level.specs.Levels.{same, opposite}
use Rattle.wl_level.specs.Places.{at, before, first_place}

-- the five bits from place k on are equal; Bosch CAN 2.0 part B, section 6
abbrev pub five_equal : List Level → ℕ → Bool
five_equal y k =
    same (at y k) (at y (suc k)) && same (at y (suc k)) (at y (suc (suc k)))
    && same (at y (suc (suc k))) (at y (suc (suc (suc k)))) && same (at y (suc (suc (suc k)))) (at y (suc (suc (suc (suc k)))))

-- a stuff bit is due at a place exactly where the five bits before it are equal, stuff bits among them; Bosch CAN 2.0 part B, section 6
abbrev pub is_stuff : List Level → ℕ → Bool
is_stuff y (suc (suc (suc (suc (suc k))))) = five_equal y k
is_stuff y k = false

-- the bits before place n that are no stuff bits; Bosch CAN 2.0 part B, section 6
abbrev pub destuffed_bits : List Level → ℕ → List Level
destuffed_bits y zero = []
destuffed_bits y (suc n) = destuffed_bits y n ++ (if is_stuff y n then [] else at y n ∷ [])

-- a list without its stuff bits; Bosch CAN 2.0 part B, section 6
abbrev pub destuffed_list : List Level → List Level
destuffed_list y = destuffed_bits y (length y)

-- y is x with its stuff bits: without them it is x, each is the opposite of the bit before it, and none is due at the end;
-- Bosch CAN 2.0 part B, section 6, with the stuff bit due after the last bit as this project's profile
pub record Stuffs (y x : List Level) : Type 0 where
  pub content : destuffed_list y ≡ x
  pub opposite : (k : ℕ) → k < length y → is_stuff y k ≡ true → at y k ≡ opposite (before y k)
  pub closed : is_stuff y (length y) ≡ false

-- six equal bits end at a place; Bosch CAN 2.0 part B, section 7.1 (stuff error)
abbrev pub ends_six : List Level → ℕ → Bool
ends_six y k = is_stuff y k && same (at y k) (before y k)

-- no six equal bits end before a place; Bosch CAN 2.0 part B, section 7.1 (stuff error)
abbrev pub NoSixBefore : List Level → ℕ → Type 0
NoSixBefore y n = (k : ℕ) → k < n → ends_six y k ≡ false

-- the first place at which six equal bits end; Bosch CAN 2.0 part B, section 7.1 (stuff error)
abbrev pub first_six : List Level → Option ℕ
first_six y = first_place (ends_six y) (length y)

-- some list with its stuff bits begins with y; Bosch CAN 2.0 part B, section 6
abbrev pub IsStuffedFront : List Level → Type 0
IsStuffedFront y = (more : List Level) × (x : List Level) × Stuffs (y ++ more) x
