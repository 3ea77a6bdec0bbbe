-- What holds of every list of ticks, and of every strictly increasing one: the counts below ticks, and the entries.
-- This project's profile: a table's list of a node, read as a staircase, is the node's level over time.
use Rattle.std.specs.Prelude.{◌≡◌, ℕ, suc, ◌<◌, ◌≤◌, List, [], ◌∷◌, ◌++◌, take, Some, slice_get}
use Rattle.wl_record_core.specs.Truth.{count_below, AllAbove, IsIncreasing}

pub record TableLaws : Type 0 where
  -- a tick at the front or at the end counts where it lies below
  pub count_first : (u t : ℕ) (ts : List ℕ) → t < u → count_below u (t ∷ ts) ≡ suc (count_below u ts)
  pub skip_first : (u t : ℕ) (ts : List ℕ) → u ≤ t → count_below u (t ∷ ts) ≡ count_below u ts
  pub count_last : (u t : ℕ) (ts : List ℕ) → t < u → count_below u (ts ++ t ∷ []) ≡ suc (count_below u ts)
  pub skip_last : (u t : ℕ) (ts : List ℕ) → u ≤ t → count_below u (ts ++ t ∷ []) ≡ count_below u ts
  -- counts start at none and never fall
  pub count_zero : (ts : List ℕ) → count_below 0 ts ≡ 0
  pub count_less : (t u : ℕ) (ts : List ℕ) → t ≤ u → count_below t ts ≤ count_below u ts
  pub count_none : (t : ℕ) (ts : List ℕ) → AllAbove t ts → count_below (suc t) ts ≡ 0
  -- entry s is the tick with s others below it, and the count steps over it
  pub entry_is_step : (ts : List ℕ) (s t : ℕ) → IsIncreasing ts → slice_get ts s ≡ Some t → (count_below t ts ≡ s) × (count_below (suc t) ts ≡ suc s)
  pub entries_grow : (ts : List ℕ) (a b s t : ℕ) → IsIncreasing ts → slice_get ts a ≡ Some s → slice_get ts b ≡ Some t → a < b → s < t
  -- where no more than m lie below u, the first m have them all
  pub count_front : (ts : List ℕ) (u m : ℕ) → IsIncreasing ts → count_below u ts ≤ m → count_below u (take m ts) ≡ count_below u ts
  pub front_increases : (m : ℕ) (ts : List ℕ) → IsIncreasing ts → IsIncreasing (take m ts)
