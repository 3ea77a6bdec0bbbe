-- A tree of numbers that knows the least of its leaves (this project's profile).
use Rattle.std.specs.Prelude.{◌≡◌, ◌≢◌, ℕ, ◌+◌, ◌*◌, ◌<◌, ◌≤◌, min, List, length, slice_index_or}

-- the number at a place: with n leaves the inner places are 1 to n - 1, and the leaves are n to 2 n - 1
abbrev pub date_at : List ℕ → ℕ → ℕ
date_at tree k = slice_index_or tree k 0

-- each inner place, but maybe one, has the lesser of the numbers at its two children
pub record IsTreeBut (leaves but : ℕ) (tree : List ℕ) : Type 0 where
  pub all : length tree ≡ 128
  pub each : (k : ℕ) → 1 ≤ k → k < leaves → k ≢ but → date_at tree k ≡ min (date_at tree (2 * k)) (date_at tree (2 * k + 1))

-- the least number of the leaves is this tick and this node
pub record IsFirst (leaves : ℕ) (tree : List ℕ) (first : ℕ × ℕ) : Type 0 where
  pub inside : first.1 < 64
  pub some : (k : ℕ) × (k < leaves) × (date_at tree (leaves + k) ≡ first.0 * 64 + first.1)
  pub least : (k : ℕ) → k < leaves → first.0 * 64 + first.1 ≤ date_at tree (leaves + k)
