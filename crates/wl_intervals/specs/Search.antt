-- What the search for a tick finds, and what joins of intervals are made of.
use Rattle.std.specs.Prelude.{◌≡◌, ℕ, ◌<◌, ◌≤◌, nat_le, false, List, [], ◌∷◌, max, if◌then◌else◌, ◌||◌, take, length, slice_index_or}
use Rattle.wl_intervals.specs.Pairs.{covers, AreIntervals}

-- the pair at a place
abbrev pub pair_at : List (ℕ × ℕ) → ℕ → ℕ × ℕ
pair_at ps k = slice_index_or ps k (0, 0)

-- Place k is the first whose pair ends after tick t.
pub record IsPlace (ps : List (ℕ × ℕ)) (t k : ℕ) : Type 0 where
  pub inside : k ≤ length ps
  pub before : (j : ℕ) → j < k → (pair_at ps j).1 ≤ t
  pub after : (j : ℕ) → k ≤ j → j < length ps → t < (pair_at ps j).1

-- Of the ticks from t on the pair p is the first to hold one: it decides all ticks up to its end, which no pair holds.
pub record IsFirstAfter (ps : List (ℕ × ℕ)) (t : ℕ) (p : ℕ × ℕ) : Type 0 where
  pub ends_later : t < p.1
  pub some_tick : p.0 < p.1
  pub decides : (u : ℕ) → t ≤ u → u < p.1 → covers ps u ≡ nat_le p.0 u
  pub end_free : covers ps p.1 ≡ false

-- the list with one more interval, which makes the last longer where it begins no later than that ends
abbrev pub with_pair : List (ℕ × ℕ) → ℕ × ℕ → List (ℕ × ℕ)
with_pair [] q = q ∷ []
with_pair (p ∷ []) q = if nat_le q.0 p.1 then (p.0, max p.1 q.1) ∷ [] else p ∷ q ∷ []
with_pair (p ∷ r ∷ ps) q = p ∷ with_pair (r ∷ ps) q

-- no interval begins after tick t
abbrev pub BeginBy : ℕ → List (ℕ × ℕ) → Type 0
BeginBy t [] = Unit {0}
BeginBy t (p ∷ ps) = (p.0 ≤ t) × BeginBy t ps

-- The left list has a pair at place i, and the pair of the right one at place j, if it has one, begins no sooner.
pub record IsNextPair (left right : List (ℕ × ℕ)) (i j : ℕ) : Type 0 where
  pub inside : i < length left
  pub no_later : j < length right → (pair_at left i).0 ≤ (pair_at right j).0

-- The first i pairs of the left list and the first j of the right one are joined, and those that follow begin no sooner.
pub record IsMerged (left right : List (ℕ × ℕ)) (i j : ℕ) (joined : List (ℕ × ℕ)) : Type 0 where
  pub left_front : i ≤ length left
  pub right_front : j ≤ length right
  pub sorted : AreIntervals joined
  pub union : (t : ℕ) → covers joined t ≡ (covers (take i left) t || covers (take j right) t)
  pub left_later : i < length left → BeginBy (pair_at left i).0 joined
  pub right_later : j < length right → BeginBy (pair_at right j).0 joined
