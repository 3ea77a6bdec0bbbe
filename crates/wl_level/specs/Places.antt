-- Places in a list of levels, counted from 0: what is there, the first that passes a test, runs of equal levels.
-- Each word goes by recursion on the number of places asked, so that one more place is its second equation.
use Rattle.std.specs.Prelude.{◌≡◌, ℕ, zero, suc, ◌+◌, ◌<◌, ◌≤◌, ◌==◌, ◌↔◌, [], ◌∷◌, ◌++◌, Bool, true, false, List, length, Option, Some, None, slice_index_or, if◌then◌else◌}
use Rattle.wl_level.specs.declared.Level.{Level}
use Rattle.wl_level.specs.declared.Level.TheVariants.{Recessive}
use Rattle.wl_level.specs.Levels.{same}

-- the level at a place: a list is recessive after its end, as a silent line is
abbrev pub at : List Level → ℕ → Level
at levels k = slice_index_or levels k Recessive

-- the level one place earlier: recessive before the list begins
abbrev pub before : List Level → ℕ → Level
before levels zero = Recessive
before levels (suc k) = at levels k

-- a place found earlier, or else place n where the test passes here
abbrev pub or_at : Option ℕ → Bool → ℕ → Option ℕ
or_at (Some k) here n = Some k
or_at None true n = Some n
or_at None false n = None

-- the first place below n that passes a test
abbrev pub first_place : (ℕ → Bool) → ℕ → Option ℕ
first_place test zero = None
first_place test (suc n) = or_at (first_place test n) (test n) n

-- a place was found, and it is n
abbrev pub is_found_at : Option ℕ → ℕ → Bool
is_found_at None n = false
is_found_at (Some k) n = k == n

-- how many places below n pass a test
abbrev pub count_places : (ℕ → Bool) → ℕ → ℕ
count_places test zero = 0
count_places test (suc n) = count_places test n + (if test n then 1 else 0)

-- how many places of this level are right before place n
abbrev pub run_before : Level → List Level → ℕ → ℕ
run_before level levels zero = 0
run_before level levels (suc n) = if same (at levels n) level then suc (run_before level levels n) else 0

-- how many of this level are at the end of the list
abbrev pub run_at_end : Level → List Level → ℕ
run_at_end level levels = run_before level levels (length levels)

-- how many equal levels are right before place n, whatever their level
abbrev pub run_at : List Level → ℕ → ℕ
run_at levels zero = 0
run_at levels (suc zero) = 1
run_at levels (suc (suc n)) = if same (at levels n) (at levels (suc n)) then suc (run_at levels (suc n)) else 1

-- What it means that k is the first place below n that passes a test.
pub record IsFirstPlace (test : ℕ → Bool) (n k : ℕ) : Type 0 where
  pub inside : k < n
  pub passes : test k ≡ true
  pub none_before : (j : ℕ) → j < k → test j ≡ false

-- What the words of places say.
pub record PlaceLaws : Type 0 where
  -- a list keeps its levels when it grows, and its new level is at its old end
  pub old_place : (levels more : List Level) (k : ℕ) → k < length levels → at (levels ++ more) k ≡ at levels k
  pub new_place : (levels : List Level) (level : Level) → at (levels ++ level ∷ []) (length levels) ≡ level
  -- the first place is found exactly where there is one, and nothing at or above the bound matters
  pub found : (test : ℕ → Bool) (n k : ℕ) → (first_place test n ≡ Some k) ↔ IsFirstPlace test n k
  pub none_found : (test : ℕ → Bool) (n : ℕ) → (first_place test n ≡ None) ↔ ((k : ℕ) → k < n → test k ≡ false)
  pub found_below : (test other : ℕ → Bool) (n : ℕ) → ((k : ℕ) → k < n → test k ≡ other k) → first_place test n ≡ first_place other n
  -- so with counts
  pub counted_below : (test other : ℕ → Bool) (n : ℕ) → ((k : ℕ) → k < n → test k ≡ other k) → count_places test n ≡ count_places other n
  -- a run stays when the list grows after it, and one more level makes the run at the end longer or ends it
  pub old_run : (level : Level) (levels more : List Level) (n : ℕ) → n ≤ length levels → run_before level (levels ++ more) n ≡ run_before level levels n
  pub old_equal_run : (levels more : List Level) (n : ℕ) → n ≤ length levels → run_at (levels ++ more) n ≡ run_at levels n
  pub new_run : (level : Level) (levels : List Level) (last : Level)
      → run_at_end level (levels ++ last ∷ []) ≡ (if same last level then suc (run_at_end level levels) else 0)
