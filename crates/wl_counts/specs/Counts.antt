-- How many of some instants lie in a window, and sums over them: numbers and functions of a number.
use Rattle.std.specs.Prelude.{◌≡◌, ℕ, zero, suc, ◌+◌, ◌-◌, ◌/◌, ◌<◌, ◌≤◌, ◌==◌, Bool, true, false}

-- 1 for true; this project's profile
abbrev pub one_if : Bool → ℕ
one_if true = 1
one_if false = 0

-- f 0 + f 1 + .. + f (n - 1); this project's profile
abbrev pub sum_below : (ℕ → ℕ) → ℕ → ℕ
sum_below f zero = 0
sum_below f (suc n) = sum_below f n + f n

-- how many k < n are picked; this project's profile
abbrev pub picks_below : (ℕ → Bool) → ℕ → ℕ
picks_below picked n = sum_below (λ k. one_if (picked k)) n

-- ceil(length / period); Tindell and Burns 1994, the arrivals of a message in a window
abbrev pub periods_in : (length period : ℕ) → ℕ
periods_in length period = (length + (period - 1)) / period

-- An instant x is later than from - back, and no later than from + on: a half-open window with a length of back + on.
pub record LiesIn (from back on x : ℕ) : Type 0 where
  pub after : from < x + back
  pub by : x ≤ from + on

-- each pick below n lies in that window
abbrev pub LieIn : (picked : ℕ → Bool) (instant : ℕ → ℕ) (n from back on : ℕ) → Type 0
LieIn picked instant n from back on = (k : ℕ) → k < n → picked k ≡ true → LiesIn from back on (instant k)

-- The instants of the picks below n are in order, and a period apart at least: a sporadic message; Davis, Burns, Bril, Lukkien 2007, section 2.
abbrev pub AreApart : (picked : ℕ → Bool) (instant : ℕ → ℕ) (n period : ℕ) → Type 0
AreApart picked instant n period =
    (j k : ℕ) → j < k → k < n → picked j ≡ true → picked k ≡ true → instant j + period ≤ instant k

-- how many of the frames below n are of message e; this project's profile
abbrev pub message_count : (message : ℕ → ℕ) (e n : ℕ) → ℕ
message_count message e n = picks_below (λ k. message k == e) n
