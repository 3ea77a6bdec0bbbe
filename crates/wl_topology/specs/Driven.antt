-- What the nodes make of the line, without disturbances. `true` is dominant.
use Rattle.std.specs.Prelude.{◌≡◌, ℕ, zero, suc, ◌-◌, ◌<◌, ◌≤◌, ◌&&◌, ◌||◌, nat_le, Bool, true, false}

-- some number below n passes
abbrev pub any_below : ℕ → (ℕ → Bool) → Bool
any_below zero test = false
any_below (suc n) test = any_below n test || test n

-- Node j finds dominant at tick t where some node i drove dominant a delay earlier, which is not before tick 0: a wired AND,
-- Bosch CAN 2.0 part A, section 2 ("Bus values"), with fixed delays (this project's profile).
abbrev pub driven : ℕ → (ℕ → ℕ → ℕ) → (ℕ → ℕ → Bool) → ℕ → ℕ → Bool
driven nodes delay drove j t = any_below nodes (λ i. nat_le (delay i j) t && drove i (t - delay i j))

-- What a node finds, by what the nodes drove.
pub record DrivenLaws : Type 0 where
  -- it rests on what each node drove a delay earlier, and on nothing else
  pub same : (nodes : ℕ) (delay : ℕ → ℕ → ℕ) (drove other : ℕ → ℕ → Bool) (j t : ℕ)
      → ((i : ℕ) → i < nodes → delay i j ≤ t → drove i (t - delay i j) ≡ other i (t - delay i j))
      → driven nodes delay drove j t ≡ driven nodes delay other j t
  -- one node that drove dominant makes the line dominant
  pub dominant_from : (nodes : ℕ) (delay : ℕ → ℕ → ℕ) (drove : ℕ → ℕ → Bool) (i j t : ℕ) → i < nodes → delay i j ≤ t
      → drove i (t - delay i j) ≡ true → driven nodes delay drove j t ≡ true
  -- and where it is dominant there is one
  pub dominant_by : (nodes : ℕ) (delay : ℕ → ℕ → ℕ) (drove : ℕ → ℕ → Bool) (j t : ℕ) → driven nodes delay drove j t ≡ true
      → (i : ℕ) × (i < nodes) × (delay i j ≤ t) × (drove i (t - delay i j) ≡ true)
