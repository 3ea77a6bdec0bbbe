-- A line at rest: each node has run some of its quanta, and what comes to the nodes from there on stays recessive up to some tick. This project's profile.
-- For a reader who knows simulation: a lookahead of all components at once, where no message is under way (Chandy and Misra 1979).
use Rattle.std.specs.Prelude.{◌≡◌, ℕ, ◌+◌, ◌-◌, ◌<◌, ◌≤◌, false, ◌++◌, replicate}
use Rattle.wl_level.specs.declared.Level.TheVariants.{Recessive}
use Rattle.wl_record_core.specs.Truth.{count_below}
use Rattle.wl_plan.specs.Line.{Line}
use Rattle.wl_plan.specs.Simulation.{level, seen, changes, AreInside}
use Rattle.wl_plan.specs.Sound.{IsCausal}

-- Node i, which has run k quanta, drives recessive up to tick t if it sees recessive only.
abbrev pub StandsUpTo : Line → ℕ → ℕ → ℕ → Type 0
StandsUpTo l i k t =
    (n : ℕ) × (t ≤ l.instant i (k + n)) × ((m : ℕ) → m ≤ n → l.drives i (seen l i k ++ replicate m Recessive) ≡ false)

-- Node i has run the first `ran i` of its quanta, and below tick t all is at rest.
pub record IsAtRest (l : Line) (ran : ℕ → ℕ) (t : ℕ) : Type 0 where
  pub inside : (i : ℕ) → i < l.nodes → AreInside l i (ran i)
  -- what node i drove before its next quantum comes to node j recessive, from the next quantum of that on
  pub silent : (i j u : ℕ) → i < l.nodes → j < l.nodes → l.instant j (ran j) ≤ u → u < t → l.delay i j ≤ u → u - l.delay i j < l.instant i (ran i)
      → level l i (u - l.delay i j) ≡ false
  -- no disturbance comes to it
  pub calm : (j u : ℕ) → j < l.nodes → l.instant j (ran j) ≤ u → u < t → l.disturbed j u ≡ false
  -- and if none of the others drives dominant, it does not
  pub stands : (i : ℕ) → i < l.nodes → StandsUpTo l i (ran i) t

-- no node changes its drive between its next quantum and that tick
abbrev pub RestLaw : Type 0
RestLaw = (l : Line) (ran : ℕ → ℕ) (t : ℕ) → IsCausal l → IsAtRest l ran t → (i : ℕ) → i < l.nodes → l.instant i (ran i) ≤ t
    → count_below t (changes l i) ≡ count_below (l.instant i (ran i)) (changes l i)
