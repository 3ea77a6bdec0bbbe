-- What holds of the one-thread simulation of every line: where its nodes are, when they change, and what stays. This project's profile.
-- For a reader who knows simulation: a component's state before a tick rests on its own events before it, and each event on the past alone.
use Rattle.std.specs.Prelude.{◌≡◌, ℕ, suc, ◌-◌, ◌<◌, ◌≤◌, ◌⊎◌, Bool, true, false, List, ◌++◌, length, Some, slice_get}
use Rattle.wl_level.specs.declared.Level.{Level}
use Rattle.wl_record_core.specs.declared.record.Record.TheVariants.{Edge, Silence}
use Rattle.wl_record_core.specs.Truth.{count_below, odd, IsIncreasing, IsTrueOf}
use Rattle.wl_level.specs.Places.{count_places}
use Rattle.wl_plan.specs.Line.{Line, found, reach}
use Rattle.wl_plan.specs.Simulation.{history, level, level_before, seen, differs, changes_below, changes, ran, AreInside}
use Rattle.wl_plan.specs.Sound.{IsCausal, IsSound}

pub record SimulationLaws : Type 0 where
  -- what a node finds rests on what was driven a delay earlier, and on the disturbances
  pub found_same : (l : Line) (drove other : ℕ → ℕ → Bool) (j t : ℕ)
      → ((i : ℕ) → i < l.nodes → l.delay i j ≤ t → drove i (t - l.delay i j) ≡ other i (t - l.delay i j))
      → found l drove j t ≡ found l other j t
  -- what was driven stays
  pub drove_stays : (l : Line) (t i u : ℕ) → u < t → (history l t).drove i u ≡ level l i u
  pub clock_later : (l : Line) (i k m : ℕ) → IsCausal l → i < l.nodes → k ≤ m → l.instant i k ≤ l.instant i m
  pub length_seen : (l : Line) (i k : ℕ) → length (seen l i k) ≡ k
  pub seen_more : (l : Line) (i k n : ℕ) → k ≤ n → (more : List Level) × (seen l i n ≡ seen l i k ++ more)
  -- as many quanta have run before tick t as stand before it and below the end
  pub ran_before : (l : Line) (i t j : ℕ) → IsCausal l → i < l.nodes → j < ran l i t → l.instant i j < t
  pub ran_inside : (l : Line) (i t : ℕ) → IsCausal l → i < l.nodes → AreInside l i (ran l i t)
  pub ran_all : (l : Line) (i t : ℕ) → IsCausal l → i < l.nodes → (t ≤ l.instant i (ran l i t)) ⊎ (l.stop ≤ l.instant i (ran l i t))
  -- where a node is before a tick, by its quanta alone; before its next quantum, and at the end
  pub history_seen : (l : Line) (i t : ℕ) → IsCausal l → i < l.nodes → (history l t).seen i ≡ seen l i (ran l i t)
  pub ran_now : (l : Line) (i k : ℕ) → IsCausal l → i < l.nodes → AreInside l i k → ran l i (l.instant i k) ≡ k
  pub ran_at_end : (l : Line) (i k : ℕ) → IsCausal l → i < l.nodes → AreInside l i k → l.stop ≤ l.instant i k → ran l i l.stop ≡ k
  -- what it drives at a tick and before it, by what it has seen
  pub level_is : (l : Line) (i t : ℕ) → IsCausal l → i < l.nodes → level l i t ≡ l.drives i (seen l i (ran l i (suc t)))
  pub level_before_is : (l : Line) (i t : ℕ) → IsCausal l → i < l.nodes → level_before l i t ≡ l.drives i (seen l i (ran l i t))
  -- the changes stand in order, and the level is dominant after an odd number of them
  pub changes_increase : (l : Line) (i : ℕ) → IsIncreasing (changes l i)
  pub changes_count : (l : Line) (i u : ℕ) → IsCausal l → i < l.nodes → count_below u (changes l i) ≡ length (changes_below l i u)
  pub level_before_odd : (l : Line) (i t : ℕ) → level_before l i t ≡ odd (length (changes_below l i t))
  pub level_odd : (l : Line) (i t : ℕ) → IsCausal l → i < l.nodes → level l i t ≡ odd (count_below (suc t) (changes l i))
  -- each stands below the end: none before the first quantum, all before the end
  pub changes_inside : (l : Line) (i s t : ℕ) → slice_get (changes l i) s ≡ Some t → t < l.stop
  pub none_at_first : (l : Line) (i : ℕ) → IsCausal l → i < l.nodes → count_below (l.instant i 0) (changes l i) ≡ 0
  pub all_at_end : (l : Line) (i u : ℕ) → IsCausal l → i < l.nodes → l.stop ≤ u → count_below u (changes l i) ≡ length (changes l i)
  -- a quantum adds the change at its tick where the drive changes by what is seen, and else none
  pub turn : (l : Line) (i k : ℕ) → IsCausal l → i < l.nodes → AreInside l i (suc k)
      → differs (l.drives i (seen l i (suc k))) (l.drives i (seen l i k)) ≡ true
      → (slice_get (changes l i) (count_below (l.instant i k) (changes l i)) ≡ Some (l.instant i k))
      × (count_below (l.instant i (suc k)) (changes l i) ≡ suc (count_below (l.instant i k) (changes l i)))
  pub no_turn : (l : Line) (i k : ℕ) → IsCausal l → i < l.nodes → AreInside l i (suc k)
      → differs (l.drives i (seen l i (suc k))) (l.drives i (seen l i k)) ≡ false
      → count_below (l.instant i (suc k)) (changes l i) ≡ count_below (l.instant i k) (changes l i)
  -- up to its reach a node has no more changes
  pub reach_count : (l : Line) (i k : ℕ) → IsCausal l → i < l.nodes → AreInside l i k
      → count_below (reach l i (seen l i k)) (changes l i) ≡ count_below (l.instant i k) (changes l i)
  -- before a quantum there are as many as quanta before it changed what the node drives
  pub changes_counted : (l : Line) (i k : ℕ) → IsCausal l → i < l.nodes → AreInside l i k
      → count_below (l.instant i k) (changes l i) ≡ count_places (λ j. differs (l.drives i (seen l i (suc j))) (l.drives i (seen l i j))) k

-- The records of an outcome are true: each change as an edge with its number, and all of them with the silence up to the end.
abbrev pub OutcomeIsTrue : Type 0
OutcomeIsTrue = (l : Line) → IsSound l → (i : ℕ) → i < l.nodes
    → ((s t : ℕ) → slice_get (changes l i) s ≡ Some t → IsTrueOf l.nodes (changes l) (Edge i s t))
    × IsTrueOf l.nodes (changes l) (Silence i (length (changes l i)) l.stop)
