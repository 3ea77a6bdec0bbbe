-- A guess of what the nodes drive: each node is run alone, beside what is thought to come to its place from the others. This project's profile.
-- For a reader who knows simulation: optimistic execution, as in Time Warp (Jefferson 1985), with a test before anything is committed.
use Rattle.std.specs.Prelude.{◌≡◌, ℕ, suc, ◌-◌, ◌<◌, ◌≤◌, ◌&&◌, ◌==◌, not, Bool, if◌then◌else◌, take}
use Rattle.wl_record_core.specs.Truth.{count_below}
use Rattle.wl_plan.specs.Line.{Line, found}
use Rattle.wl_plan.specs.Simulation.{level, seen, changes, AreInside}
use Rattle.wl_plan.specs.Sound.{IsCausal}

-- what node j finds that it doesn't drive itself
abbrev pub from_others : Line → (ℕ → ℕ → Bool) → ℕ → ℕ → Bool
from_others l drove j t = found l (λ i u. not (i == j) && drove i u) j t

-- The line on which a node finds, beside its own drive, what is shown to it: the others are too far away to be heard before the end.
abbrev pub beside : Line → (ℕ → Bool) → Line
beside l shown = record {
  nodes = l.nodes;
  instant = l.instant;
  drives = l.drives;
  quiet = l.quiet;
  delay = λ i j. if i == j then l.delay i j else suc l.stop;
  disturbed = λ j t. shown t;
  stop = l.stop;
}

-- whether node i drives dominant at tick u, where each node finds, beside its own drive, what is shown to it
abbrev pub alone : Line → (ℕ → ℕ → Bool) → ℕ → ℕ → Bool
alone l shown i u = level (beside l (shown i)) i u

-- Below tick w, what is shown to each node is what the others make of it: up to a tick of its own as they do on the line, and from then on
-- as they do where each finds what is shown to it.
pub record IsConsistent (l : Line) (from : ℕ → ℕ) (shown : ℕ → ℕ → Bool) (w : ℕ) : Type 0 where
  pub begun : (j t : ℕ) → j < l.nodes → t < w → t < from j → shown j t ≡ from_others l (level l) j t
  pub agrees : (j t : ℕ) → j < l.nodes → t < w → from j ≤ t → shown j t ≡ from_others l (alone l shown) j t

-- At its first k quanta node j sees the same, and changes its drive at the same ticks, whether it is on the line or finds what is shown to it.
pub record IsAsAlone (l : Line) (j : ℕ) (shown : ℕ → Bool) (k : ℕ) : Type 0 where
  pub seen : seen (beside l shown) j k ≡ seen l j k
  pub changes : take (count_below (l.instant j k) (changes (beside l shown) j)) (changes (beside l shown) j) ≡ take (count_below (l.instant j k) (changes l j)) (changes l j)

pub record GuessLaws : Type 0 where
  -- a line beside which something is shown is causal, too
  pub causal : (l : Line) (shown : ℕ → Bool) → IsCausal l → IsCausal (beside l shown)
  -- what a node finds is what it drives itself, and what comes from the others
  pub parts : (l : Line) (own drove : ℕ → ℕ → Bool) (shown : ℕ → Bool) (j t : ℕ) → j < l.nodes → t < l.stop → shown t ≡ from_others l drove j t
      → (l.delay j j ≤ t → own j (t - l.delay j j) ≡ drove j (t - l.delay j j)) → found (beside l shown) own j t ≡ found l drove j t
  -- a node that is shown what comes from the others does what it does on the line
  pub shown_right : (l : Line) (shown : ℕ → Bool) (j w k : ℕ) → IsCausal l → j < l.nodes → w ≤ l.stop → ((t : ℕ) → t < w → shown t ≡ from_others l (level l) j t)
      → AreInside l j k → ((q : ℕ) → q < k → l.instant j q < w) → IsAsAlone l j shown k
  -- a consistent guess holds
  pub holds : (l : Line) (from : ℕ → ℕ) (shown : ℕ → ℕ → Bool) (w : ℕ) → IsCausal l → w ≤ l.stop → IsConsistent l from shown w
      → (j t : ℕ) → j < l.nodes → t < w → shown j t ≡ from_others l (level l) j t
