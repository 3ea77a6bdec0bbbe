-- The one-thread simulation of a line, tick by tick from 0: the yardstick for every other way to run it. This project's profile.
-- At a tick each node whose next quantum stands there sees the line, which rests on earlier ticks alone; what it drives holds from then on.
use Rattle.std.specs.Prelude.{ℕ, zero, suc, ◌<◌, Bool, true, false, ◌&&◌, List, [], ◌∷◌, ◌++◌, length, nat_lt, ◌==◌, if◌then◌else◌}
use Rattle.wl_level.specs.declared.Level.{Level}
use Rattle.wl_level.specs.Levels.{level_of}
use Rattle.wl_plan.specs.Line.{Line, found}

-- The simulation before some tick: what each node has seen, and whether it drove dominant at each tick so far.
pub record Past : Type 0 where
  pub seen : ℕ → List Level
  pub drove : ℕ → ℕ → Bool

-- what node j has seen after tick t: its next quantum runs where it stands at t, below the end
abbrev pub seen_at : Line → ℕ → Past → ℕ → List Level
seen_at l t past j =
    if nat_lt t l.stop && (l.instant j (length (past.seen j)) == t)
    then past.seen j ++ level_of (found l past.drove j t) ∷ []
    else past.seen j

-- a tick more
abbrev pub tick : Line → ℕ → Past → Past
tick l t past =
    record {
      seen = seen_at l t past;
      drove = λ i u. if u == t then l.drives i (seen_at l t past i) else past.drove i u;
    }

-- the simulation before tick t
unfoldable pub history : Line → ℕ → Past
history l zero = record { seen = λ i. []; drove = λ i u. false }
history l (suc t) = tick l t (history l t)

-- whether node i drives dominant at tick t
abbrev pub level : Line → ℕ → ℕ → Bool
level l i t = (history l (suc t)).drove i t

-- and a tick earlier: recessive before tick 0
abbrev pub level_before : Line → ℕ → ℕ → Bool
level_before l i zero = false
level_before l i (suc t) = level l i t

-- the levels that node i sees at its first k quanta
unfoldable pub seen : Line → ℕ → ℕ → List Level
seen l i zero = []
seen l i (suc k) = seen l i k ++ level_of (found l (level l) i (l.instant i k)) ∷ []

-- one is dominant and the other recessive
abbrev pub differs : Bool → Bool → Bool
differs true b = if b then false else true
differs false b = b

-- the ticks below t at which the drive of node i changes, in order
unfoldable pub changes_below : Line → ℕ → ℕ → List ℕ
changes_below l i zero = []
changes_below l i (suc t) =
    if differs (level l i t) (level_before l i t)
    then changes_below l i t ++ t ∷ []
    else changes_below l i t

-- all of them: the table of changes that makes records true or false
abbrev pub changes : Line → ℕ → List ℕ
changes l i = changes_below l i l.stop

-- how many quanta of node i the simulation has run before tick t
abbrev pub ran : Line → ℕ → ℕ → ℕ
ran l i t = length ((history l t).seen i)

-- the first k quanta of node i stand below the end
abbrev pub AreInside : Line → ℕ → ℕ → Type 0
AreInside l i k = (j : ℕ) → j < k → l.instant i j < l.stop
