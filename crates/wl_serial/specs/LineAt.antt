-- What a place hears, and for how long it stays so. This project's profile.
use Rattle.std.specs.Prelude.{◌≡◌, ℕ, zero, suc, ◌+◌, ◌^◌, true, false, ◌-◌, ◌<◌, ◌≤◌, ◌&&◌, ◌⊎◌, Bool, List, [], ◌∷◌, ◌++◌, length, ◌≢◌, nat_le, slice_index_or}
use Rattle.std.specs.Int.{from_bool}
use Rattle.wl_level.specs.declared.Level.{Level}
use Rattle.wl_level.specs.Levels.{level_of}
use Rattle.wl_record_core.specs.Truth.{count_below, odd}
use Rattle.wl_topology.specs.Delays.{delay_of}
use Rattle.wl_topology.specs.Limits.{most_places}
use Rattle.wl_topology.specs.Driven.{driven}
use Rattle.wl_plan.specs.declared.plan.Plan.{Plan}
use Rattle.wl_plan.specs.PlanLine.{line_of, disturbed}
use Rattle.wl_plan.specs.Line.{found}
use Rattle.wl_plan.specs.Simulation.{level}
use Rattle.wl_pulse.specs.declared.pulse.Pulse.{Pulse}
use Rattle.wl_pulse.specs.Pulses.{IsPulse, drove}
use Rattle.wl_serial.specs.declared.line_at.LineAt.{LineAt}
use Rattle.wl_serial.specs.declared.sources.Sources.{Sources}
use Rattle.wl_serial.specs.declared.line_at.Found.{Found}
use Rattle.wl_serial.specs.declared.running_node.Running.{Running}

-- whether node i drives dominant at place j and tick t in the simulation
abbrev pub comes : Plan → ℕ → ℕ → ℕ → Bool
comes plan i j t = nat_le (delay_of plan.topology i j) t && level (line_of plan) i (t - delay_of plan.topology i j)

-- these are the delays from each node to place j
abbrev pub AreDelays : Plan → ℕ → List ℕ → Type 0
AreDelays plan j delays = (length delays ≡ most_places) × ((i d : ℕ) → i < length plan.nodes → slice_index_or delays i d ≡ delay_of plan.topology i j)

-- the delays from each other node to place j, and some from its own
pub record AreOthers (plan : Plan) (j : ℕ) (others : List ℕ) : Type 0 where
  pub all : length others ≡ most_places
  pub each : (i d : ℕ) → i < length plan.nodes → i ≢ j → slice_index_or others i d ≡ delay_of plan.topology i j
  pub some : (i d : ℕ) → i < length others → 1 ≤ slice_index_or others i d

-- how many of the numbers below n pass
abbrev pub passing : (ℕ → Bool) → ℕ → ℕ
passing test zero = 0
passing test (suc n) = passing test n + from_bool (test n)

-- what is kept of n nodes: beyond them nothing comes and nothing drives dominant, and so many of them are kept as dominant
pub record AreTallied (n : ℕ) (s : Sources) : Type 0 where
  pub nexts : length s.nexts ≡ most_places
  pub drives : length s.drives ≡ most_places
  pub beyond : (i : ℕ) → n ≤ i → i < most_places → 2 ^ 63 ≤ slice_index_or s.nexts i 0
  pub quiet : (i : ℕ) → n ≤ i → i < most_places → slice_index_or s.drives i false ≡ false
  pub driving : s.driving ≡ passing (λ i. slice_index_or s.drives i false) n

-- of no node but the one that is kept apart a change comes before that tick
pub record IsAhead (s : Sources) : Type 0 where
  pub inside : s.one < most_places
  pub others : (k : ℕ) → k ≢ s.one → k < most_places → s.others ≤ slice_index_or s.nexts k 0

-- one of the first n nodes drives dominant, and its next change comes after tick u
abbrev pub IsDriving : ℕ → ℕ → Sources → Type 0
IsDriving n u s = (i : ℕ) × (i < n) × (slice_index_or s.drives i false ≡ true) × (u < slice_index_or s.nexts i 0)

-- the first `count` numbers are those of the first n nodes of which a change has come by tick t
pub record IsDue (n t : ℕ) (s : Sources) (due : List ℕ) (count : ℕ) : Type 0 where
  pub all : length due ≡ most_places
  pub few : count ≤ most_places
  pub inside : (p : ℕ) → p < count → slice_index_or due p 0 < n
  pub others : (i : ℕ) → i < n → (t < slice_index_or s.nexts i 0) ⊎ ((p : ℕ) × (p < count) × (slice_index_or due p 0 ≡ i))

-- what a place keeps
pub record IsLineAt (plan : Plan) (j : ℕ) (line : LineAt) : Type 0 where
  pub delays : AreDelays plan j line.delays
  pub sources : AreTallied (length plan.nodes) line.sources
  pub ahead : IsAhead line.sources
  pub others : AreOthers plan j line.others
  pub disturbance : IsPulse (disturbed plan j) line.disturbance

-- of each place
pub record AreLines (plan : Plan) (lines : List LineAt) : Type 0 where
  pub all : length lines ≡ length plan.nodes
  pub each : (j : ℕ) (d : LineAt) → j < length lines → IsLineAt plan j (slice_index_or lines j d)

-- whether the changes of node i tell that it drives dominant at tick u
abbrev pub tells : List Running → Running → ℕ → ℕ → Bool
tells rs d i u = odd (count_below (u + 1) (slice_index_or rs i d).changes)

-- At each tick of the pulse, the changes that the nodes have told make it at place j as the pulse says.
abbrev pub IsPulseTold : Plan → List Running → ℕ → Pulse → Type 0
IsPulseTold plan rs j p = (d : Running) (t : ℕ) → p.from ≤ t → t < p.until → driven (length plan.nodes) (delay_of plan.topology) (tells rs d) j t ≡ p.dominant

-- From tick t on and below the tick that is kept of a node, its changes make at place j what is kept.
abbrev pub AreSources : Plan → List Running → ℕ → ℕ → Sources → Type 0
AreSources plan rs j t s =
    (i u : ℕ) (d : Running) → i < length plan.nodes → t ≤ u → u < slice_index_or s.nexts i 0
    → drove (slice_index_or rs i d).changes (delay_of plan.topology i j) u ≡ slice_index_or s.drives i false

-- a change of node i comes at this tick, or sooner; all else stays
pub record AreSooner (i comes : ℕ) (old new : Sources) : Type 0 where
  pub drives : new.drives ≡ old.drives
  pub driving : new.driving ≡ old.driving
  pub all : length new.nexts ≡ length old.nexts
  pub others : (k : ℕ) → k ≢ i → slice_index_or new.nexts k 0 ≡ slice_index_or old.nexts k 0
  pub few : slice_index_or new.nexts i 0 ≤ slice_index_or old.nexts i 0
  pub comes_then : slice_index_or new.nexts i 0 ≤ comes
  pub ahead : IsAhead old → IsAhead new

-- What place j has heard, and what it knows of disturbances, from ticks on that are no later than its next quantum.
pub record IsHeard (plan : Plan) (rs : List Running) (j : ℕ) (line : LineAt) : Type 0 where
  pub told : IsPulseTold plan rs j line.heard
  pub sources : AreSources plan rs j line.heard.from line.sources
  pub begun : (d : Running) → line.heard.from ≤ (slice_index_or rs j d).next
  pub disturbance : (d : Running) → line.disturbance.from ≤ (slice_index_or rs j d).next

-- at each place
abbrev pub AreHeard : Plan → List Running → List LineAt → Type 0
AreHeard plan rs lines = (j : ℕ) (d : LineAt) → j < length lines → IsHeard plan rs j (slice_index_or lines j d)

-- node i has run on, and told one change more, at this tick
abbrev pub HasChanged : ℕ → ℕ → List Running → Running → Type 0
HasChanged i tick rs r = (d : Running) → (r.changes ≡ (slice_index_or rs i d).changes ++ tick ∷ []) × ((slice_index_or rs i d).next ≤ r.next)

-- what node j finds at tick t by the changes that the nodes have told
abbrev pub sees : Plan → List Running → Running → ℕ → ℕ → Level
sees plan rs d j t = level_of (found (line_of plan) (tells rs d) j t)

-- By what the nodes have told, node j finds this level at each tick from its next quantum on, which comes before the tick below which that holds.
abbrev pub IsFound : Plan → ℕ → List Running → Found → Type 0
IsFound plan j rs f =
    (d : Running) → ((slice_index_or rs j d).next < f.until) × ((t : ℕ) → (slice_index_or rs j d).next ≤ t → t < f.until → f.level ≡ sees plan rs d j t)

-- From the next quantum of node i on and below tick t, its place finds what node j drove, by what all have told, and nothing else.
abbrev pub HearsOnly : Plan → List Running → ℕ → ℕ → ℕ → Type 0
HearsOnly plan rs j i t =
    (d : Running) (u : ℕ) → (slice_index_or rs i d).next ≤ u → u < t
    → found (line_of plan) (tells rs d) i u ≡ drove (slice_index_or rs j d).changes (delay_of plan.topology j i) u

-- Of no node but node j a change comes before that tick, and all others are recessive up to their next changes.
pub record IsAlone (n j t : ℕ) (s : Sources) : Type 0 where
  pub nexts : (k : ℕ) → k ≢ j → k < most_places → t ≤ slice_index_or s.nexts k 0
  pub drives : 0 < t → (k : ℕ) → k ≢ j → k < n → slice_index_or s.drives k false ≡ false
