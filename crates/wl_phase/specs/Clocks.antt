-- A clock of one rate, in exact parts of a tick, and which of its quanta finds an edge.
use Rattle.std.specs.Prelude.{◌≡◌, ℕ, ◌+◌, ◌*◌, ◌/◌, ◌<◌, ◌≤◌, [], ◌∷◌}
use Rattle.wl_clock.specs.Timing.{Timing}

-- The tick in which quantum 0 begins, and how many parts of a tick later it does; den parts make one tick, and num of them a quantum (this project's profile). Only a clock that is looked
-- at from a later quantum on begins at a part.
pub record Steady : Type 0 where
  pub offset : ℕ
  pub part : ℕ
  pub num : ℕ
  pub den : ℕ

-- a quantum takes a tick or more
pub record IsSteady (c : Steady) : Type 0 where
  pub divides : 0 < c.den
  pub not_fast : c.den ≤ c.num

-- the timing of one rate, from quantum 0 on
abbrev pub steady_timing : Steady → Timing
steady_timing c = record { offset = c.offset; rates = record { from = 0; num = c.num; den = c.den } ∷ [] }

-- a timing that is this clock, from its quantum 0 on
pub record HasRate (t : Timing) (c : Steady) : Type 0 where
  pub timing : t ≡ steady_timing c
  pub whole : c.part ≡ 0

-- the tick at which quantum k begins
unfoldable pub steady_tick : Steady → ℕ → ℕ
steady_tick c k = c.offset + (c.part + k * c.num) / c.den

-- when quantum k begins, before that is rounded down to a tick: in parts of a tick, den of which make one
abbrev pub instant : Steady → ℕ → ℕ
instant c k = c.den * c.offset + c.part + k * c.num

-- the same clock from its quantum p on
abbrev pub clock_from : Steady → (p : ℕ) → Steady
clock_from c p = record c { part = c.part + p * c.num }

-- Quantum k finds an edge that comes at a tick: it is the first that begins then or later, since a node looks at the line as each of its quanta
-- begins (this project's profile).
pub record Finds (c : Steady) (k edge : ℕ) : Type 0 where
  pub unseen : (j : ℕ) → j < k → steady_tick c j < edge
  pub seen : edge ≤ steady_tick c k
