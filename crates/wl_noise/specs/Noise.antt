-- Bursts of noise by a rate and a seed (this project's profile). Their words are those of SplitMix64 (Steele, Lea and Flood, Fast splittable
-- pseudorandom number generators, OOPSLA 2014).
use Rattle.std.specs.Prelude.{ℕ, zero, suc, ◌+◌, ◌-◌, ◌*◌, ◌/◌, ◌%◌, ◌<◌, ◌≤◌, ◌&&◌, nat_lt, min, List, [], ◌∷◌, ◌++◌, Option, Some, None, if◌then◌else◌}
use Rattle.rand_xoshiro.specs.SplitMix64.{mix_u64}
use Rattle.wl_noise.specs.declared.noise.Noise.{Noise}
use Rattle.wl_noise.specs.declared.noise.Burst.{Burst}
use Rattle.wl_noise.specs.declared.noise.TheConstants.{LARGEST_TICK, SECOND}

-- Noise is played with a tick at least in each gap and in each burst, at one place at least.
pub record IsNoise (noise : Noise) : Type 0 where
  pub some_gap : 0 < noise.gap
  pub short_gap : noise.gap ≤ LARGEST_TICK
  pub lasts : 0 < noise.length
  pub short : noise.length ≤ LARGEST_TICK
  pub some_place : 0 < noise.places

-- whole ticks from one beginning to the next, on average
abbrev pub period : (tick per_second : ℕ) → ℕ
period tick per_second = SECOND / (tick * per_second)

-- what the length of a burst leaves of them, if that is a tick or more
abbrev pub mean_gap : (tick per_second length : ℕ) → Option ℕ
mean_gap tick per_second length =
    if nat_lt 0 (tick * per_second) && nat_lt 0 length && nat_lt length (period tick per_second) then Some (period tick per_second - length) else None

-- the state of the generator before burst k: each burst takes two words, for the gap before it and for its place
abbrev pub state_before : Noise → ℕ → ℕ
state_before noise zero = noise.seed
state_before noise (suc k) = (mix_u64 (mix_u64 (state_before noise k)).1).1

-- each number of ticks from 1 up to twice the mean less 1 is as likely as any other, so that the mean is the mean
abbrev pub gap_by : Noise → ℕ → ℕ
gap_by noise word = 1 + word % (2 * noise.gap - 1)

-- the gap before burst k
abbrev pub gap_before : Noise → ℕ → ℕ
gap_before noise k = gap_by noise (mix_u64 (state_before noise k)).0

-- the place of burst k: each is as likely as any other
abbrev pub burst_place : Noise → ℕ → ℕ
burst_place noise k = (mix_u64 (mix_u64 (state_before noise k)).1).0 % noise.places

-- the tick at which the gap before burst k begins: tick 0, or the end of the burst before
abbrev pub gap_start : Noise → ℕ → ℕ
gap_start noise zero = 0
gap_start noise (suc k) = gap_start noise k + gap_before noise k + noise.length

-- the tick from which on burst k is dominant
abbrev pub burst_start : Noise → ℕ → ℕ
burst_start noise k = gap_start noise k + gap_before noise k

-- burst k, cut off where the plan ends
abbrev pub burst_at : Noise → (end : ℕ) → ℕ → Burst
burst_at noise end k =
    record { from = burst_start noise k; to = min (burst_start noise k + noise.length) end; place = burst_place noise k }

-- of the first n bursts those that begin before the end
abbrev pub bursts : Noise → (end n : ℕ) → List Burst
bursts noise end zero = []
bursts noise end (suc n) = bursts noise end n ++ (if nat_lt (burst_start noise n) end then burst_at noise end n ∷ [] else [])

-- A burst takes some ticks, ends at the end of the plan at the latest, and has a place.
pub record IsBurst (noise : Noise) (end : ℕ) (burst : Burst) : Type 0 where
  pub lasts : burst.from < burst.to
  pub ends : burst.to ≤ end
  pub placed : burst.place < noise.places
