-- What is dominant for some ticks. This project's profile.
use Rattle.std.specs.Prelude.{◌≡◌, ℕ, ◌+◌, ◌-◌, ◌<◌, ◌≤◌, ◌&&◌, Bool, List, nat_le}
use Rattle.wl_record_core.specs.Truth.{count_below, odd}
use Rattle.wl_pulse.specs.declared.pulse.Pulse.{Pulse}

-- at each tick of the pulse it is as the pulse says
abbrev pub IsPulse : (ℕ → Bool) → Pulse → Type 0
IsPulse dominant p = (t : ℕ) → p.from ≤ t → t < p.until → dominant t ≡ p.dominant

-- whether a node with these changes drove dominant a delay before tick t
abbrev pub drove : List ℕ → ℕ → ℕ → Bool
drove changes delay t = nat_le delay t && odd (count_below (t - delay + 1) changes)
