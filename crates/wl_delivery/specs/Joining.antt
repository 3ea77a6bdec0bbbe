-- When a node takes part in the traffic at first: with the eleventh recessive sample in a row (ISO 11898-1, bus integration).
use Rattle.std.specs.Prelude.{ℕ, ◌+◌, nat_lt, List, fold, is_some, Option, Some, None, if◌then◌else◌}
use Rattle.wl_level.specs.declared.Level.{Level}
use Rattle.wl_level.specs.declared.Level.TheVariants.{Dominant, Recessive}
use Rattle.wl_delivery.specs.declared.joining.Joining.{Joining}

-- before the first sample
abbrev pub no_joining : Joining
no_joining = record { run = 0; at = None }

-- one more sample of a node that doesn't take part yet
abbrev pub joining_by : Joining → (quantum : ℕ) → Level → Joining
joining_by j quantum Dominant = record j { run = 0 }
joining_by j quantum Recessive = if nat_lt j.run 10 then record j { run = j.run + 1 } else record j { at = Some quantum }

abbrev pub joining_with : Joining → ℕ × Level → Joining
joining_with j (quantum, level) = if is_some j.at then j else joining_by j quantum level

-- the quantum at which a node with these samples takes part at first
abbrev pub joined_quantum : List (ℕ × Level) → Option ℕ
joined_quantum samples = (fold joining_with no_joining samples).at
