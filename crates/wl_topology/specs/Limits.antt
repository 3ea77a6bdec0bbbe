-- The limits of a cable: this project's profile.
use Rattle.std.specs.Prelude.{ℕ}
use Rattle.wl_limits.specs.declared.Limits.TheVariants.{Wide}
use Rattle.wl_limits.specs.Limits.{node_limit}

-- of any cable, by the wide limits
abbrev pub most_places : ℕ
most_places = node_limit Wide

-- in ticks
abbrev pub longest_delay : ℕ
longest_delay = 1048576

-- the delay of what comes to no node: longer than any plan lasts
abbrev pub never : ℕ
never = 2199023255552
