use Rattle.std.proofs.Common.{◌≡◌, ◌≤◌}
use Rattle.wl_level.specs.Places.{count_places}
use Rattle.wl_bound.specs.OneBuses.{the_bus}
use Rattle.wl_bound.proofs.bus.OneBus.several.Given as goal

-- the senders so far
abbrev pub invariant-loop-i : goal.invariant-loop-i
invariant-loop-i l = (l.senders ≡ count_places (the_bus l.self).sends l.i) × (l.senders ≤ l.i)
