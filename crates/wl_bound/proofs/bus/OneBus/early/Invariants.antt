use Rattle.std.proofs.Common.{◌≡◌, ◌+◌, ◌*◌, ◌<◌}
use Rattle.wl_bound.specs.Terms.{ahead, drift, greatest, sends_but, way}
use Rattle.wl_bound.specs.OneBuses.{the_bus}
use Rattle.wl_bound.specs.Limits.{early_limit}
use Rattle.wl_bound.proofs.bus.OneBus.early.Given as goal

-- the latest of the senders so far
abbrev pub invariant-loop-a : goal.invariant-loop-a
invariant-loop-a l =
    (l.latest ≡ greatest l.a (sends_but (the_bus l.self) l.i)
    (λ a. way (the_bus l.self) l.i a + 10 * drift (the_bus l.self) a l.i + ahead (the_bus l.self) a)) × (l.latest < early_limit)
