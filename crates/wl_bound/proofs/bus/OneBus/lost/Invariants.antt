use Rattle.std.proofs.Common.{◌≡◌, ◌<◌}
use Rattle.wl_bound.specs.Terms.{drift, greatest, sends_but}
use Rattle.wl_bound.specs.OneBuses.{the_bus}
use Rattle.wl_bound.specs.Limits.{drift_limit}
use Rattle.wl_bound.proofs.bus.OneBus.lost.Given as goal

-- the greatest drift from the senders so far
abbrev pub invariant-loop-a : goal.invariant-loop-a
invariant-loop-a l =
    (l.greatest ≡ greatest l.a (sends_but (the_bus l.self) l.i) (λ a. drift (the_bus l.self) a l.i)) × (l.greatest < drift_limit)
