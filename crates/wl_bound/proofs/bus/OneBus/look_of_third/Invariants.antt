use Rattle.std.proofs.Common.{◌≡◌, ◌<◌}
use Rattle.wl_bound.specs.Terms.{greatest, is_third, look}
use Rattle.wl_bound.specs.OneBuses.{the_bus}
use Rattle.wl_bound.specs.Limits.{look_limit}
use Rattle.wl_bound.proofs.bus.OneBus.look_of_third.Given as goal

-- the greatest look of the nodes so far
abbrev pub invariant-loop-w : goal.invariant-loop-w
invariant-loop-w l = (l.greatest ≡ greatest l.w (is_third l.i l.j) (look (the_bus l.self))) × (l.greatest < look_limit)
