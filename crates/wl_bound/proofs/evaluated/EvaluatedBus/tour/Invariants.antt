use Rattle.std.proofs.Common.{◌≡◌, ◌+◌, ◌-◌, ◌*◌, ◌<◌}
use Rattle.wl_bound.specs.Families.{Bus}
use Rattle.wl_bound.specs.Terms.{ahead, drift, greatest, sends_third, way}
use Rattle.wl_bound.specs.OneBuses.{the_bus}
use Rattle.wl_bound.specs.Limits.{tour_limit}
use Rattle.wl_bound.proofs.evaluated.EvaluatedBus.tour.Given as goal

-- the longest tour over the senders so far
abbrev pub invariant-loop-a : goal.invariant-loop-a
invariant-loop-a l =
    let b : Bus = the_bus l.self.bus in
    (l.longest ≡ greatest l.a (sends_third b l.i l.j)
    (λ a. way b l.i a + 10 * drift b a l.i + ahead b a + b.delay a l.j + b.delay l.j l.i - b.delay a l.i)) × (l.longest < tour_limit)
