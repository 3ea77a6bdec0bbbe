use Rattle.std.proofs.Common.{◌≡◌, ◌<◌}
use Rattle.std.specs.Option.{IfSome}
use Rattle.wl_level.specs.Places.{first_place}
use Rattle.wl_bound.specs.Conditions.{fails}
use Rattle.wl_bound.proofs.asked.AskedBus.first_other.Given as goal

-- the first of the nodes so far
abbrev pub invariant-loop-j : goal.invariant-loop-j
invariant-loop-j l = (l.first ≡ first_place (fails l.self.bus.family.now l.self.bus.setting l.self.senders l.inequality l.i) l.j) × IfSome l.first (λ k. k < l.j)
