use Rattle.std.proofs.Common.{◌≡◌, ◌<◌}
use Rattle.std.specs.Option.{IfSome}
use Rattle.wl_level.specs.Places.{first_place}
use Rattle.wl_bound.specs.Conditions.{fails_at}
use Rattle.wl_bound.proofs.asked.AskedBus.first_node.Given as goal

-- the first of the nodes so far
abbrev pub invariant-loop-i : goal.invariant-loop-i
invariant-loop-i l = (l.first ≡ first_place (fails_at l.self.bus.family.now l.self.bus.setting l.self.senders l.inequality) l.i) × IfSome l.first (λ k. k < l.i)
