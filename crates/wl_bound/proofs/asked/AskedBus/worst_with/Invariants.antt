use Rattle.std.proofs.Common.{◌≡◌}
use Rattle.wl_bound.specs.Spikes.{worst_with}
use Rattle.wl_bound.proofs.asked.AskedBus.worst_with.Given as goal

-- the worst of the pairs so far
abbrev pub invariant-loop-j : goal.invariant-loop-j
invariant-loop-j l = l.found ≡ worst_with l.self.bus.family.now l.self.bus.setting l.self.senders l.i l.j
