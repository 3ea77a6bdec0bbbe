use Rattle.std.proofs.Common.{◌≡◌}
use Rattle.wl_bound.specs.Spikes.{worst_below}
use Rattle.wl_bound.proofs.asked.AskedBus.worst_hiding.Given as goal

-- the worst of the pairs of the senders so far
abbrev pub invariant-loop-i : goal.invariant-loop-i
invariant-loop-i l = l.found ≡ worst_below l.self.bus.family.now l.self.bus.setting l.self.senders l.i
