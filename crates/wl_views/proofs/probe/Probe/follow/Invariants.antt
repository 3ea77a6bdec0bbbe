use Rattle.std.proofs.Common.{ℕ, ◌+◌, ◌-◌, ◌≤◌}
use Rattle.wl_views.specs.Probe.{Watches}
use Rattle.wl_views.proofs.probe.Probe.follow.Given as goal

-- it has gone on to some tick that isn't later
abbrev pub invariant-loop-self : goal.invariant-loop-self
invariant-loop-self l = (s : ℕ) × Watches l.plan l.i s l.self × (s ≤ l.t)

abbrev pub decreases-loop-self : goal.decreases-loop-self
decreases-loop-self l = l.t + 1 - l.self.until
