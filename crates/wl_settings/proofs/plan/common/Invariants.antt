use Rattle.std.proofs.Common.{◌≡◌}
use Rattle.wl_settings.specs.Plans.{steps}
use Rattle.wl_settings.proofs.plan.common.Given as goal

-- the pair after the steps so far
abbrev pub invariant-loop : goal.invariant-loop
invariant-loop l = l.pair ≡ steps l.counter (l.a, l.b)
