use Rattle.std.proofs.Common.{◌≡◌, ◌<◌}
use Rattle.std.specs.Option.{IfSome}
use Rattle.wl_level.specs.Places.{first_place}
use Rattle.wl_bound.specs.Verdicts.{shares}
use Rattle.wl_bound.proofs.verdict.first_sharer.Given as goal

-- the first of the nodes so far
abbrev pub invariant-loop-i : goal.invariant-loop-i
invariant-loop-i l = (l.first ≡ first_place (shares l.plan) l.i) × IfSome l.first (λ k. k < l.i)
