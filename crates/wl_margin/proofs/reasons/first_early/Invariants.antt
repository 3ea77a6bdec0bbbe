use Rattle.std.proofs.Common.{◌≡◌, ◌<◌, length}
use Rattle.std.specs.Prelude.{IfSome}
use Rattle.wl_level.specs.Places.{first_place}
use Rattle.wl_bound.specs.Covered.{finds_one_busy}
use Rattle.wl_margin.proofs.reasons.first_early.Given as goal

-- the first of the nodes so far
abbrev pub invariant-loop-i : goal.invariant-loop-i
invariant-loop-i l = (l.first ≡ first_place (finds_one_busy l.plan) l.i) × IfSome l.first (λ i. i < length l.plan.nodes)
