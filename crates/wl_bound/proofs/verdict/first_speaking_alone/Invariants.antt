use Rattle.std.proofs.Common.{◌≡◌}
use Rattle.wl_level.specs.Places.{first_place}
use Rattle.wl_bound.specs.Verdicts.{speaks_alone}
use Rattle.wl_bound.proofs.verdict.first_speaking_alone.Given as goal

-- the first of the nodes so far
abbrev pub invariant-loop-i : goal.invariant-loop-i
invariant-loop-i l = l.first ≡ first_place (speaks_alone l.plan) l.i
