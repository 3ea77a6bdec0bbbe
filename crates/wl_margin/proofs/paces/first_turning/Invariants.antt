use Rattle.std.proofs.Common.{◌≡◌}
use Rattle.wl_level.specs.Places.{first_place}
use Rattle.wl_margin.specs.Paces.{is_turning}
use Rattle.wl_margin.proofs.paces.first_turning.Given as goal

-- the first of the nodes so far
abbrev pub invariant-loop-i : goal.invariant-loop-i
invariant-loop-i l = l.first ≡ first_place (is_turning l.deviations) l.i
