use Rattle.std.proofs.Common.{◌≡◌, ◌<◌, length}
use Rattle.std.specs.Prelude.{IfSome}
use Rattle.wl_level.specs.Places.{first_place}
use Rattle.wl_margin.specs.Paces.{is_astray}
use Rattle.wl_margin.proofs.paces.first_stray.Given as goal

-- the first of the nodes so far
abbrev pub invariant-loop-i : goal.invariant-loop-i
invariant-loop-i l = (l.first ≡ first_place (is_astray l.deviations l.plan l.family) l.i) × IfSome l.first (λ i. i < length l.plan.nodes)
