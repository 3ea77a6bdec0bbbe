use Rattle.std.proofs.Common.{◌≡◌}
use Rattle.wl_level.specs.Places.{first_place}
use Rattle.wl_margin.specs.Reasons.{is_kept_by}
use Rattle.wl_margin.proofs.reasons.first_keeper.Given as goal

-- the first of the nodes so far
abbrev pub invariant-loop-j : goal.invariant-loop-j
invariant-loop-j l = l.first ≡ first_place (is_kept_by l.plan l.i) l.j
