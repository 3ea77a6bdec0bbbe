use Rattle.std.proofs.Common.{◌≡◌}
use Rattle.wl_level.specs.Places.{first_place}
use Rattle.wl_bound.specs.Verdicts.{shares_with}
use Rattle.wl_bound.proofs.verdict.first_sharing.Given as goal

-- the first of the nodes so far
abbrev pub invariant-loop-j : goal.invariant-loop-j
invariant-loop-j l = l.first ≡ first_place (shares_with l.plan l.i) l.j
