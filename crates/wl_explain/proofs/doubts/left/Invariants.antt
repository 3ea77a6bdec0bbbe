use Rattle.std.proofs.Common.{◌≡◌}
use Rattle.wl_explain.specs.Doubts.{margin_below}
use Rattle.wl_explain.proofs.doubts.left.Given as goal

-- the nodes so far leave so much
abbrev pub invariant-loop-j : goal.invariant-loop-j
invariant-loop-j l = l.left ≡ margin_below l.plan l.i l.j
