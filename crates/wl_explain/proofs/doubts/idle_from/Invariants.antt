use Rattle.std.proofs.Common.{◌≡◌, ◌^◌, ◌<◌}
use Rattle.wl_explain.specs.Doubts.{idle_below}
use Rattle.wl_explain.proofs.doubts.idle_from.Given as goal

-- the nodes so far are idle from then on
abbrev pub invariant-loop-j : goal.invariant-loop-j
invariant-loop-j l = (l.latest ≡ idle_below l.plan l.j) × (l.latest < 2 ^ 40)
