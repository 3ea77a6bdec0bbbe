use Rattle.std.proofs.Common.{◌≡◌}
use Rattle.std.specs.Option.{IfSome}
use Rattle.wl_judge.specs.Weakest.{IsPairOf, weakest_below}
use Rattle.wl_judge.proofs.weakest.weakest_pair.Given as goal

-- the weakest of the pairs of the nodes so far
abbrev pub invariant-loop-i : goal.invariant-loop-i
invariant-loop-i l = (l.found ≡ weakest_below l.family l.senders l.inequality l.i) × IfSome l.found (IsPairOf l.family)
