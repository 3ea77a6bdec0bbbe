use Rattle.std.proofs.Common.{◌≡◌}
use Rattle.std.specs.Option.{IfSome}
use Rattle.wl_judge.specs.Weakest.{IsPairOf, weakest_with}
use Rattle.wl_judge.proofs.weakest.weakest_with.Given as goal

-- the weakest of the pairs so far
abbrev pub invariant-loop-j : goal.invariant-loop-j
invariant-loop-j l = (l.found ≡ weakest_with l.family l.senders l.inequality l.i l.j) × IfSome l.found (IsPairOf l.family)
