use Rattle.std.proofs.Common.{◌≡◌}
use Rattle.wl_topology.specs.Driven.{any_below}
use Rattle.wl_bound.specs.Families.{member_at}
use Rattle.wl_bound.specs.Oscillators.{longest_of}
use Rattle.wl_judge.specs.Weakest.{has_longer}
use Rattle.wl_judge.proofs.weakest.is_coarsest.Given as goal

-- one of the nodes so far has longer quanta
abbrev pub invariant-loop-j : goal.invariant-loop-j
invariant-loop-j l = (l.any ≡ any_below l.j (has_longer l.family l.i)) × (l.own ≡ longest_of (member_at l.family l.i).oscillator 0)
