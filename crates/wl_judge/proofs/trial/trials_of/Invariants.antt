use Rattle.std.proofs.Common.{◌≡◌}
use Rattle.wl_judge.specs.Trials.{trials_below}
use Rattle.wl_judge.proofs.trial.trials_of.Given as goal

-- the changes at the nodes so far
abbrev pub invariant-loop-i : goal.invariant-loop-i
invariant-loop-i l = l.all ≡ trials_below l.weak l.coarse l.i
