use Rattle.std.proofs.Common.{◌≡◌, ◌++◌, map, drop}
use Rattle.wl_judge.specs.Trials.{halved}
use Rattle.wl_judge.proofs.trial.all_halved.Given as goal

-- those of the rates that are left follow on these
abbrev pub invariant-loop-rate : goal.invariant-loop-rate
invariant-loop-rate l = l.all ++ map halved (drop l.rate-index l.rates) ≡ map halved l.rates
