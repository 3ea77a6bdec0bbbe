use Rattle.std.proofs.Common.{◌≡◌, ◌++◌, map, drop}
use Rattle.wl_judge.specs.Trials.{ready_later}
use Rattle.wl_judge.proofs.trial.all_ready_later.Given as goal

-- those of the frames that are left follow on these
abbrev pub invariant-loop-waiting : goal.invariant-loop-waiting
invariant-loop-waiting l = l.all ++ map ready_later (drop l.waiting-index l.queue) ≡ map ready_later l.queue
