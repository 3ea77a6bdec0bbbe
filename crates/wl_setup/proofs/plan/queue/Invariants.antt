use Rattle.std.proofs.Common.{◌≡◌, length}
use Rattle.wl_setup.specs.Plans.{queued_of}
use Rattle.wl_setup.proofs.PlanLemmas.{IsSoFar}
use Rattle.wl_setup.proofs.plan.queue.Given as goal

-- those of the frames so far, one for each
abbrev pub invariant-loop-n : goal.invariant-loop-n
invariant-loop-n l = record { made : IsSoFar (queued_of l.i) l.queue l.n l.frames; each : length l.queue ≡ l.n }
