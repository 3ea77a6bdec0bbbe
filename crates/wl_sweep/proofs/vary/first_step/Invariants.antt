use Rattle.std.proofs.Common.{◌≡◌, drop}
use Rattle.wl_sweep.specs.Vary.{first_step}
use Rattle.wl_sweep.proofs.vary.first_step.Given as goal

abbrev pub invariant-loop-step : goal.invariant-loop-step
invariant-loop-step l = first_step l.distance (drop l.step-index l.steps) ≡ first_step l.distance l.steps
