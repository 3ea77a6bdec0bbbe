use Rattle.std.proofs.Common.{◌≡◌, ◌<◌, take}
use Rattle.std.specs.List.{list_any}
use Rattle.wl_plan.specs.PlanLine.{is_at}
use Rattle.wl_pulse.specs.Pulses.{IsPulse}
use Rattle.wl_pulse.proofs.disturbed.disturbed_at.Given as goal

-- the pulse of the disturbances so far
abbrev pub invariant-loop-d : goal.invariant-loop-d
invariant-loop-d l = record {
  from : l.pulse.from ≡ l.t;
  until : l.t < l.pulse.until;
  dominant : IsPulse (λ u. list_any (is_at l.plan l.j u) (take l.d-index l.plan.disturbances)) l.pulse;
}
