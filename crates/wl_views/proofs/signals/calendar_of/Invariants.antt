use Rattle.std.proofs.Common.{◌≡◌, ℕ, ◌+◌, ◌*◌, ◌<◌, get_or, length}
use Rattle.std.specs.Prelude.{min}
use Rattle.wl_views.specs.declared.probe.Probe.{Probe}
use Rattle.wl_views.specs.Calendar.{date_at}
use Rattle.wl_views.proofs.signals.calendar_of.Given as goal

-- the dates of the nodes so far
abbrev pub invariant-loop-i : goal.invariant-loop-i
invariant-loop-i l = record {
  nodes : l.calendar.nodes ≡ length l.probes;
  each : (k : ℕ) (d : Probe) → k < l.i → date_at l.calendar.tree (l.calendar.nodes + k) ≡ min (get_or l.probes k d).until l.plan.end * 64 + k;
}
