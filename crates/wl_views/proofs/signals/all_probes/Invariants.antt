use Rattle.std.proofs.Common.{◌≡◌, ℕ, ◌<◌, length, get_or}
use Rattle.wl_views.specs.declared.probe.Probe.{Probe}
use Rattle.wl_views.specs.Probe.{Watches}
use Rattle.wl_views.proofs.signals.all_probes.Given as goal

-- what is known of the nodes so far
abbrev pub invariant-loop-i : goal.invariant-loop-i
invariant-loop-i l = record {
  long : length l.probes.items ≡ l.i;
  known : (k : ℕ) (d : Probe) → k < l.i → Watches l.plan k l.at (get_or l.probes.items k d);
}
