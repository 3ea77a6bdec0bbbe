use Rattle.std.proofs.Common.{◌≡◌, ℕ, ◌+◌, ◌-◌, ◌*◌, ◌<◌, ◌≤◌, ◌++◌, length, get_or, take}
use Rattle.arrayvec.specs.ArrayVec.{array_vec_len}
use Rattle.wl_views.specs.declared.probe.Probe.{Probe}
use Rattle.wl_views.specs.Calendar.{IsFirst}
use Rattle.wl_views.specs.Limits.{longest_node_changes}
use Rattle.wl_views.specs.Probe.{IsCalendarOf, Watches}
use Rattle.wl_views.specs.Signals.{signals}
use Rattle.wl_views.specs.Vcd.{changes_from}
use Rattle.wl_views.proofs.signals.push_changes.Given as goal

-- the lines of the nodes so far; what is known of them from this tick on, and of the others from the tick before
abbrev pub invariant-loop-next : goal.invariant-loop-next
invariant-loop-next l = record {
  lines : l.text.items ≡ l.fn.text.items ++ changes_from 0 (take l.next (signals l.plan (l.t - 1))) (take l.next (signals l.plan l.t));
  room : array_vec_len l.text ≤ array_vec_len l.fn.text + l.next * longest_node_changes;
  inside : l.next ≤ length l.plan.nodes;
  long : length l.probes ≡ length l.plan.nodes;
  known : (k : ℕ) (d : Probe) → k < l.next → Watches l.plan k l.t (get_or l.probes k d);
  others : (k : ℕ) (d : Probe) → l.next ≤ k → k < length l.plan.nodes → Watches l.plan k (l.t - 1) (get_or l.probes k d);
  calendar : IsCalendarOf l.plan.end l.probes l.calendar;
  first : IsFirst l.calendar.nodes l.calendar.tree l.first;
}

abbrev pub decreases-loop-next : goal.decreases-loop-next
decreases-loop-next l = length l.plan.nodes - l.next
