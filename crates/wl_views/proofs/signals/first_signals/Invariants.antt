use Rattle.std.proofs.Common.{◌≡◌, ℕ, map}
use Rattle.std.specs.List.{range_with_len}
use Rattle.wl_views.specs.Probe.{AllWatched}
use Rattle.wl_views.specs.Signals.{node_signals}
use Rattle.wl_views.proofs.signals.first_signals.Given as goal

-- the signals of the nodes so far
abbrev pub invariant-loop-i : goal.invariant-loop-i
invariant-loop-i l = record {
  now : (t : ℕ) → AllWatched l.plan t l.probes → l.now.items ≡ map (node_signals l.plan t) (range_with_len 0 l.i);
}
