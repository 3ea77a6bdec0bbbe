use Rattle.std.proofs.Common.{◌≡◌, ℕ, map}
use Rattle.std.specs.List.{list_any, range_with_len}
use Rattle.wl_intervals.specs.Pairs.{covers}
use Rattle.wl_traffic.specs.Bus.{finds_busy, was_off}
use Rattle.wl_traffic.specs.Entries.{node_queue}
use Rattle.wl_traffic.proofs.watch.watch_all.Given as goal

-- what is seen of the nodes so far
abbrev pub invariant-loop-i : goal.invariant-loop-i
invariant-loop-i l = record {
  busy : (t : ℕ) → covers l.busy t ≡ list_any (finds_busy l.plan t) (range_with_len 0 l.i);
  off : l.off ≡ list_any (was_off l.plan) (range_with_len 0 l.i);
  queues : l.queues ≡ map (node_queue l.plan) (range_with_len 0 l.i);
}
