use Rattle.std.proofs.Common.{◌≡◌, ◌++◌, map, drop}
use Rattle.std.specs.List.{enumerate_from}
use Rattle.wl_sweep.specs.Changes.{set_at}
use Rattle.wl_sweep.proofs.change.nodes_set.Given as goal

abbrev pub invariant-loop-i : goal.invariant-loop-i
invariant-loop-i l = l.all ++ map (set_at l.key l.named l.value) (enumerate_from l.i (drop l.i l.nodes)) ≡ map (set_at l.key l.named l.value) (enumerate_from 0 l.nodes)
