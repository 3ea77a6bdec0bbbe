use Rattle.std.proofs.Common.{◌≡◌, map}
use Rattle.std.specs.List.{range_with_len}
use Rattle.wl_serial.specs.Outcome.{node_outcome_of}
use Rattle.wl_worker.proofs.threads.outcome_from.Given as goal

abbrev pub invariant-loop-i : goal.invariant-loop-i
invariant-loop-i l = l.nodes ≡ map (node_outcome_of l.plan) (range_with_len 0 l.i)
