use Rattle.std.proofs.Common.{◌≡◌, length, map}
use Rattle.std.specs.List.{range_with_len}
use Rattle.wl_serial.specs.Outcome.{node_outcome_of}
use Rattle.wl_serial.proofs.engine.finish.Given as goal

abbrev pub invariant-loop-r : goal.invariant-loop-r
invariant-loop-r l = l.nodes ≡ map (node_outcome_of l.plan) (range_with_len 0 (length l.yielded))
