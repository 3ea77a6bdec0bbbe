use Rattle.std.proofs.Common.{◌≡◌, map}
use Rattle.std.specs.List.{range_with_len}
use Rattle.wl_serial.specs.Outcome.{node_outcome_of}
use Rattle.wl_world.proofs.world.World.outcome.Given as goal

abbrev pub invariant-loop-i : goal.invariant-loop-i
invariant-loop-i l = l.nodes ≡ map (node_outcome_of l.self.plan) (range_with_len 0 l.i)
