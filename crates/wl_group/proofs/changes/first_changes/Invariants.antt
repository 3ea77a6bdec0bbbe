use Rattle.std.proofs.Common.{◌≡◌}
use Rattle.wl_replica.specs.State.{slots_of}
use Rattle.wl_replica.specs.Known.{ticks}
use Rattle.wl_group.proofs.changes.first_changes.Given as goal

abbrev pub invariant-loop-seq : goal.invariant-loop-seq
invariant-loop-seq l = l.list ≡ ticks ((slots_of l.replica).edge l.node) l.seq
