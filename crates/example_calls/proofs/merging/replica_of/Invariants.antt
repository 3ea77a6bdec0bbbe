use Rattle.std.proofs.Common.{◌≡◌}
use Rattle.example_calls.proofs.merging.replica_of.Given as goal

-- taking a record leaves the number of nodes
abbrev pub invariant-loop-record : goal.invariant-loop-record
invariant-loop-record l = l.replica.nodes ≡ l.nodes
