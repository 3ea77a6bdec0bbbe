-- A list of numbers that is one longer ends in the last of them.
use Rattle.std.proofs.Common.{zero-add}
use Rattle.std.proofs.lemmas.List.FromFn.{map-range_with_len_more}
use Rattle.wl_serial.specs.Outcome.{node_outcome_of}
use Rattle.wl_serial.proofs.laws.outcome_node_by_node.Goals as goal

pub returns : goal.returns
returns c plan n = map-range_with_len_more (node_outcome_of plan) 0 n n (zero-add n)
