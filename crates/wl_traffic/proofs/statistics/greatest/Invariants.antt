use Rattle.std.proofs.Common.{◌≡◌, take, fold, max, slice_index}
use Rattle.wl_traffic.proofs.statistics.greatest.Given as goal

-- that of the numbers so far
abbrev pub invariant-loop-value : goal.invariant-loop-value
invariant-loop-value l = l.greatest ≡ fold max (slice_index l.values 0) (take l.value-index l.values)
