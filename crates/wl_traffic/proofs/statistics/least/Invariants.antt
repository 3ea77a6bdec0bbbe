use Rattle.std.proofs.Common.{◌≡◌, take, fold, min, slice_index}
use Rattle.wl_traffic.proofs.statistics.least.Given as goal

-- that of the numbers so far
abbrev pub invariant-loop-value : goal.invariant-loop-value
invariant-loop-value l = l.least ≡ fold min (slice_index l.values 0) (take l.value-index l.values)
