use Rattle.std.proofs.Common.{◌≡◌, fold, max}
use Rattle.std.specs.List.{range_with_len}
use Rattle.wl_traffic.specs.Late.{period_at}
use Rattle.wl_traffic.proofs.late.longest_period_in.Given as goal

-- the longest so far
abbrev pub invariant-loop-k : goal.invariant-loop-k
invariant-loop-k l = l.longest ≡ fold (λ most k. max most (period_at l.queue k)) 0 (range_with_len 0 l.k)
