use Rattle.std.proofs.Common.{◌≡◌, ◌*◌, ◌≤◌, take, sum}
use Rattle.wl_traffic.proofs.statistics.sum.Given as goal

-- the sum so far, and that it is far from the type's end
abbrev pub invariant-loop-value : goal.invariant-loop-value
invariant-loop-value l = record { total : l.sum ≡ sum (take l.value-index l.values); small : l.sum ≤ l.value-index * 18446744073709551615 }
