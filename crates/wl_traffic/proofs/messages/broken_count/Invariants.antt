use Rattle.std.proofs.Common.{◌≡◌, ◌*◌, ◌≤◌, take}
use Rattle.std.specs.List.{sum_by}
use Rattle.wl_traffic.proofs.messages.broken_count.Given as goal

-- the sum so far, and that it is far from the type's end
abbrev pub invariant-loop-entry : goal.invariant-loop-entry
invariant-loop-entry l = record { total : l.count ≡ sum_by (λ e. e.broken) (take l.entry-index l.mine); small : l.count ≤ l.entry-index * 18446744073709551615 }
