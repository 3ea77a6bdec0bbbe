use Rattle.std.proofs.Common.{◌≡◌, ◌*◌, ◌≤◌, take}
use Rattle.std.specs.List.{sum_by}
use Rattle.wl_report.proofs.verdict.all_unsent.Given as goal

-- the sum so far, and that it is far from the type's end
abbrev pub invariant-loop-node : goal.invariant-loop-node
invariant-loop-node l =
    record { total : l.sum ≡ sum_by (λ n. n.unsent) (take l.node-index l.nodes); small : l.sum ≤ l.node-index * 18446744073709551615 }
