use Rattle.std.proofs.Common.{◌≡◌, ◌≤◌}
use Rattle.wl_counts.specs.Counts.{one_if, sum_below}
use Rattle.wl_respond.specs.Texts.{misses}
use Rattle.wl_respond.proofs.verdict.missed_count.Given as goal

-- those so far
abbrev pub invariant-loop-e : goal.invariant-loop-e
invariant-loop-e l = (l.count ≡ sum_below (λ e. one_if (misses l.lines e)) l.e) × (l.count ≤ l.e)
