use Rattle.std.proofs.Common.{◌≡◌, ℕ, ◌*◌, ◌/◌, ◌<◌, ◌≤◌}
use Rattle.wl_views.specs.Calendar.{IsTreeBut, date_at}
use Rattle.wl_views.proofs.calendar.settle.Given as goal

-- all is in order but for the place above
abbrev pub invariant-loop-at : goal.invariant-loop-at
invariant-loop-at l = record {
  some : 1 ≤ l.at;
  inside : l.at < 2 * l.nodes;
  tree : IsTreeBut l.nodes (l.at / 2) l.tree;
  leaves : (k : ℕ) → l.nodes ≤ k → date_at l.tree k ≡ date_at l.fn.tree k;
}

abbrev pub decreases-loop-at : goal.decreases-loop-at
decreases-loop-at l = l.at
