use Rattle.std.proofs.Common.{◌≡◌, ℕ, ◌<◌, ◌%◌, ◌==◌, ◌&&◌, nat_lt, All}
use Rattle.wl_group.specs.GroupValue.{names}
use Rattle.wl_worker.proofs.nodes_of_worker.members_of.Given as goal

abbrev pub invariant-loop-i : goal.invariant-loop-i
invariant-loop-i l = All (λ m. m < l.nodes) l.members.items × ((k : ℕ) → names l.members.items k ≡ (nat_lt k l.i && (k % l.workers == l.worker)))
