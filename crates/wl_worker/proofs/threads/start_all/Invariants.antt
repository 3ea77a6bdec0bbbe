use Rattle.std.proofs.Common.{◌≡◌, ℕ, ◌+◌, ◌<◌, ◌≤◌, get_or, vec_items, vec_len, vec_capacity}
use Rattle.std.specs.Vec.Iter.{into_iter_items, into_iter_len}
use Rattle.wl_worker.specs.NodesOfWorker.{IsPromise}
use Rattle.wl_worker.proofs.threads.start_all.Given as goal

abbrev pub invariant-loop-link : goal.invariant-loop-link
invariant-loop-link g l =
    let rest = l.link-iterator in
    (l.worker + into_iter_len rest ≡ l.shared.workers) × (vec_len l.children ≡ l.worker) × (l.shared.workers ≤ vec_capacity l.children)
    × ((k : ℕ) (d : _) → k < into_iter_len rest → g.L.Link.is_of (get_or (into_iter_items rest) k d) l.shared.plan.now)
    × ((k : ℕ) (d : _) → k < into_iter_len rest → g.L.Link.number (get_or (into_iter_items rest) k d) ≡ l.worker + k)
    × ((k : ℕ) (d : _) → k < l.worker → IsPromise l.shared.plan.now l.shared.workers k (get_or (vec_items l.children) k d).promise)
