use Rattle.std.proofs.Common.{◌≡◌, ℕ, ◌+◌, ◌<◌, get_or, vec_len, vec_capacity}
use Rattle.std.specs.Vec.Iter.{into_iter_items, into_iter_len}
use Rattle.wl_worker.specs.NodesOfWorker.{IsPromise, EndsKept}
use Rattle.wl_worker.proofs.threads.join_all.Given as goal

abbrev pub invariant-loop-child : goal.invariant-loop-child
invariant-loop-child g l =
    let rest = l.child-iterator in
    (vec_len l.ends + into_iter_len rest ≡ vec_len l.fn.children) × (vec_capacity l.ends ≡ vec_capacity l.fn.ends)
    × ((k : ℕ) (d : _) → k < into_iter_len rest → IsPromise l.shared.plan.now l.shared.workers (vec_len l.ends + k) (get_or (into_iter_items rest) k d).promise)
    × EndsKept l.shared.plan.now l.shared.workers l.ends.items
