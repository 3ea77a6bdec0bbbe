-- The children that are left have the promises of the workers that are left, and each end is what was promised.
use Rattle.std.proofs.Common.{◌≡◌, suc, ◌+◌, List, length, slice_index_or, vec_len, subst, refl, arith}
use Rattle.std.specs.Vec.Iter.{into_iter_items}
use Rattle.wl_worker.specs.NodesOfWorker.{IsEnd, IsPromise}
use Rattle.wl_worker.proofs.NodesOfWorker.{one_behind, end_of_promise}
use Rattle.wl_worker.proofs.threads.join_all.Goals as goal

pub loop-child-preserved : goal.loop-child-preserved
loop-child-preserved g c =
    let was = c.loop-child.invariant in
    let step = c.in-Some.ensures.steps in
    let pushed = c.push_reserved.ensures in
    let plan = c.args.shared.now.plan.now in
    let workers = c.args.shared.now.workers in
    let ends = c.loop-child.ends.items in
    let ok = c.loop-child.ends.ok in
    let n : length ends ≡ vec_len c.loop-child.ends = omega arith in
    let here = subst (λ (xs : List _). IsPromise plan workers (vec_len c.loop-child.ends + 0) (slice_index_or xs 0 c.in-Some.child).promise) step.0
    (was.2 0 c.in-Some.child (let s = step.1 in omega arith)) in
    let same : vec_len c.loop-child.ends + 0 ≡ length ends = omega arith in (
      (let m = was.0 in let l = pushed.len in let s = step.1 in omega arith),
      (let m = was.1 in let l = pushed.capacity in omega arith),
      (λ k d b.
          let next : vec_len c.loop-child.ends + suc k ≡ vec_len c.push_reserved.new.self + k = let l = pushed.len in omega arith in
          subst (λ j. IsPromise plan workers j (slice_index_or (into_iter_items c.next.new.self) k d).promise) next
          (subst (λ (xs : List _). IsPromise plan workers (vec_len c.loop-child.ends + suc k) (slice_index_or xs (suc k) d).promise) step.0
          (was.2 (suc k) d (let s = step.1 in omega arith)))),
      (λ w d b. one_behind ends c.push_reserved.new.self.items c.join.result (length ends) (λ j end. IsEnd plan workers j end) pushed.items refl was.3
          (end_of_promise plan workers (length ends) c.in-Some.child.promise c.join.result
          (subst (λ j. IsPromise plan workers j c.in-Some.child.promise) same here) c.join.ensures)
          w d (let l = pushed.len in let more_ok = c.push_reserved.new.self.ok in omega arith)),
    )
