-- The links that are left are of the plan, each of its worker, and each child has the promise of its worker.
use Rattle.std.proofs.Common.{◌≡◌, suc, ◌+◌, List, length, slice_index_or, subst, ◌∙◌, arith}
use Rattle.wl_worker.specs.NodesOfWorker.{IsPromise}
use Rattle.wl_worker.proofs.NodesOfWorker.{one_behind}
use Rattle.wl_worker.proofs.threads.start_all.Goals as goal

pub loop-link-preserved : goal.loop-link-preserved
loop-link-preserved g c =
    let was = c.loop-link.invariant in
    let step = c.in-Some.ensures.steps in
    let pushed = c.push_reserved.ensures in
    let ok = c.loop-link.children.ok in
    let many : length c.loop-link.children.items ≡ c.loop-link.worker = let m = was.1 in omega arith in (
      (let m = was.0 in let s = step.1 in omega arith),
      (let m = was.1 in let n = pushed.len in omega arith),
      (let m = was.2 in let n = pushed.capacity in omega arith),
      (λ k d b. subst (λ (xs : List g.row.L.Denot). g.L.Link.is_of (slice_index_or xs (suc k) d) c.args.shared.now.plan.now) step.0 (was.3 (suc k) d (let s = step.1 in omega arith))),
      (λ k d b.
          let here : g.L.Link.number (slice_index_or _ k d) ≡ c.loop-link.worker + suc k
          = subst (λ (xs : List g.row.L.Denot). g.L.Link.number (slice_index_or xs (suc k) d) ≡ c.loop-link.worker + suc k) step.0 (was.4 (suc k) d (let s = step.1 in omega arith)) in
          here ∙ (let e : c.loop-link.worker + suc k ≡ c.loop-link.worker + 1 + k = omega arith in e)),
      (λ k d b. one_behind c.loop-link.children.items c.push_reserved.new.self.items c.in-Ok.child c.loop-link.worker (λ j child. IsPromise c.args.shared.now.plan.now c.args.shared.now.workers j child.promise)
          pushed.items many was.5 c.in-Ok.ensures.promise k d b),
    )

pub start-requires-clause-number : goal.start-requires-clause-number
start-requires-clause-number g c κs within =
    let was = c.loop-link.invariant in
    let step = c.in-Some.ensures.steps in
    let here = subst (λ (xs : List g.row.L.Denot). g.L.Link.number (slice_index_or xs 0 c.in-Some.link) ≡ c.loop-link.worker + 0) step.0
    (was.4 0 c.in-Some.link (let s = step.1 in omega arith)) in
    here ∙ (let e : c.loop-link.worker + 0 ≡ c.loop-link.worker = omega arith in e)
