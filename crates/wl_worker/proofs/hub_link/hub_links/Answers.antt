-- Each link has a pass of the hub's name.
use Rattle.std.proofs.Common.{◌≡◌, ◌∙◌, length, arith}
use Rattle.wl_worker.specs.PlanName.{IsOfPlan}
use Rattle.wl_worker.proofs.NodesOfWorker.{one_behind}
use Rattle.wl_worker.proofs.hub_link.hub_links.Goals as goal

pub loop-worker-preserved : goal.loop-worker-preserved
loop-worker-preserved g c =
    let was = c.loop-worker.invariant in
    let own = c.split-own.ensures in
    let pushed = c.push_reserved.ensures in
    let ok = c.loop-worker.links.ok in
    let more_ok = c.push_reserved.new.self.ok in
    let many : length c.loop-worker.links.items ≡ c.loop-worker.worker = let m = was.2 in omega arith in (
      own.here.0,
      own.same.0.name ∙ was.1,
      (let m = was.2 in let n = pushed.len in omega arith),
      (let m = was.3 in let n = pushed.capacity in omega arith),
      (λ plan k d h b. one_behind c.loop-worker.links.items c.push_reserved.new.self.items c.in_ok-link.link c.loop-worker.worker (λ j link. IsOfPlan link.hub.now link.pass plan)
          pushed.items many (λ j u low. was.4 plan j u h (omega arith))
          (c.in_ok-link.ensures.plan plan (record { name = own.new.0 ∙ (was.1 ∙ h.name); checked = h.checked; words = h.words })) k d
          (let m = was.2 in let n = pushed.len in omega arith)),
      (λ k d b. one_behind c.loop-worker.links.items c.push_reserved.new.self.items c.in_ok-link.link c.loop-worker.worker (λ j link. link.worker ≡ j)
          pushed.items many (λ j u low. was.5 j u (omega arith)) c.in_ok-link.ensures.number k d (let m = was.2 in let n = pushed.len in omega arith)),
    )
