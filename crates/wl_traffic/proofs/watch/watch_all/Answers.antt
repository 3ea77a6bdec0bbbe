-- One node more.
use Rattle.std.proofs.Common.{◌∙◌, ◌||◌, ◌++◌, ◌∷◌, [], ap, ap₂, sym, zero-add, ℕ, Bool, List}
use Rattle.std.proofs.lemmas.List.FromFn.{map-range_with_len_more}
use Rattle.wl_plan.specs.declared.plan.Plan.{Plan}
use Rattle.wl_traffic.specs.declared.queues.NodeQueue.{NodeQueue}
use Rattle.wl_traffic.specs.Bus.{finds_busy, was_off}
use Rattle.wl_traffic.specs.Entries.{node_queue}
use Rattle.wl_traffic.proofs.Growing.{any_below_more}
use Rattle.wl_traffic.proofs.watch.watch_all.Goals as goal
use Rattle.wl_traffic.proofs.watch.watch_all.Goals.{then-off, else-off}

pub loop-i-preserved : goal.loop-i-preserved
loop-i-preserved c =
    let plan : Plan = c.args.plan.now in
    let i : ℕ = c.loop-i.i in
    let here : Bool = was_off plan i in
    record {
      busy = λ t.
          c.in_ok-queue.ensures.ticks t ∙ ap (λ (b : Bool). b || finds_busy plan t i) (c.loop-i.invariant.busy t)
          ∙ sym (any_below_more (finds_busy plan t) i);
      off =
          elim c.if-off.branch [
            | then-off w ↦
                w.off-is ∙ w.if-off.true ∙ ap (λ (b : Bool). b || here) (sym w.if-off.true ∙ c.loop-i.invariant.off)
                ∙ sym (any_below_more (was_off plan) i)
            | else-off w ↦
                w.off-is ∙ c.in_ok-queue.ensures.off ∙ ap (λ (b : Bool). b || here) (sym w.if-off.false ∙ c.loop-i.invariant.off)
                ∙ sym (any_below_more (was_off plan) i)
          ];
      queues =
          c.in_ok-push.ensures.ok
          ∙ ap₂ (λ (xs : List NodeQueue) (q : NodeQueue). xs ++ q ∷ []) c.loop-i.invariant.queues c.in_ok-queue.ensures.queue
          ∙ sym (map-range_with_len_more (node_queue plan) 0 i i (zero-add i));
    }
