-- The group has the worker's share.
use Rattle.std.proofs.Common.{◌≡◌, ◌∙◌, true, ap}
use Rattle.wl_group.specs.GroupValue.{GroupValue, belongs, names, initial_group}
use Rattle.wl_worker.specs.NodesOfWorker.{IsShare}
use Rattle.wl_worker.proofs.NodesOfWorker.{both_ok, share_is}
use Rattle.wl_worker.proofs.nodes_of_worker.share_of.Goals as goal

pub returns : goal.returns
returns c =
    let plan = c.args.plan.now in
    both_ok c.new.result (λ (g : GroupValue). g ≡ initial_group true c.deref.result.now (names c.as_slice.result.now)) (λ (g : GroupValue). belongs g ≡ names c.as_slice.result.now)
    (IsShare plan c.args.workers c.args.worker)
    (λ g v m. share_is plan c.args.workers c.args.worker c.nodes.result g c.in_ok-members.members.items c.as_slice.result.now c.nodes.ensures.value c.as_slice.ensures.value
    (ap (λ (x : GroupValue). x.plan) v ∙ c.deref.ensures.0) (ap (λ (x : GroupValue). x.lists) v) m c.in_ok-members.ensures.all)
    c.new.ensures.value c.new.ensures.members
