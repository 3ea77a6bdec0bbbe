use Rattle.std.proofs.Common.{◌<◌, ◌%◌, ◌==◌, arith}
use Rattle.wl_worker.proofs.NodesOfWorker.{chosen_more}
use Rattle.wl_worker.proofs.nodes_of_worker.members_of.Goals as goal

pub loop-i-preserved : goal.loop-i-preserved
loop-i-preserved c =
    let was = c.loop-i.invariant in
    let i = c.loop-i.i in
    let low : i < c.args.nodes = let l = c.loop-i-test.true in omega arith in (
      c.in_ok-add_member.ensures.below c.args.nodes low was.0,
      chosen_more (λ k. k % c.args.workers == c.args.worker) c.loop-i.members.items c.add_member.new.members.items i c.in_ok-add_member.ensures.named was.1,
    )
