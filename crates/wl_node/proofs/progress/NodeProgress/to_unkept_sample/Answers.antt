-- The quanta so far, and some more.
use Rattle.std.proofs.Common.{arith}
use Rattle.wl_node.proofs.Listening.{kept_more, progressed_more, keeps_more}
use Rattle.wl_node.proofs.progress.NodeProgress.to_unkept_sample.Goals as goal

pub loop-done-preserved : goal.loop-done-preserved
loop-done-preserved c =
    let old = c.args.self.now in
    let mid = c.loop-done.self in
    let new = c.to_edge_or_unkept_sample-kept.new.self in
    let a = c.loop-done.done in
    let b = c.to_edge_or_unkept_sample-kept.result in
    let was = c.loop-done.invariant in
    let e = c.to_edge_or_unkept_sample-kept.ensures in (
      (λ setup. progressed_more setup c.args.level a b old mid new (was.0 setup) (e.place setup)),
      (λ setup. keeps_more setup c.args.level a b old mid new (was.0 setup) (was.1 setup) (e.drive setup)),
      omega (arith, e.few),
      kept_more was.3 e.keeps,
    )
