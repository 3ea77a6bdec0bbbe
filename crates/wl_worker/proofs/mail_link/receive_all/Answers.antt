-- All letters so far, and the next one.
use Rattle.std.proofs.Common.{arith}
use Rattle.wl_worker.proofs.Handing.{handed_one}
use Rattle.wl_worker.proofs.Took.{took_both, changed_both}
use Rattle.wl_worker.proofs.mail_link.receive_all.Goals as goal

pub loop-preserved : goal.loop-preserved
loop-preserved g c =
    let was = c.loop.invariant in
    let took = c.in_ok-news.ensures.took in (
      (let n = c.in_ok-news.ensures.handed.counted in let m = was.0 in omega arith),
      took_both c.taking_laws.ensures c.args.group.now c.loop.group c.receive.new.group was.1 took,
      changed_both c.taking_laws.ensures c.args.group.now c.loop.group c.receive.new.group was.1 took c.loop.came c.in_ok-news.news was.2 c.in_ok-news.ensures.changed,
      handed_one c.taking_laws.ensures c.loop.counter c.args.post.now c.loop.post c.receive.new.self c.args.group.now c.loop.group c.receive.new.group was.0 was.3
          c.in_ok-news.ensures.kept c.in_ok-news.ensures.handed,
    )
