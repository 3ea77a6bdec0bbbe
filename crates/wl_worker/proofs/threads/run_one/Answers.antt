use Rattle.wl_worker.proofs.NodesOfWorker.{end_is}
use Rattle.wl_worker.proofs.threads.run_one.Goals as goal

pub returns-in-Ok : goal.returns-in-Ok
returns-in-Ok g c =
    end_is c.args.shared.now.plan.now c.args.shared.now.workers c.args.worker c.in-Ok.group c.work.result c.in-Ok.ensures c.work.ensures.finished c.work.ensures.fault
