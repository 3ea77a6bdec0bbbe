-- Each node begins after the ones before it.
use Rattle.wl_serial.proofs.Keeping.{keep_more}
use Rattle.wl_serial.proofs.Runners.{one_more}
use Rattle.wl_serial.proofs.engine.begin.Goals as goal

pub loop-i-preserved : goal.loop-i-preserved
loop-i-preserved c =
    let more = one_more c.args.plan.now c.loop-i.running.items c.push.new.self.items c.in_ok-begin.field-0 c.loop-i.i c.in_ok-push.ensures.items c.loop-i.invariant.0 c.loop-i.invariant.1
    c.in_ok-begin.ensures.running
    in (more.0, more.1, keep_more c.args.keeps c.loop-i.running.items c.push.new.self.items c.in_ok-begin.field-0 c.in_ok-push.ensures.items c.loop-i.invariant.2 c.in_ok-begin.ensures.keeps)
