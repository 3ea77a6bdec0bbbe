-- Below that tick nothing else is there.
use Rattle.std.proofs.Common.{arith}
use Rattle.wl_serial.proofs.Only.{hears_only}
use Rattle.wl_serial.proofs.line_at.LineAt.alone_until.Goals as goal

pub returns : goal.returns
returns c =
    let plan = c.args.plan.now in
    let rs = c.args.running.now in
    let few = c.laws.ensures.checked.few_nodes in
    let min = c.min.ensures in
    hears_only plan rs c.args.j c.args.i c.alone_until.result c.min.result c.args.self.now c.requires.leader few
    c.alone_until.ensures (omega (arith, min)) c.requires.heard c.requires.line.disturbance c.if-self.false (omega (arith, min))
