-- A guess that failed leaves as many ticks, and the turn takes some.
use Rattle.std.proofs.Common.{arith}
use Rattle.wl_serial.proofs.Back.{went_less}
use Rattle.wl_serial.proofs.engine.Engine.step.Goals as goal

pub returns-in_ok-plain-2-clause-nearer : goal.returns-in_ok-plain-2-clause-nearer
returns-in_ok-plain-2-clause-nearer c =
    let less = went_less c.args.plan.now.end c.in_ok-failed.failed c.args.self.now.nodes.items c.guess.new.self.nodes.items c.in_ok-failed.ensures.went in
    let fewer = c.in_ok-plain-2.ensures.nearer in
    omega (arith, less, fewer)

pub returns-in_ok-plain-2-clause-keeps : goal.returns-in_ok-plain-2-clause-keeps
returns-in_ok-plain-2-clause-keeps c k all = c.in_ok-plain-2.ensures.keeps k (c.in_ok-failed.ensures.keeps k all)
