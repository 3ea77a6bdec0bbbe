use Rattle.wl_serial.specs.Guess.{HaveListened}
use Rattle.wl_serial.specs.LineAt.{AreLines, AreHeard}
use Rattle.wl_serial.proofs.guess.follow.Given as goal

-- the nodes so far have listened
abbrev pub invariant-loop-i : goal.invariant-loop-i
invariant-loop-i l = AreLines l.plan l.lines × AreHeard l.plan l.running l.lines × HaveListened l.plan l.j l.until l.i l.fn.running l.running
