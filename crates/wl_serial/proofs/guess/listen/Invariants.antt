use Rattle.wl_serial.specs.Guess.{RanAlone}
use Rattle.wl_serial.specs.LineAt.{AreLines, AreHeard}
use Rattle.wl_serial.specs.Running.{AreSomewhere, ticks_left}
use Rattle.wl_serial.specs.Stretch.{TellsTheSame}
use Rattle.wl_serial.proofs.guess.listen.Given as goal

-- the node has run alone, and told nothing
abbrev pub invariant-loop-running : goal.invariant-loop-running
invariant-loop-running l =
    AreLines l.plan l.lines
    × AreHeard l.plan l.running l.lines
    × AreSomewhere l.plan l.running
    × RanAlone l.plan l.i l.until l.fn.running l.running
    × TellsTheSame l.i l.fn.running l.running

abbrev pub decreases-loop-running : goal.decreases-loop-running
decreases-loop-running l = ticks_left l.plan.end l.running
