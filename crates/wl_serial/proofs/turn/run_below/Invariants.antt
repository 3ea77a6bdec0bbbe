use Rattle.std.proofs.Common.{◌≡◌, ◌⊎◌, ◌<◌, Bool}
use Rattle.wl_serial.specs.LineAt.{AreLines, AreHeard}
use Rattle.wl_serial.specs.Running.{AllKeep, AreRunning, KnowsOthers, OnlyOne, ticks_left}
use Rattle.wl_serial.proofs.turn.run_below.Given as goal

-- the others wait, so that the horizon stays; and fewer ticks are left, once a quantum has run
abbrev pub invariant-loop-running : goal.invariant-loop-running
invariant-loop-running l =
    AreRunning l.plan l.running
    × AreLines l.plan l.lines
    × AreHeard l.plan l.running l.lines
    × OnlyOne l.j l.fn.running l.running
    × KnowsOthers l.plan l.j l.horizon l.running
    × ((l.running ≡ l.fn.running) ⊎ (ticks_left l.plan.end l.running < ticks_left l.plan.end l.fn.running))
    × ((k : Bool) → AllKeep k l.fn.running → AllKeep k l.running)

abbrev pub decreases-loop-running : goal.decreases-loop-running
decreases-loop-running l = ticks_left l.plan.end l.running
