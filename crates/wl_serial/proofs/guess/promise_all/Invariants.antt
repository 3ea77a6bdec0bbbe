use Rattle.std.proofs.Common.{Bool, List, ◌≤◌}
use Rattle.wl_serial.specs.declared.line_at.LineAt.{LineAt}
use Rattle.wl_serial.specs.LineAt.{AreHeard}
use Rattle.wl_serial.specs.Running.{AllKeep, AreRunning, ticks_left}
use Rattle.wl_serial.proofs.guess.promise_all.Given as goal

-- what was heard stays, and so do the ticks that are left
abbrev pub invariant-loop-i : goal.invariant-loop-i
invariant-loop-i l =
    AreRunning l.plan l.running
    × ((lines : List LineAt) → AreHeard l.plan l.fn.running lines → AreHeard l.plan l.running lines)
    × (ticks_left l.plan.end l.running ≤ ticks_left l.plan.end l.fn.running)
    × ((k : Bool) → AllKeep k l.fn.running → AllKeep k l.running)
