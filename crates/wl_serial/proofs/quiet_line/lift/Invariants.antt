use Rattle.std.proofs.Common.{Bool}
use Rattle.wl_serial.specs.QuietLine.{AreLifted, AllStay}
use Rattle.wl_serial.specs.Running.{AllKeep, AreRunning, AreKnown}
use Rattle.wl_serial.proofs.quiet_line.lift.Given as goal

abbrev pub invariant-loop-i : goal.invariant-loop-i
invariant-loop-i l =
    AreRunning l.plan l.running
    × AreKnown l.plan.end l.running l.known
    × AllStay l.plan l.until l.running
    × AreLifted l.plan l.fn.running l.running
    × ((k : Bool) → AllKeep k l.fn.running → AllKeep k l.running)
