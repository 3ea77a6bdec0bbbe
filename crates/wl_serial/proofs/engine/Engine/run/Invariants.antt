use Rattle.std.proofs.Common.{Bool}
use Rattle.wl_serial.specs.Engine.{IsEngine, KeepsLists}
use Rattle.wl_serial.specs.Running.{ticks_left}
use Rattle.wl_serial.proofs.engine.Engine.run.Given as goal

abbrev pub invariant-loop-j : goal.invariant-loop-j
invariant-loop-j l = IsEngine l.plan l.self × ((k : Bool) → KeepsLists k l.fn.self → KeepsLists k l.self)

abbrev pub decreases-loop-j : goal.decreases-loop-j
decreases-loop-j l = ticks_left l.plan.end l.self.nodes.items
