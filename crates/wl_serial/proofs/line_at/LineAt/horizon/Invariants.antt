use Rattle.wl_serial.proofs.Known.{IsHorizon}
use Rattle.wl_serial.proofs.line_at.LineAt.horizon.Given as goal

-- what comes from the nodes so far is known below the horizon
abbrev pub invariant-loop-i : goal.invariant-loop-i
invariant-loop-i l = IsHorizon l.plan.end l.running l.known l.self.others l.i l.horizon
