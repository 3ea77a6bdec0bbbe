use Rattle.std.proofs.Common.{◌<◌, ◌≤◌, get_or}
use Rattle.wl_serial.specs.declared.running_node.Running.{Running}
use Rattle.wl_serial.specs.Guess.{RanAlone}
use Rattle.wl_serial.specs.LineAt.{AreLines, AreHeard}
use Rattle.wl_serial.specs.Running.{AreSomewhere, ticks_left}
use Rattle.wl_serial.proofs.guess.lead.Given as goal

-- the node has run alone
abbrev pub invariant-loop-running : goal.invariant-loop-running
invariant-loop-running l =
    AreLines l.plan l.lines
    × AreHeard l.plan l.running l.lines
    × AreSomewhere l.plan l.running
    × RanAlone l.plan l.j l.plan.end l.fn.running l.running
    × ((d : Running) → (get_or l.fn.running l.j d).next < (get_or l.running l.j d).next)
    × (l.stop ≤ l.plan.end)

abbrev pub decreases-loop-running : goal.decreases-loop-running
decreases-loop-running l = ticks_left l.plan.end l.running
