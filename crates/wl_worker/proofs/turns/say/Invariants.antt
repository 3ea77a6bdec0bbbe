use Rattle.std.proofs.Common.{◌≡◌, ◌++◌}
use Rattle.wl_group.specs.Led.{LedTo}
use Rattle.wl_group.specs.Running.{quanta_left}
use Rattle.wl_worker.specs.Handed.{AreTrueOfPlan}
use Rattle.wl_worker.proofs.turns.say.Given as goal

abbrev pub invariant-loop-i : goal.invariant-loop-i
invariant-loop-i l =
    AreTrueOfPlan l.fn.group.plan l.said.items × LedTo l.fn.group l.group
    × (l.group.emitted ≡ l.fn.group.emitted ++ l.said.items)

abbrev pub decreases-loop-i : goal.decreases-loop-i
decreases-loop-i l = quanta_left l.group
