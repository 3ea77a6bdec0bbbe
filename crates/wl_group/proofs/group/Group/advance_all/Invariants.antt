use Rattle.wl_group.specs.Running.{quanta_left, Ran}
use Rattle.wl_group.proofs.group.Group.advance_all.Given as goal

abbrev pub invariant-loop-i : goal.invariant-loop-i
invariant-loop-i l = Ran l.initial.self l.all.items l.self

abbrev pub decreases-loop-i : goal.decreases-loop-i
decreases-loop-i l = quanta_left l.self
