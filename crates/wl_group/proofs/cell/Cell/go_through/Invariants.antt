use Rattle.wl_group.specs.Through.{HasGoneIn}
use Rattle.wl_group.proofs.cell.Cell.go_through.Given as goal

abbrev pub invariant-loop-m : goal.invariant-loop-m
invariant-loop-m l = HasGoneIn l.plan l.i l.end l.fn.self l.self l.turned
