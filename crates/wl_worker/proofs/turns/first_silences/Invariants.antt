use Rattle.std.proofs.Common.{◌≡◌}
use Rattle.wl_plan.specs.PlanLine.{line_of}
use Rattle.wl_group.specs.Party.{initial_silences}
use Rattle.wl_group.specs.GroupValue.{belongs}
use Rattle.wl_worker.specs.Handed.{AreTrueOfPlan}
use Rattle.wl_worker.proofs.turns.first_silences.Given as goal

abbrev pub invariant-loop-i : goal.invariant-loop-i
invariant-loop-i l = AreTrueOfPlan l.plan l.first.items × (l.first.items ≡ initial_silences (line_of l.plan) (belongs l.group) l.i)
