use Rattle.std.proofs.Common.{◌≡◌, length}
use Rattle.wl_replica.specs.State.{state_of}
use Rattle.wl_plan.specs.PlanLine.{line_of}
use Rattle.wl_group.specs.Party.{initial_silences}
use Rattle.wl_group.specs.Chosen.{is_chosen}
use Rattle.wl_group.proofs.begin.first_replica.Given as goal

abbrev pub invariant-loop-i : goal.invariant-loop-i
invariant-loop-i l = l.replica ≡ state_of (length l.plan.nodes) (initial_silences (line_of l.plan) (is_chosen l.chosen) l.i)
