use Rattle.std.proofs.Common.{◌≡◌, true}
use Rattle.wl_plan.specs.PlanLine.{line_of}
use Rattle.wl_group.specs.Party.{initial_silences}
use Rattle.wl_world.proofs.begin.first_records.Given as goal

abbrev pub invariant-loop-i : goal.invariant-loop-i
invariant-loop-i l = l.records.items ≡ initial_silences (line_of l.plan) (λ i. true) l.i
