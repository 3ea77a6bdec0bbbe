use Rattle.std.proofs.Common.{ℕ, ◌<◌}
use Rattle.std.specs.Bool.{Decides}
use Rattle.wl_plan.specs.PlanLine.{setup_at}
use Rattle.wl_respond.specs.Plans.{HasMessages, eleventh_sample}
use Rattle.wl_respond.proofs.plan.keeps_table.Given as goal

-- the nodes so far
abbrev pub invariant-loop-i : goal.invariant-loop-i
invariant-loop-i l = Decides l.keeps ((j : ℕ) → j < l.i → HasMessages l.messages j (eleventh_sample l.plan j) (setup_at l.plan j).queue)
