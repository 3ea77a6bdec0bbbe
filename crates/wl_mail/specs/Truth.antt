-- The truth of several records of a plan. This project's profile.
use Rattle.std.specs.Prelude.{Bool, List, length}
use Rattle.std.specs.List.{list_all}
use Rattle.wl_record_core.specs.declared.record.Record.{Record}
use Rattle.wl_record_core.specs.Truth.{AreTrueOf}
use Rattle.wl_plan.specs.declared.plan.Plan.{Plan}
use Rattle.wl_plan.specs.PlanLine.{table_of, is_true_of_plan}

-- each of these records is true of the plan
abbrev pub AreTrueOfPlan : Plan → List Record → Type 0
AreTrueOfPlan plan rs = AreTrueOf (length plan.nodes) (table_of plan) rs

-- the same as a test, which is what a letter keeps
abbrev pub are_true_of_plan : Plan → List Record → Bool
are_true_of_plan plan rs = list_all (is_true_of_plan plan) rs
