-- What is written of a plan (this project's profile).
use Rattle.std.specs.Prelude.{ℕ, List}
use Rattle.wl_plan.specs.declared.plan.Plan.{Plan}
use Rattle.wl_setup.specs.Check.{IsPlanCheck}
use Rattle.wl_engines.specs.Plans.{IsRecordsWithin, IsTracePicked, IsCandumpWithin, IsErrorLog, IsVcdWithin}
use Rattle.wl_engines.specs.declared.view.View.{View}
use Rattle.wl_engines.specs.declared.view.View.TheVariants.{Check, Records, Trace, Candump, ErrorLog, Vcd}

-- the output of each view, of a plan and the names of its nodes
abbrev pub IsOutputOf : View → Plan → List (List ℕ) → List ℕ → Type 0
IsOutputOf Check = IsPlanCheck
IsOutputOf (Records window) = IsRecordsWithin window
IsOutputOf (Trace pick) = IsTracePicked pick
IsOutputOf (Candump tick from window) = IsCandumpWithin tick from window
IsOutputOf (ErrorLog tick from window) = IsErrorLog tick from window
IsOutputOf (Vcd tick window) = IsVcdWithin tick window
