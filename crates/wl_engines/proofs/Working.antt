-- Runs of workers.
use Rattle.std.proofs.Common.{◌≡◌, ◌∙◌, ℕ, Bool, List, Result, Ok, Err, sym, subst}
use Rattle.std.specs.Prelude.{IfErr, IfOk, MatchResult}
use Rattle.wl_device.specs.Devices.{Answer}
use Rattle.wl_plan.specs.declared.plan.Plan.{Plan}
use Rattle.wl_setup.specs.Plans.{GivesPlan}
use Rattle.wl_engines.specs.declared.fault.RunFault.{RunFault}
use Rattle.wl_engines.specs.declared.fault.RunFault.TheVariants as run
use Rattle.wl_engines.specs.declared.plan.Report.{Report}
use Rattle.wl_engines.specs.Output.{WritesAnswer}
use Rattle.wl_report.specs.Report.{report_text}
use Rattle.wl_serial.specs.Outcome.{outcome_of, totals_of}
use Rattle.wl_engines.specs.Plans.{IsReportOutput, is_clean_run, shown_totals}
use Rattle.wl_engines.specs.Workers.{CanWork, IsWorkFault, RunsByWorkersAs}

-- the report of the workers, and its verdict
pub is_report : (brief : Bool) (plan : Plan) (names : List (List ℕ)) (made : Result Report RunFault)
    → IfOk made (λ x. x.text.items ≡ report_text (shown_totals brief (totals_of (outcome_of plan)))) → IfOk made (λ x. x.clean ≡ is_clean_run plan)
    → IfOk made (λ x. IsReportOutput brief plan names x.text.items x.clean)
is_report brief plan names (Ok x) text clean = (text, clean)
is_report brief plan names (Err fault) text clean = tt

module _ {S T : Type 0} (gives : S → Answer → S → Type 0) (takes : T → Answer → T → Type 0) (brief : Bool) (workers : ℕ) (s s' : S) (t t' : T) where
  -- the workers came to no outcome
  ended : (plan : Plan) (names : List (List ℕ)) → GivesPlan gives s (Ok (plan, names)) s' → (fault : RunFault) → IsWorkFault workers fault
      → t' ≡ t → RunsByWorkersAs gives takes brief workers s s' t t' (Err fault)
  ended plan names given (run.Work fault) h same = ((h, plan, names, given), same)
  ended plan names given run.Memory h same = same
  ended plan names given run.Write h same = absurd h
  ended plan names given (run.Text fault) h same = absurd h
  ended plan names given (run.Setup fault) h same = absurd h

  -- the report of the workers went out, or there is none
  pub runs_work : (plan : Plan) (names : List (List ℕ)) → GivesPlan gives s (Ok (plan, names)) s'
      → (made : Result Report RunFault) → IfOk made (λ x. IsReportOutput brief plan names x.text.items x.clean) → IfOk made (λ x. CanWork workers)
      → IfErr made (IsWorkFault workers) → (r : Result Bool RunFault)
      → MatchResult made (λ x. WritesAnswer takes x.text.items x.clean t t' r) (λ fault. (r ≡ Err fault) × (t' ≡ t))
      → RunsByWorkersAs gives takes brief workers s s' t t' r
  runs_work plan names given (Ok x) is can fault (Ok clean) wrote =
      (can, (plan, names, x.text.items, given, (is.0, wrote.0 ∙ is.1), wrote.1))
  runs_work plan names given (Ok x) is can fault (Err run.Write) wrote =
      (x.clean, wrote.0, (can, (plan, names, x.text.items, given, is, wrote.1)))
  runs_work plan names given (Ok x) is can fault (Err run.Memory) wrote = absurd wrote
  runs_work plan names given (Ok x) is can fault (Err (run.Text other)) wrote = absurd wrote
  runs_work plan names given (Ok x) is can fault (Err (run.Setup other)) wrote = absurd wrote
  runs_work plan names given (Ok x) is can fault (Err (run.Work other)) wrote = absurd wrote
  runs_work plan names given (Err e) is can fault r none =
      subst (λ (r : Result Bool RunFault). RunsByWorkersAs gives takes brief workers s s' t t' r) (sym none.0) (ended plan names given e fault none.1)
