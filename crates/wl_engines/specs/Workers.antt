-- A run over a plan's text by workers: the report is the one-thread simulation's (this project's profile).
use Rattle.std.specs.Prelude.{◌≡◌, ◌≢◌, ◌≤◌, ◌↔◌, ℕ, Bool, false, List, Result, Ok}
use Rattle.wl_device.specs.Devices.{Answer}
use Rattle.wl_device.specs.declared.device.WriteFault.{WriteFault}
use Rattle.wl_plan.specs.declared.plan.Plan.{Plan}
use Rattle.wl_setup.specs.Plans.{GivesPlan}
use Rattle.wl_worker.specs.declared.link.Fault.TheVariants as work
use Rattle.wl_engines.specs.declared.fault.RunFault.{RunFault}
use Rattle.wl_engines.specs.declared.fault.RunFault.TheVariants.{Work, Memory}
use Rattle.wl_engines.specs.Plans.{IsReportOutput, RefusesPlan, WritesOutputWith}
use Rattle.wl_engines.specs.Ran.{RanWith}

-- so many workers can simulate a plan
abbrev pub CanWork : ℕ → Type 0
CanWork workers = (1 ≤ workers) × (workers ≤ 8)

-- so many workers came to no outcome: out of memory, or by a fault of theirs, which is their number exactly where they can't work
abbrev pub IsWorkFault : ℕ → RunFault → Type 0
IsWorkFault workers (Work fault) = (fault ≢ work.Memory) × ((fault ≡ work.Workers) ↔ (¬ CanWork workers))
IsWorkFault workers Memory = Unit {0}
IsWorkFault workers _ = ⊥

module _ {S T : Type 0} (gives : S → Answer → S → Type 0) (takes : T → Answer → T → Type 0) (brief : Bool) (workers : ℕ) (s s' : S) (t t' : T) where
  -- the report went out, as far as it went, and with it goes whether its verdict is clean
  abbrev pub WritesReport : Bool → Result (Unit {0}) WriteFault → Type 0
  WritesReport clean r = CanWork workers × WritesOutputWith gives takes (IsReportOutput brief) s s' t t' clean r

  -- a plan was read and the workers came to no outcome, or what was read is refused as by one thread
  abbrev pub RefusesWork : RunFault → Type 0
  RefusesWork (Work fault) = IsWorkFault workers (Work fault) × (plan : Plan) × (names : List (List ℕ)) × GivesPlan gives s (Ok (plan, names)) s'
  RefusesWork fault = RefusesPlan gives takes (λ plan names text. Unit {0}) s s' t t' fault

  -- what a run by so many workers did
  abbrev pub RunsByWorkersAs : Result Bool RunFault → Type 0
  RunsByWorkersAs = RanWith RefusesWork WritesReport t t'

-- the same with the whole report
abbrev pub RunsByWorkers : {S T : Type 0} → (S → Answer → S → Type 0) → (T → Answer → T → Type 0) → ℕ → S → S → T → T → Result Bool RunFault → Type 0
RunsByWorkers gives takes = RunsByWorkersAs gives takes false
