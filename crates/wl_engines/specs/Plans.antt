-- Runs over a plan's text: the plan is read, and what it means goes out (this project's profile).
use Rattle.std.specs.Prelude.{◌≡◌, ◌≢◌, ℕ, Bool, true, false, List, [], map, All, None, Result, Ok, Err}
use Rattle.std.specs.List.{filter, list_all}
use Rattle.wl_device.specs.Devices.{Answer, Writes}
use Rattle.wl_device.specs.declared.device.WriteFault.{WriteFault}
use Rattle.wl_record_core.specs.declared.record.Record.{Record}
use Rattle.wl_record_core.specs.declared.record.Record.TheVariants.{Edge, Clash, Silence}
use Rattle.wl_record_core.specs.Text.{text_of}
use Rattle.wl_limits.specs.declared.Limits.{Limits}
use Rattle.wl_record_core.specs.Within.{IsWide, IsWithinBy}
use Rattle.wl_plan.specs.declared.plan.Plan.{Plan}
use Rattle.wl_plan.specs.Checked.{IsPlanWithin}
use Rattle.wl_plan.specs.PlanLine.{IsTrueOfPlan}
use Rattle.wl_serial.specs.declared.outcome.NodeTotals.{NodeTotals}
use Rattle.wl_serial.specs.Outcome.{outcome_of, totals_of}
use Rattle.wl_serial.specs.Records.{outcome_records}
use Rattle.wl_report.specs.Report.{is_clean, report_text}
use Rattle.wl_views.specs.declared.tick.Tick.{Tick}
use Rattle.wl_views.specs.Candump.{log_text}
use Rattle.wl_views.specs.ErrorFrames.{error_log}
use Rattle.wl_views.specs.Vcd.{vcd_text}
use Rattle.wl_views.specs.declared.pick.Pick.{Pick}
use Rattle.wl_views.specs.Picks.{trace_text}
use Rattle.wl_views.specs.declared.window.Window.{Window}
use Rattle.wl_views.specs.Windows.{is_within}
use Rattle.wl_setup.specs.declared.fault.SetupFault.TheVariants as setup
use Rattle.wl_setup.specs.Plans.{GivesPlan}
use Rattle.wl_engines.specs.declared.fault.RunFault.{RunFault}
use Rattle.wl_engines.specs.declared.fault.RunFault.TheVariants.{Setup}
use Rattle.wl_engines.specs.Ran.{Ran, RanWith}

-- the window that has each tick
abbrev pub whole : Window
whole = record { from = 0; to = None }

-- the tick of a record: that of a change, or that below which a node is silent; 0 of a clash, which no simulation has
abbrev pub record_tick : Record → ℕ
record_tick (Edge node seq tick) = tick
record_tick (Clash node seq) = 0
record_tick (Silence node count until) = until

-- the records of the one-thread simulation that are within a window, in their order
abbrev pub records_within : Window → Plan → List Record
records_within window plan = filter (λ told. is_within window (record_tick told)) (outcome_records (outcome_of plan))

-- as text
abbrev pub records_text : Window → Plan → List ℕ
records_text window plan = text_of (records_within window plan)

-- all of them are true of the plan and within the wide limits of records; those of a plan within narrower limits are within these
abbrev pub IsRecordsWithin : Window → Plan → List (List ℕ) → List ℕ → Type 0
IsRecordsWithin window plan names text =
    (text ≡ records_text window plan) × All (λ told. IsTrueOfPlan plan told × IsWide told) (records_within window plan)
    × ((limits : Limits) (queued : ℕ) → IsPlanWithin limits queued plan → All (λ told. IsWithinBy limits told) (records_within window plan))

-- all records
abbrev pub IsRecordsOutput : Plan → List (List ℕ) → List ℕ → Type 0
IsRecordsOutput = IsRecordsWithin whole

-- the verdict of the report of the one-thread simulation is clean
abbrev pub is_clean_run : Plan → Bool
is_clean_run plan = list_all is_clean (totals_of (outcome_of plan))

-- the report of the one-thread simulation, and whether its verdict is clean
abbrev pub IsRunOutput : Plan → List (List ℕ) → List ℕ → (clean : Bool) → Type 0
IsRunOutput plan names text clean = (text ≡ report_text (totals_of (outcome_of plan))) × (clean ≡ is_clean_run plan)

-- what a report says of a node through which no frame passed
abbrev pub without_frames : NodeTotals → NodeTotals
without_frames n = record n { frames = [] }

-- what a report says of all nodes, or, if it is to be brief, the same as if no frame had passed
abbrev pub shown_totals : (brief : Bool) → List NodeTotals → List NodeTotals
shown_totals false totals = totals
shown_totals true totals = map without_frames totals

-- the report, or, if it is to be brief, the report without the lines of frames
abbrev pub IsReportOutput : (brief : Bool) → Plan → List (List ℕ) → List ℕ → (clean : Bool) → Type 0
IsReportOutput brief plan names text clean =
    (text ≡ report_text (shown_totals brief (totals_of (outcome_of plan)))) × (clean ≡ is_clean_run plan)

-- the log of the frames that the one-thread simulation sends within a window, at ticks that last so long, if tick 0 is at this second
abbrev pub IsCandumpWithin : Tick → ℕ → Window → Plan → List (List ℕ) → List ℕ → Type 0
IsCandumpWithin tick from window plan names text = text ≡ log_text tick from window plan

-- of all frames
abbrev pub IsCandumpOutput : Tick → ℕ → Plan → List (List ℕ) → List ℕ → Type 0
IsCandumpOutput tick from = IsCandumpWithin tick from whole

-- the same with error frames
abbrev pub IsErrorLog : Tick → ℕ → Window → Plan → List (List ℕ) → List ℕ → Type 0
IsErrorLog tick from window plan names text = text ≡ error_log tick from window plan

-- with them, or without
abbrev pub IsLogAs : (errors : Bool) → Tick → ℕ → Window → Plan → List (List ℕ) → List ℕ → Type 0
IsLogAs false tick from window = IsCandumpWithin tick from window
IsLogAs true tick from window = IsErrorLog tick from window

-- the waveform of a window of the one-thread simulation, at ticks that last so long, under the names of the nodes
abbrev pub IsVcdWithin : Tick → Window → Plan → List (List ℕ) → List ℕ → Type 0
IsVcdWithin tick window plan names text = text ≡ vcd_text tick window plan names

-- all of it
abbrev pub IsVcdOutput : Tick → Plan → List (List ℕ) → List ℕ → Type 0
IsVcdOutput tick = IsVcdWithin tick whole

-- the lines of the trace of the one-thread simulation that are picked, under the names of the nodes
abbrev pub IsTracePicked : Pick → Plan → List (List ℕ) → List ℕ → Type 0
IsTracePicked pick plan names text = text ≡ trace_text pick plan names

-- all of them
abbrev pub IsTraceOutput : Plan → List (List ℕ) → List ℕ → Type 0
IsTraceOutput = IsTracePicked (record { window = whole; node = None; only = None })

module _ {S T : Type 0} (gives : S → Answer → S → Type 0) (takes : T → Answer → T → Type 0) (IsOutput : Plan → List (List ℕ) → List ℕ → Type 0) (s s' : S) (t t' : T) where
  -- the output of the plan and the names that were read went out, as far as it went
  abbrev pub WritesOutput : Result (Unit {0}) WriteFault → Type 0
  WritesOutput r =
      (plan : Plan) × (names : List (List ℕ)) × (text : List ℕ) × GivesPlan gives s (Ok (plan, names)) s' × IsOutput plan names text × Writes takes t text r t'

  -- the first fault of what was read, which is not out of memory
  abbrev pub RefusesPlan : RunFault → Type 0
  RefusesPlan (Setup fault) = (fault ≢ setup.Memory) × GivesPlan gives s (Err fault) s'
  RefusesPlan _ = ⊥

  -- what a run over a plan did
  abbrev pub RunsPlan : Result (Unit {0}) RunFault → Type 0
  RunsPlan = Ran RefusesPlan WritesOutput t t'

module _ {A S T : Type 0} (gives : S → Answer → S → Type 0) (takes : T → Answer → T → Type 0) (IsOutput : Plan → List (List ℕ) → List ℕ → A → Type 0) (s s' : S) (t t' : T) where
  -- an output that goes with an answer went out, as far as it went
  abbrev pub WritesOutputWith : A → Result (Unit {0}) WriteFault → Type 0
  WritesOutputWith answer = WritesOutput gives takes (λ plan names text. IsOutput plan names text answer) s s' t t'

  -- what a run over a plan did that answers something
  abbrev pub RunsPlanWith : Result A RunFault → Type 0
  RunsPlanWith = RanWith (RefusesPlan gives takes (λ plan names text. Unit {0}) s s' t t') WritesOutputWith t t'
