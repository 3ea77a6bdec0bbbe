-- The page of a run goes out (this project's profile).
use Rattle.std.specs.Prelude.{◌≡◌, ◌≢◌, ℕ, Bool, not, List, Option, Some, None, Result, Ok, Err, string_bytes}
use Rattle.wl_device.specs.Bounded.{ReadsUpTo}
use Rattle.wl_device.specs.Devices.{Answer, Writes}
use Rattle.wl_device.specs.declared.bounded.Ended.{Ended}
use Rattle.wl_device.specs.declared.bounded.Ended.TheVariants as ended
use Rattle.wl_device.specs.declared.device.WriteFault.{WriteFault}
use Rattle.wl_explain.specs.Condition.{IsExplanation}
use Rattle.wl_margin.specs.Margins.{IsMarginText}
use Rattle.wl_page.specs.Page.{page_of}
use Rattle.wl_report.specs.Report.{report_text}
use Rattle.wl_serial.specs.Outcome.{outcome_of, totals_of}
use Rattle.wl_setup.specs.Check.{IsPlanCheck}
use Rattle.wl_setup.specs.Limits.{most_bytes}
use Rattle.wl_setup.specs.Reading.{text_answer}
use Rattle.wl_setup.specs.declared.bus.Bus.{Bus}
use Rattle.wl_setup.specs.declared.plan_text.PlanText.{PlanText}
use Rattle.wl_setup.specs.declared.fault.SetupFault.TheVariants as setup
use Rattle.wl_traffic.specs.Traffic.{IsTrafficOfBus}
use Rattle.wl_views.specs.declared.tick.Tick.{Tick}
use Rattle.wl_views.specs.Ticks.{tick_picoseconds}
use Rattle.wl_views.specs.declared.window.Window.{Window}
use Rattle.wl_views.specs.Picks.{trace_text}
use Rattle.wl_views.specs.Vcd.{vcd_text}
use Rattle.wl_engines.specs.Explained.{bus_answer}
use Rattle.wl_engines.specs.Plans.{shown_totals}
use Rattle.wl_engines.specs.Ran.{Ran}
use Rattle.wl_engines.specs.Shown.{is_whole_run, shown_by, shown_text, pick_of}
use Rattle.wl_engines.specs.declared.fault.RunFault.{RunFault}
use Rattle.wl_engines.specs.declared.fault.RunFault.TheVariants.{Setup, Memory}
use Rattle.wl_engines.specs.declared.run_page.BusTexts.{BusTexts}
use Rattle.wl_engines.specs.declared.run_page.RunTexts.{RunTexts}

-- the page of a bus with its text: what the other commands write of it, each once, and the text itself. If the page leaves something out
-- the report has no lines of frames, and trace and waveform are those of the window that is shown.
unfoldable pub IsPage : Tick → Option Window → List ℕ → Bus → List ℕ → Type 0
IsPage tick asked text bus whole =
    (plain : PlanText) × (figures settings margin traffic : List ℕ) × (text_answer text ≡ Ok plain) × ((doubted : Bool) × IsExplanation plain bus figures doubted)
    × IsPlanCheck bus.plan bus.names settings × IsMarginText (tick_picoseconds tick) bus margin × IsTrafficOfBus tick plain bus traffic
    × (whole ≡ page_of (record {
      figures = figures;
      settings = settings;
      margin = margin;
      traffic = traffic;
      report = report_text (shown_totals (not (is_whole_run (shown_by asked bus.plan))) (totals_of (outcome_of bus.plan)));
      plan = text;
      part = shown_text (shown_by asked bus.plan) bus.plan;
      trace = trace_text (pick_of (shown_by asked bus.plan)) bus.plan bus.names;
      wave = vcd_text tick (shown_by asked bus.plan) bus.plan bus.names;
    }))

-- what is shown of a bus without a run
abbrev pub ShowsBus : Tick → PlanText → Bus → BusTexts → Type 0
ShowsBus tick plain bus texts =
    ((doubted : Bool) × IsExplanation plain bus (string_bytes texts.figures) doubted) × IsPlanCheck bus.plan bus.names (string_bytes texts.settings)
    × IsMarginText (tick_picoseconds tick) bus (string_bytes texts.margin)

-- what is shown of a window of a run
abbrev pub ShowsRun : Tick → Window → PlanText → Bus → RunTexts → Type 0
ShowsRun tick shown plain bus texts =
    IsTrafficOfBus tick plain bus (string_bytes texts.traffic)
    × (texts.report.items ≡ report_text (shown_totals (not (is_whole_run shown)) (totals_of (outcome_of bus.plan))))
    × (string_bytes texts.part ≡ shown_text shown bus.plan)
    × (texts.trace.items ≡ trace_text (pick_of shown) bus.plan bus.names)
    × (texts.wave.items ≡ vcd_text tick shown bus.plan bus.names)

module _ {T : Type 0} (takes : T → Answer → T → Type 0) (tick : Tick) (asked : Option Window) (text : List ℕ) (t t' : T) where
  -- the page of the text's bus went out, as far as it went
  abbrev pub WritesPage : Result (Unit {0}) WriteFault → Type 0
  WritesPage r =
      (bus : Bus) × (whole : List ℕ) × (bus_answer text ≡ Ok bus) × IsPage tick asked text bus whole × Writes takes t whole r t'

  -- the first fault of the text, which is not out of memory
  abbrev pub RefusesText : RunFault → Type 0
  RefusesText (Setup fault) = (fault ≢ setup.Memory) × (bus_answer text ≡ Err fault)
  RefusesText _ = ⊥

  -- what was done with a whole text
  abbrev pub PagesText : Result (Unit {0}) RunFault → Type 0
  PagesText = Ran RefusesText WritesPage t t'

-- what was done with what was read, by how the reading ended
abbrev pub PagesReading : {T : Type 0} → (T → Answer → T → Type 0) → Tick → Option Window → Ended → List ℕ → T → T → Result (Unit {0}) RunFault → Type 0
PagesReading takes tick asked ended.End text t t' r = PagesText takes tick asked text t t' r
PagesReading takes tick asked ended.Broken text t t' r = (r ≡ Err (Setup setup.Read)) × (t' ≡ t)
PagesReading takes tick asked ended.Full text t t' r = (r ≡ Err (Setup setup.Size)) × (t' ≡ t)

-- what a page's run did: memory ran out and the writer wasn't called, or that with what the reader gave in one reading
abbrev pub PagesAsked : {S T : Type 0} → (S → Answer → S → Type 0) → (T → Answer → T → Type 0) → Tick → Option Window → S → S → T → T → Result (Unit {0}) RunFault → Type 0
PagesAsked gives takes tick asked s s' t t' (Err Memory) = t' ≡ t
PagesAsked gives takes tick asked s s' t t' r =
    (text : List ℕ) × (e : Ended) × ReadsUpTo gives s most_bytes text e s' × PagesReading takes tick asked e text t t' r

-- of all of the run, and of a window
abbrev pub Pages : {S T : Type 0} → (S → Answer → S → Type 0) → (T → Answer → T → Type 0) → Tick → S → S → T → T → Result (Unit {0}) RunFault → Type 0
Pages gives takes tick s s' t t' r = PagesAsked gives takes tick None s s' t t' r

abbrev pub PagesWithin : {S T : Type 0} → (S → Answer → S → Type 0) → (T → Answer → T → Type 0) → Tick → Window → S → S → T → T → Result (Unit {0}) RunFault → Type 0
PagesWithin gives takes tick window s s' t t' r = PagesAsked gives takes tick (Some window) s s' t t' r
