-- What the engines did over a plan's text (this project's profile).
use Rattle.std.specs.Prelude.{◌≡◌, ◌≢◌, ◌⊎◌, ℕ, Bool, List, Result, Ok, Err}
use Rattle.std.specs.List.{list_all}
use Rattle.wl_device.specs.Devices.{Answer, Writes}
use Rattle.wl_device.specs.declared.device.WriteFault.{WriteFault}
use Rattle.wl_map.specs.Maps.{map_text}
use Rattle.wl_map.specs.Rows.{held}
use Rattle.wl_plan.specs.declared.plan.Plan.{Plan}
use Rattle.wl_setup.specs.declared.fault.SetupFault.{SetupFault}
use Rattle.wl_setup.specs.declared.fault.SetupFault.TheVariants as setup
use Rattle.wl_setup.specs.declared.plan_text.PlanText.{PlanText}
use Rattle.wl_setup.specs.Reading.{ReadsPlan}
use Rattle.wl_sweep.specs.declared.sweep.Sweep.{Sweep}
use Rattle.wl_sweep.specs.declared.tally.Tally.{Tally}
use Rattle.wl_sweep.specs.Findings.{is_clean}
use Rattle.wl_sweep.specs.Sweeps.{all_findings}
use Rattle.wl_sweep.specs.Tallies.{tally_of}
use Rattle.wl_sweep_engine.specs.declared.asked.Asked.{Asked}
use Rattle.wl_sweep_engine.specs.declared.fault.SweepFault.{SweepFault}
use Rattle.wl_sweep_engine.specs.declared.fault.SweepFault.TheVariants.{Setup}
use Rattle.wl_sweep_engine.specs.Asked.{checked_options, checked_part, checked_workers, sweep_of}
use Rattle.wl_sweep.specs.declared.part.Share.{Share}
use Rattle.wl_sweep_engine.specs.Parts.{IsPartText}
use Rattle.wl_sweep_engine.specs.Printed.{printed_of}
use Rattle.wl_sweep_engine.specs.Ran.{Ran}
use Rattle.wl_sweep_engine.specs.Said.{IsSaid}

module _ {S T : Type 0} (gives : S → Answer → S → Type 0) (takes : T → Answer → T → Type 0) (words : List (List ℕ)) (asked : Asked) (s s' : S) (t t' : T) where
  -- the reader gave a plan's text that means this sweep
  abbrev pub ReadsSweep : Plan → Sweep → Type 0
  ReadsSweep plan sweep = (text : PlanText) × ReadsPlan gives s (Ok text) s' × (sweep_of text words asked ≡ Ok (plan, sweep))

  -- what was asked is refused before anything was read, or what was read, by its own fault or that of the sweep that it means
  abbrev pub RefusesSweep : Result (Unit {0}) SweepFault → SweepFault → Type 0
  RefusesSweep checked e =
      ((checked ≡ Err e) × (s' ≡ s))
      ⊎ (((checked ≡ Ok tt) × ((fault : SetupFault) × (fault ≢ setup.Memory) × ReadsPlan gives s (Err fault) s' × (e ≡ Setup fault)))
      ⊎ ((checked ≡ Ok tt) × ((text : PlanText) × ReadsPlan gives s (Ok text) s' × (sweep_of text words asked ≡ Err e))))

  -- what the sweep says went out, as far as it went; the answer is the tally of what is found of all members that are run
  abbrev pub WritesSweep : ℕ → Tally → Result (Unit {0}) WriteFault → Type 0
  WritesSweep workers tally r =
      (checked_workers asked.options workers ≡ Ok tt) × (plan : Plan) × (sweep : Sweep) × (said : List ℕ) × ReadsSweep plan sweep
      × IsSaid asked.worst plan sweep said × (tally ≡ tally_of (all_findings sweep)) × Writes takes t said r t'

  -- what a sweep by so many threads did
  abbrev pub Sweeps : ℕ → Result Tally SweepFault → Type 0
  Sweeps workers = Ran (RefusesSweep (checked_workers asked.options workers)) (WritesSweep workers) t t'

  -- the map of the sweep went out, as far as it went; the answer is whether each of its members is clean
  abbrev pub WritesMap : ℕ → Bool → Result (Unit {0}) WriteFault → Type 0
  WritesMap workers clean r =
      (checked_workers asked.options workers ≡ Ok tt) × (plan : Plan) × (sweep : Sweep) × ReadsSweep plan sweep
      × (clean ≡ list_all is_clean (all_findings (held sweep))) × Writes takes t (map_text sweep asked.worst) r t'

  -- what a map by so many threads did
  abbrev pub Maps : ℕ → Result Bool SweepFault → Type 0
  Maps workers = Ran (RefusesSweep (checked_workers asked.options workers)) (WritesMap workers) t t'

  -- a member's text went out, as far as it went
  abbrev pub WritesMember : ℕ → Unit {0} → Result (Unit {0}) WriteFault → Type 0
  WritesMember number u r =
      (checked_options asked.options ≡ Ok tt) × (plan : Plan) × (sweep : Sweep) × (printed : List ℕ) × ReadsSweep plan sweep
      × (printed_of sweep number ≡ Ok printed) × Writes takes t printed r t'

  -- a sweep was read, and has no such member; or it is refused
  abbrev pub RefusesMember : ℕ → SweepFault → Type 0
  RefusesMember number e =
      ((checked_options asked.options ≡ Ok tt) × (plan : Plan) × (sweep : Sweep) × ReadsSweep plan sweep × (printed_of sweep number ≡ Err e))
      ⊎ RefusesSweep (checked_options asked.options) e

  -- what printing a member did
  abbrev pub Prints : ℕ → Result (Unit {0}) SweepFault → Type 0
  Prints number = Ran (RefusesMember number) (WritesMember number) t t'

  -- a part's text went out, as far as it went
  abbrev pub WritesPart : Share → ℕ → Unit {0} → Result (Unit {0}) WriteFault → Type 0
  WritesPart share workers u r =
      (checked_part asked.options workers share ≡ Ok tt) × (plan : Plan) × (sweep : Sweep) × (text : List ℕ) × ReadsSweep plan sweep
      × IsPartText asked.worst plan sweep share text × Writes takes t text r t'

  -- what a part by so many threads did
  abbrev pub Parts : Share → ℕ → Result (Unit {0}) SweepFault → Type 0
  Parts share workers = Ran (RefusesSweep (checked_part asked.options workers share)) (WritesPart share workers) t t'
