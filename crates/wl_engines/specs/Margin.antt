-- Runs over a plan's text that ask for its bus: the bus is read, and its margin goes out (this project's profile).
use Rattle.std.specs.Prelude.{◌≡◌, ◌≢◌, ℕ, Bool, true, false, List, Result, Ok, Err}
use Rattle.wl_device.specs.Devices.{Answer, Writes}
use Rattle.wl_device.specs.declared.device.WriteFault.{WriteFault}
use Rattle.wl_views.specs.declared.tick.Tick.{Tick}
use Rattle.wl_views.specs.Ticks.{tick_picoseconds}
use Rattle.wl_setup.specs.declared.bus.Bus.{Bus}
use Rattle.wl_setup.specs.declared.fault.SetupFault.TheVariants as setup
use Rattle.wl_setup.specs.Buses.{GivesBus}
use Rattle.wl_margin.specs.Margins.{IsAllSendText, IsMarginText}
use Rattle.wl_engines.specs.declared.fault.RunFault.{RunFault}
use Rattle.wl_engines.specs.declared.fault.RunFault.TheVariants.{Setup}
use Rattle.wl_engines.specs.Holding.{asked_by, is_held}
use Rattle.wl_engines.specs.Ran.{RanWith}

-- the margin of the bus, at ticks that last so long: of the plan's senders, or of all nodes that don't only listen
abbrev pub IsMargin : Tick → (all : Bool) → Bus → List ℕ → Type 0
IsMargin tick false bus text = IsMarginText (tick_picoseconds tick) bus text
IsMargin tick true bus text = IsAllSendText (tick_picoseconds tick) bus text

-- that, and whether the condition holds
abbrev pub IsMarginOutput : Tick → (all : Bool) → Bus → List ℕ → (holds : Bool) → Type 0
IsMarginOutput tick all bus text holds = IsMargin tick all bus text × (holds ≡ is_held (asked_by all) bus)

module _ {A S T : Type 0} (gives : S → Answer → S → Type 0) (takes : T → Answer → T → Type 0) (IsOutput : Bus → List ℕ → A → Type 0) (s s' : S) (t t' : T) where
  -- the output of the bus that was read went out, as far as it went, and this is answered with it
  abbrev pub WritesOfBus : A → Result (Unit {0}) WriteFault → Type 0
  WritesOfBus answer r = (bus : Bus) × (text : List ℕ) × GivesBus gives s (Ok bus) s' × IsOutput bus text answer × Writes takes t text r t'

  -- the first fault of what was read, which is not out of memory
  abbrev pub RefusesBus : RunFault → Type 0
  RefusesBus (Setup fault) = (fault ≢ setup.Memory) × GivesBus gives s (Err fault) s'
  RefusesBus _ = ⊥

  -- what a run over a bus did
  abbrev pub RunsBus : Result A RunFault → Type 0
  RunsBus = RanWith RefusesBus WritesOfBus t t'
