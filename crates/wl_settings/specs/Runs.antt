-- What a run answers (this project's profile).
use Rattle.std.specs.Prelude.{◌≡◌, ◌⊎◌, ℕ, Bool, true, List, Result, Ok, Err}
use Rattle.wl_device.specs.Devices.{Answer, Writes}
use Rattle.wl_device.specs.declared.device.WriteFault.{WriteFault}
use Rattle.wl_settings.specs.declared.fault.SettingsFault.{SettingsFault}
use Rattle.wl_settings.specs.declared.fault.SettingsFault.TheVariants.{Write, Memory}
use Rattle.wl_settings.specs.declared.read.Wanted.{Wanted}
use Rattle.wl_settings.specs.declared.said.Shown.{Shown}
use Rattle.wl_settings.specs.Said.{IsShown}
use Rattle.wl_settings.specs.Texts.{ReadsWanted}

module _ {S T : Type 0} (gives : S → Answer → S → Type 0) (takes : T → Answer → T → Type 0) (tick : ℕ) (shown : Shown) (s s' : S) (t t' : T) where
  -- what is to be shown of what was read went out, as far as it went, and with it goes whether each controller has a setting
  abbrev pub Wrote : Bool → Result (Unit {0}) WriteFault → Type 0
  Wrote all r =
      (wanted : Wanted) × (text : List ℕ) × ReadsWanted gives tick s (Ok wanted) s' × IsShown shown wanted (Ok text) all × Writes takes t text r t'

  -- the first fault of what was read, or there is no plan to be shown
  abbrev pub Refuses : SettingsFault → Type 0
  Refuses fault = ReadsWanted gives tick s (Err fault) s' ⊎ ((wanted : Wanted) × ReadsWanted gives tick s (Ok wanted) s' × IsShown shown wanted (Err fault) true)

  -- nothing was written: memory was refused, or the input
  abbrev pub WritesNone : SettingsFault → Type 0
  WritesNone fault = (t' ≡ t) × ((fault ≡ Memory) ⊎ Refuses fault)

  -- the writer failed, and a prefix of what is to be shown was written
  abbrev pub WritesSome : SettingsFault → Type 0
  WritesSome fault = (fault ≡ Write) × (f : WriteFault) × (all : Bool) × Wrote all (Err f)

  -- what a run did
  abbrev pub RunsSettings : Result Bool SettingsFault → Type 0
  RunsSettings (Ok all) = Wrote all (Ok tt)
  RunsSettings (Err fault) = WritesNone fault ⊎ WritesSome fault
