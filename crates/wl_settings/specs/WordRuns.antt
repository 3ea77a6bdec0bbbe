-- What a run by words of the command line answers (this project's profile).
use Rattle.std.specs.Prelude.{◌≡◌, ◌⊎◌, ℕ, Bool, true, List, Result, Ok, Err}
use Rattle.wl_device.specs.Devices.{Answer, Writes}
use Rattle.wl_device.specs.declared.device.WriteFault.{WriteFault}
use Rattle.wl_settings.specs.declared.fault.SettingsFault.{SettingsFault}
use Rattle.wl_settings.specs.declared.fault.SettingsFault.TheVariants.{Write, Memory}
use Rattle.wl_settings.specs.declared.read.Wanted.{Wanted}
use Rattle.wl_settings.specs.declared.said.Shown.{Shown}
use Rattle.wl_settings.specs.declared.topics.AskedWord.{AskedWord}
use Rattle.wl_settings.specs.Questions.{wanted_by_words}
use Rattle.wl_settings.specs.Said.{IsShown}

module _ {T : Type 0} (takes : T → Answer → T → Type 0) (tick : ℕ) (shown : Shown) (words : List AskedWord) (t t' : T) where
  -- what is to be shown of what words ask for went out, as far as it went, and with it goes whether each controller has a setting
  abbrev pub WroteOfWords : Bool → Result (Unit {0}) WriteFault → Type 0
  WroteOfWords all r =
      (wanted : Wanted) × (text : List ℕ) × (wanted_by_words tick words ≡ Ok wanted) × IsShown shown wanted (Ok text) all × Writes takes t text r t'

  -- the first fault of the words, or there is no plan to be shown
  abbrev pub RefusesWords : SettingsFault → Type 0
  RefusesWords fault = (wanted_by_words tick words ≡ Err fault) ⊎ ((wanted : Wanted) × (wanted_by_words tick words ≡ Ok wanted) × IsShown shown wanted (Err fault) true)

  -- nothing was written, or a prefix of what is to be shown, since the writer failed
  abbrev pub FailsByWords : SettingsFault → Type 0
  FailsByWords fault = ((t' ≡ t) × ((fault ≡ Memory) ⊎ RefusesWords fault)) ⊎ ((fault ≡ Write) × (f : WriteFault) × (all : Bool) × WroteOfWords all (Err f))

  -- what a run by words did
  abbrev pub RunsWords : Result Bool SettingsFault → Type 0
  RunsWords (Ok all) = WroteOfWords all (Ok tt)
  RunsWords (Err fault) = FailsByWords fault
