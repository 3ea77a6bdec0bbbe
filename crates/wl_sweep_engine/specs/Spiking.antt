-- What the engines of spikes did over a plan's text (this project's profile).
use Rattle.std.specs.Prelude.{◌≡◌, ◌≢◌, ◌⊎◌, ℕ, Bool, List, Result, Ok, Err}
use Rattle.std.specs.List.{list_all}
use Rattle.wl_device.specs.Devices.{Answer, Writes}
use Rattle.wl_device.specs.declared.device.WriteFault.{WriteFault}
use Rattle.wl_setup.specs.declared.fault.SetupFault.{SetupFault}
use Rattle.wl_setup.specs.declared.fault.SetupFault.TheVariants as setup
use Rattle.wl_setup.specs.declared.plan_text.PlanText.{PlanText}
use Rattle.wl_setup.specs.Plans.{plan_of_text}
use Rattle.wl_setup.specs.Reading.{ReadsPlan}
use Rattle.wl_spikes.specs.declared.asked.SpikeFault.{SpikeFault}
use Rattle.wl_spikes.specs.declared.spike.Spikes.{Spikes}
use Rattle.wl_spikes.specs.Asked.{spike_of_words}
use Rattle.wl_spikes.specs.Tallies.{all_aftermaths, is_sound}
use Rattle.wl_spikes.specs.Words.{spiked_at, spikes_text}
use Rattle.wl_sweep_engine.specs.declared.asked.Asked.{Asked}
use Rattle.wl_sweep_engine.specs.declared.fault.SweepFault.{SweepFault}
use Rattle.wl_sweep_engine.specs.declared.fault.SweepFault.TheVariants.{Setup, Spike as ASpike}
use Rattle.wl_sweep_engine.specs.Asked.{after, checked_options, checked_workers, text_asked}
use Rattle.wl_sweep_engine.specs.Faults.{of_setup}
use Rattle.wl_sweep_engine.specs.Printed.{printed_member}
use Rattle.wl_sweep_engine.specs.Ran.{Ran}

-- the sweep of spikes that two words mean in a plan's text that can be run as it is
abbrev pub of_spike : SpikeFault → SweepFault
of_spike fault = ASpike fault

abbrev pub spikes_of_text : PlanText → List (List ℕ) → Asked → Result Spikes SweepFault
spikes_of_text text words asked =
    after of_setup (plan_of_text text)
    (λ plan. after of_spike (spike_of_words text asked.options words) (λ spike. Ok (record { text = text; spike = spike })))

-- the same of the text with the frames that are asked for
abbrev pub spikes_of : PlanText → List (List ℕ) → Asked → Result Spikes SweepFault
spikes_of text words asked = spikes_of_text (text_asked asked.worst text) words asked

-- the text of the member of a number, if there is one
abbrev pub printed_spike : Spikes → ℕ → Result (List ℕ) SweepFault
printed_spike s n = printed_member n (spiked_at s n)

module _ {S T : Type 0} (gives : S → Answer → S → Type 0) (takes : T → Answer → T → Type 0) (words : List (List ℕ)) (asked : Asked) (s s' : S) (t t' : T) where
  -- the reader gave a plan's text, with which the words mean these spikes
  abbrev pub ReadsSpikes : Spikes → Type 0
  ReadsSpikes spikes = (text : PlanText) × ReadsPlan gives s (Ok text) s' × (spikes_of text words asked ≡ Ok spikes)

  -- what was asked is refused before anything was read, or what was read, by its own fault or that of the words
  abbrev pub RefusesSpikes : Result (Unit {0}) SweepFault → SweepFault → Type 0
  RefusesSpikes checked e =
      ((checked ≡ Err e) × (s' ≡ s))
      ⊎ (((checked ≡ Ok tt) × ((fault : SetupFault) × (fault ≢ setup.Memory) × ReadsPlan gives s (Err fault) s' × (e ≡ Setup fault)))
      ⊎ ((checked ≡ Ok tt) × ((text : PlanText) × ReadsPlan gives s (Ok text) s' × (spikes_of text words asked ≡ Err e))))

  -- what the sweep says went out, as far as it went; the answer is whether each member is clean or heals
  abbrev pub WritesSpikes : ℕ → Bool → Result (Unit {0}) WriteFault → Type 0
  WritesSpikes workers sound r =
      (checked_workers asked.options workers ≡ Ok tt) × (spikes : Spikes) × ReadsSpikes spikes
      × (sound ≡ list_all is_sound (all_aftermaths spikes)) × Writes takes t (spikes_text spikes) r t'

  -- what a sweep of spikes by so many threads did
  abbrev pub RunsSpikes : ℕ → Result Bool SweepFault → Type 0
  RunsSpikes workers = Ran (RefusesSpikes (checked_workers asked.options workers)) (WritesSpikes workers) t t'

  -- a member's text went out, as far as it went
  abbrev pub WritesSpike : ℕ → Unit {0} → Result (Unit {0}) WriteFault → Type 0
  WritesSpike number u r =
      (checked_options asked.options ≡ Ok tt) × (spikes : Spikes) × (printed : List ℕ) × ReadsSpikes spikes
      × (printed_spike spikes number ≡ Ok printed) × Writes takes t printed r t'

  -- the spikes were read, and there is no such member; or they are refused
  abbrev pub RefusesSpike : ℕ → SweepFault → Type 0
  RefusesSpike number e =
      ((checked_options asked.options ≡ Ok tt) × (spikes : Spikes) × ReadsSpikes spikes × (printed_spike spikes number ≡ Err e))
      ⊎ RefusesSpikes (checked_options asked.options) e

  -- what printing a member did
  abbrev pub PrintsSpike : ℕ → Result (Unit {0}) SweepFault → Type 0
  PrintsSpike number = Ran (RefusesSpike number) (WritesSpike number) t t'
