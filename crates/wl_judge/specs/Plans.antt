-- What is said of a plan's text (this project's profile).
use Rattle.std.specs.Prelude.{◌≡◌, ℕ, ◌==◌, Bool, false, List, [], ◌++◌, codes, length, if◌then◌else◌, Option, Some, None}
use Rattle.wl_bound.specs.Families.{Buses, family_of}
use Rattle.wl_bound.specs.Oscillators.{Pace}
use Rattle.wl_bound.specs.declared.condition.Senders.{Senders}
use Rattle.wl_bound.specs.declared.condition.Senders.TheVariants.{Any, One}
use Rattle.wl_margin.specs.Margins.{paces_of}
use Rattle.wl_margin.specs.Noise.{spike_words}
use Rattle.wl_margin.specs.Standings.{standing_of}
use Rattle.wl_margin.specs.declared.margin.readers.Standing.{Standing}
use Rattle.wl_margin.specs.declared.margin.readers.Standing.TheVariants.{Astray, AnySenders, OneSender, Fails, Unbound}
use Rattle.wl_setup.specs.declared.bus.Bus.{Bus}
use Rattle.wl_setup.specs.declared.plan_text.PlanText.{PlanText}
use Rattle.wl_respond.specs.Briefs.{IsBriefOfBus}
use Rattle.wl_judge.specs.declared.judgement.RunState.{RunState}
use Rattle.wl_judge.specs.Answers.{IsAnswer, source_line}

-- how long messages may wait, if some message comes again and again
abbrev pub waits_lines : Bool → List ℕ → List ℕ
waits_lines explain waits = if length waits == 0 then [] else source_line explain (codes "respond") ++ waits

-- No law says of a bus with clocks what other noise does: the run has the disturbances of the plan.
abbrev pub unknown_words : List ℕ
unknown_words = codes "noise: not known, but for the disturbances of this run\n"

abbrev pub unknown_lines : Bool → List ℕ
unknown_lines explain = source_line explain (codes "run, by its disturbances") ++ unknown_words

-- whether one spike may hide a frame
abbrev pub spiked_lines : ℕ → Bool → List (List ℕ) → Buses → Senders → List ℕ
spiked_lines tick explain names f senders = source_line explain (codes "margin, on noise") ++ spike_words tick f names senders

-- that is said if the condition holds
abbrev pub noise_of : ℕ → Bool → List (List ℕ) → Buses → Standing → List ℕ
noise_of tick explain names f (AnySenders surety) = spiked_lines tick explain names f Any
noise_of tick explain names f (OneSender surety) = spiked_lines tick explain names f One
noise_of tick explain names f (Astray i) = unknown_lines explain
noise_of tick explain names f (Fails failure) = unknown_lines explain
noise_of tick explain names f (Unbound cause) = unknown_lines explain

-- the same of a bus with these oscillators, if its rates make clocks
abbrev pub noise_from : ℕ → Bool → Bus → List Pace → List ℕ
noise_from tick explain bus paces =
    noise_of tick explain bus.names (family_of bus.plan paces) (standing_of bus.deviations bus.plan (family_of bus.plan paces))

abbrev pub noise_by : ℕ → Bool → Bus → Option (List Pace) → List ℕ
noise_by tick explain bus None = unknown_lines explain
noise_by tick explain bus (Some paces) = noise_from tick explain bus paces

-- the lines on the bus, on waits, each frame with its own data, and on noise
module _ (tick : ℕ) (explain : Bool) (run : RunState) (word : List ℕ) where
  abbrev pub IsPlanAnswer : PlanText → Bus → List ℕ → Type 0
  IsPlanAnswer plain bus text =
      (front : List ℕ) × (waits : List ℕ) × IsAnswer tick explain run word bus front × IsBriefOfBus tick false plain bus waits
      × (text ≡ front ++ waits_lines explain waits ++ noise_by tick explain bus (paces_of bus.deviations))
