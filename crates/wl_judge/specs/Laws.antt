-- What the words of an answer promise (this project's profile).
use Rattle.std.specs.Prelude.{◌≡◌, ℕ, Bool, true, List, ◌++◌, Some}
use Rattle.wl_setup.specs.declared.bus.Bus.{Bus}
use Rattle.wl_bound.specs.Families.{Buses, family_of}
use Rattle.wl_bound.specs.Oscillators.{Pace}
use Rattle.wl_margin.specs.Margins.{IsMarginText, any_lead, paces_of, senders_words}
use Rattle.wl_margin.specs.declared.margin.readers.Surety.TheVariants.{ProvedForAny}
use Rattle.wl_judge.specs.declared.judgement.Judgement.TheVariants.{Works}
use Rattle.wl_judge.specs.declared.judgement.RunState.{RunState}
use Rattle.wl_judge.specs.declared.judgement.RunState.TheVariants as run
use Rattle.wl_judge.specs.Answers.{bus_judgement}

-- the first line of a margin says 'proved' for any senders
abbrev pub BeginsProved : Buses → List (List ℕ) → List ℕ → Type 0
BeginsProved f names text = (one : Bool) × (rest : List ℕ) × (text ≡ any_lead (senders_words f names) (record { any = true; one = one }) ++ rest)

-- A bus of which the answer says 'works, proved' has a margin that says 'proved', and the run of its plan works.
abbrev pub ProvedLaw : Type 0
ProvedLaw = (tick : ℕ) (bus : Bus) (state : RunState) (paces : List Pace) (text : List ℕ) → paces_of bus.deviations ≡ Some paces
    → bus_judgement bus state ≡ Works ProvedForAny → IsMarginText tick bus text
    → BeginsProved (family_of bus.plan paces) bus.names text × (state ≡ run.Works)
