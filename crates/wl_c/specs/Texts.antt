-- What the commands say of a plan's text (this project's profile).
use Rattle.std.specs.Prelude.{◌≡◌, ◌≢◌, ◌≤◌, nat_le, ℕ, Bool, false, MatchBool, List, [], ◌++◌, length, if◌then◌else◌, Option, Result, Ok, Err}
use Rattle.wl_plan.specs.declared.plan.Plan.{Plan}
use Rattle.wl_setup.specs.Buses.{bus_of_text}
use Rattle.wl_setup.specs.Check.{IsPlanCheck}
use Rattle.wl_setup.specs.Limits.{most_bytes}
use Rattle.wl_setup.specs.Plans.{after, named_plan_of}
use Rattle.wl_setup.specs.Reading.{text_answer}
use Rattle.wl_setup.specs.declared.bus.Bus.{Bus}
use Rattle.wl_setup.specs.declared.fault.SetupFault.{SetupFault}
use Rattle.wl_setup.specs.declared.fault.SetupFault.TheVariants as setup
use Rattle.wl_setup.specs.declared.plan_text.PlanText.{PlanText}
use Rattle.wl_explain.specs.Refusals.{IsRefusal, size_words}
use Rattle.wl_engines.specs.Explained.{IsExplanationOf}
use Rattle.wl_engines.specs.Judged.{IsJudged}
use Rattle.wl_engines.specs.Margin.{IsMarginOutput}
use Rattle.wl_engines.specs.Plans.{IsRunOutput}
use Rattle.wl_engines.specs.Responded.{IsResponse}
use Rattle.wl_engines.specs.TrafficRun.{IsTrafficOutput}
use Rattle.wl_lines.specs.declared.formats.Format.{Format}
use Rattle.wl_c.specs.declared.asked.Task.{Task}
use Rattle.wl_c.specs.declared.asked.Task.TheVariants.{Run, Check, Explain, Margin, Traffic, Respond, Judge}
use Rattle.wl_c.specs.declared.status.Status.{Status}
use Rattle.wl_c.specs.declared.status.Status.TheVariants.{Done, Refused, Asked, Memory, Room, Shape}

-- what the document of a text says, or the text's first fault; a text that is too long has the fault Size
abbrev pub text_read : List ℕ → Result PlanText SetupFault
text_read text = if nat_le (length text) most_bytes then text_answer text else Err setup.Size

-- the plan of a text and the names of its nodes, or its first fault
abbrev pub plan_read : List ℕ → Result (Plan × List (List ℕ)) SetupFault
plan_read text = after (text_read text) named_plan_of

-- the bus of a text, or its first fault
abbrev pub bus_read : List ℕ → Result Bus SetupFault
bus_read text = after (text_read text) bus_of_text

module _ (text : List ℕ) where
  -- the output of a plan's simulation
  abbrev pub IsOfPlan : (Plan → List (List ℕ) → List ℕ → Type 0) → List ℕ → Type 0
  IsOfPlan IsOutput said = (plan : Plan) × (names : List (List ℕ)) × (plan_read text ≡ Ok (plan, names)) × IsOutput plan names said

  -- that of a plan's simulation, which goes with an answer
  abbrev pub IsOfRun : (Plan → List (List ℕ) → List ℕ → Bool → Type 0) → List ℕ → Type 0
  IsOfRun IsOutput said = (answer : Bool) × IsOfPlan (λ plan names said. IsOutput plan names said answer) said

  -- the output of a bus, which goes with an answer
  abbrev pub IsOfBus : (Bus → List ℕ → Bool → Type 0) → List ℕ → Type 0
  IsOfBus IsOutput said = (answer : Bool) × (bus : Bus) × (bus_read text ≡ Ok bus) × IsOutput bus said answer

  -- the output of a command that has an answer besides
  module _ {A : Type 0} (IsSaid : (text said : List ℕ) → A → Type 0) where
    abbrev pub IsAnswered : List ℕ → Type 0
    IsAnswered said = (length text ≤ most_bytes) × (a : A) × IsSaid text said a

  -- the output of a command: of `respond` in a format, of the others as text
  abbrev pub IsOutputOf : Option Format → Task → List ℕ → Type 0
  IsOutputOf format Run said = IsOfRun IsRunOutput said
  IsOutputOf format Check said = IsOfPlan IsPlanCheck said
  IsOutputOf format Explain said = IsOfBus (IsExplanationOf text) said
  IsOutputOf format (Margin tick all) said = IsOfBus (IsMarginOutput tick all) said
  IsOutputOf format (Respond tick) said = IsAnswered (IsResponse tick false format) said
  IsOutputOf format (Traffic tick) said = IsAnswered (IsTrafficOutput tick) said
  IsOutputOf format (Judge tick) said = IsAnswered (IsJudged tick false) said

  -- no plan is read from the text, but this fault, and nothing is said of that
  abbrev pub HasNoPlan : List ℕ → Type 0
  HasNoPlan said = (fault : SetupFault) × (fault ≢ setup.Memory) × (plan_read text ≡ Err fault) × (said ≡ [])

  abbrev pub HasNoBus : List ℕ → Type 0
  HasNoBus said = (fault : SetupFault) × (fault ≢ setup.Memory) × (bus_read text ≡ Err fault) × (said ≡ [])

  -- the words on a text that is refused, or on one that is too long
  abbrev pub AreWordsOn : SetupFault → List ℕ → Type 0
  AreWordsOn fault words = MatchBool (nat_le (length text) most_bytes) (IsRefusal text fault words) (words ≡ size_words)

  -- what is wrong with the text is said, and what to change; if memory runs out, only the front of that
  abbrev pub ExplainsRefusal : List ℕ → Type 0
  ExplainsRefusal said =
      (fault : SetupFault) × (rest : List ℕ) × (fault ≢ setup.Memory) × (bus_read text ≡ Err fault) × AreWordsOn fault (said ++ rest)

  -- what a command says of a text that is refused
  abbrev pub IsRefusalOf : Task → List ℕ → Type 0
  IsRefusalOf Run said = HasNoPlan said
  IsRefusalOf Check said = HasNoPlan said
  IsRefusalOf Explain said = ExplainsRefusal said
  IsRefusalOf (Margin tick all) said = HasNoBus said
  IsRefusalOf (Traffic tick) said = HasNoBus said
  IsRefusalOf (Respond tick) said = HasNoBus said
  IsRefusalOf (Judge tick) said = HasNoBus said

  -- what a command says, and whether it is the output or a refusal
  abbrev pub Says : Option Format → Task → Status → List ℕ → Type 0
  Says format task Done said = IsOutputOf format task said
  Says format task Refused said = IsRefusalOf task said
  Says format task Asked said = ⊥
  Says format task Memory said = ⊥
  Says format task Room said = ⊥
  Says format task Shape said = ⊥
