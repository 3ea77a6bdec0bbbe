-- The explanation of a plan goes out (this project's profile).
use Rattle.std.specs.Prelude.{◌≡◌, ◌≢◌, ℕ, Bool, List, Result, Ok, Err}
use Rattle.wl_device.specs.Bounded.{ReadsUpTo}
use Rattle.wl_device.specs.Devices.{Answer, Writes}
use Rattle.wl_device.specs.declared.bounded.Ended.{Ended}
use Rattle.wl_device.specs.declared.bounded.Ended.TheVariants as ended
use Rattle.wl_device.specs.declared.device.WriteFault.{WriteFault}
use Rattle.wl_setup.specs.declared.bus.Bus.{Bus}
use Rattle.wl_setup.specs.declared.fault.SetupFault.{SetupFault}
use Rattle.wl_setup.specs.declared.fault.SetupFault.TheVariants as setup
use Rattle.wl_setup.specs.declared.plan_text.PlanText.{PlanText}
use Rattle.wl_setup.specs.Limits.{most_bytes}
use Rattle.wl_setup.specs.Plans.{after}
use Rattle.wl_setup.specs.Buses.{bus_of_text}
use Rattle.wl_setup.specs.Reading.{text_answer}
use Rattle.wl_explain.specs.Condition.{IsExplanation}
use Rattle.wl_explain.specs.Refusals.{IsRefusal, size_words}
use Rattle.wl_engines.specs.declared.fault.RunFault.{RunFault}
use Rattle.wl_engines.specs.declared.fault.RunFault.TheVariants.{Setup, Write, Memory}

-- the bus of a whole text, or the text's first fault
abbrev pub bus_answer : List ℕ → Result Bus SetupFault
bus_answer text = after (text_answer text) bus_of_text

-- what is doubtful of a text's bus, and the figures, under the names of the nodes, and whether anything is doubtful
abbrev pub IsExplanationOf : List ℕ → Bus → List ℕ → (doubted : Bool) → Type 0
IsExplanationOf text bus said doubted = (plain : PlanText) × (text_answer text ≡ Ok plain) × IsExplanation plain bus said doubted

module _ {T : Type 0} (takes : T → Answer → T → Type 0) where
  -- these bytes went out, as far as they went
  abbrev pub Said : List ℕ → T → T → Type 0
  Said text t t' = (r : Result (Unit {0}) WriteFault) × Writes takes t text r t'

  -- that of a plan that can be run went out, as far as it went
  abbrev pub WritesDoubts : List ℕ → (doubted : Bool) → Result (Unit {0}) WriteFault → T → T → Type 0
  WritesDoubts text doubted r t t' =
      (bus : Bus) × (said : List ℕ) × (bus_answer text ≡ Ok bus) × IsExplanationOf text bus said doubted × Writes takes t said r t'

  -- of a text that is refused: its first fault, and on it what is wrong and what to change
  abbrev pub TellsRefusal : List ℕ → SetupFault → T → T → Type 0
  TellsRefusal text fault t t' =
      (fault ≢ setup.Memory) × (bus_answer text ≡ Err fault) × (said : List ℕ) × IsRefusal text fault said × Said said t t'

  -- what was done with a whole text
  abbrev pub ExplainsText : List ℕ → T → T → Result Bool RunFault → Type 0
  ExplainsText text t t' (Ok doubted) = WritesDoubts text doubted (Ok tt) t t'
  ExplainsText text t t' (Err Write) = (doubted : Bool) × (fault : WriteFault) × WritesDoubts text doubted (Err fault) t t'
  ExplainsText text t t' (Err Memory) = t' ≡ t
  ExplainsText text t t' (Err (Setup fault)) = TellsRefusal text fault t t'
  ExplainsText text t t' (Err _) = ⊥

  -- what was done with what was read, by how the reading ended; where it was too long, that is said
  abbrev pub ExplainsReading : Ended → List ℕ → T → T → Result Bool RunFault → Type 0
  ExplainsReading ended.End text t t' r = ExplainsText text t t' r
  ExplainsReading ended.Broken text t t' r = (r ≡ Err (Setup setup.Read)) × (t' ≡ t)
  ExplainsReading ended.Full text t t' (Err Memory) = t' ≡ t
  ExplainsReading ended.Full text t t' r = (r ≡ Err (Setup setup.Size)) × Said size_words t t'

-- what an explanation did: memory ran out and the writer wasn't called, or that with what the reader gave in one reading
abbrev pub Explained : {S T : Type 0} → (S → Answer → S → Type 0) → (T → Answer → T → Type 0) → S → S → T → T → Result Bool RunFault → Type 0
Explained gives takes s s' t t' r =
    (text : List ℕ) × (e : Ended) × ReadsUpTo gives s most_bytes text e s' × ExplainsReading takes e text t t' r

abbrev pub Explains : {S T : Type 0} → (S → Answer → S → Type 0) → (T → Answer → T → Type 0) → S → S → T → T → Result Bool RunFault → Type 0
Explains gives takes s s' t t' (Err Memory) = t' ≡ t
Explains gives takes s s' t t' r = Explained gives takes s s' t t' r
