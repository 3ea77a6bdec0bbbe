-- What is said of a plan's text goes out, and an answer is given (this project's profile).
use Rattle.std.specs.Prelude.{◌≡◌, ◌≢◌, ℕ, List, Result, Ok, Err}
use Rattle.wl_device.specs.Bounded.{ReadsUpTo}
use Rattle.wl_device.specs.Devices.{Answer, Writes}
use Rattle.wl_device.specs.declared.bounded.Ended.{Ended}
use Rattle.wl_device.specs.declared.bounded.Ended.TheVariants as ended
use Rattle.wl_device.specs.declared.device.WriteFault.{WriteFault}
use Rattle.wl_setup.specs.declared.fault.SetupFault.{SetupFault}
use Rattle.wl_setup.specs.declared.fault.SetupFault.TheVariants as setup
use Rattle.wl_setup.specs.Limits.{most_bytes}
use Rattle.wl_engines.specs.Explained.{bus_answer}
use Rattle.wl_engines.specs.declared.fault.RunFault.{RunFault}
use Rattle.wl_engines.specs.declared.fault.RunFault.TheVariants.{Setup, Write, Memory}

module _ {A T : Type 0} (IsSaid : (text said : List ℕ) → A → Type 0) (takes : T → Answer → T → Type 0) where
  -- something that may be said of the text with this answer went out, as far as it went
  abbrev pub WritesSaid : List ℕ → A → Result (Unit {0}) WriteFault → T → T → Type 0
  WritesSaid text a r t t' = (said : List ℕ) × IsSaid text said a × Writes takes t said r t'

  -- what was done with a whole text
  abbrev pub AnswersText : List ℕ → T → T → Result A RunFault → Type 0
  AnswersText text t t' (Ok a) = WritesSaid text a (Ok tt) t t'
  AnswersText text t t' (Err Write) = (fault : WriteFault) × (a : A) × WritesSaid text a (Err fault) t t'
  AnswersText text t t' (Err Memory) = t' ≡ t
  AnswersText text t t' (Err (Setup fault)) = (fault ≢ setup.Memory) × (bus_answer text ≡ Err fault) × (t' ≡ t)
  AnswersText text t t' (Err _) = ⊥

  -- what was done with what was read, by how the reading ended
  abbrev pub AnswersReading : Ended → List ℕ → T → T → Result A RunFault → Type 0
  AnswersReading ended.End text t t' r = AnswersText text t t' r
  AnswersReading ended.Broken text t t' r = (r ≡ Err (Setup setup.Read)) × (t' ≡ t)
  AnswersReading ended.Full text t t' r = (r ≡ Err (Setup setup.Size)) × (t' ≡ t)

-- memory ran out and the writer wasn't called, or that with what the reader gave in one reading
module _ {A S T : Type 0} (IsSaid : (text said : List ℕ) → A → Type 0) (gives : S → Answer → S → Type 0) (takes : T → Answer → T → Type 0) (s s' : S) (t t' : T) where
  abbrev pub Answered : Result A RunFault → Type 0
  Answered r = (text : List ℕ) × (e : Ended) × ReadsUpTo gives s most_bytes text e s' × AnswersReading IsSaid takes e text t t' r

  abbrev pub Answers : Result A RunFault → Type 0
  Answers (Err Memory) = t' ≡ t
  Answers r = Answered r
