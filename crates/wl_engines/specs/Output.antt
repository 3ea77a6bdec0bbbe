-- An output goes out (this project's profile).
use Rattle.std.specs.Prelude.{◌≡◌, ℕ, List, Result, Ok, Err}
use Rattle.wl_device.specs.Devices.{Answer, Writes}
use Rattle.wl_device.specs.declared.device.WriteFault.{WriteFault}
use Rattle.wl_engines.specs.declared.fault.RunFault.{RunFault}
use Rattle.wl_engines.specs.declared.fault.RunFault.TheVariants.{Write}
use Rattle.wl_engines.specs.Ran.{Ran, RanWith}

module _ {T : Type 0} (takes : T → Answer → T → Type 0) where
  -- a text went out, as far as it went
  abbrev pub WritesText : List ℕ → T → T → Result (Unit {0}) RunFault → Type 0
  WritesText text t t' (Ok u) = Writes takes t text (Ok tt) t'
  WritesText text t t' (Err Write) = (fault : WriteFault) × Writes takes t text (Err fault) t'
  WritesText text t t' (Err _) = ⊥

  -- that, and this is answered then
  abbrev pub WritesAnswer : {A : Type 0} → List ℕ → A → T → T → Result A RunFault → Type 0
  WritesAnswer text answer t t' (Ok a) = (a ≡ answer) × Writes takes t text (Ok tt) t'
  WritesAnswer text answer t t' (Err Write) = (fault : WriteFault) × Writes takes t text (Err fault) t'
  WritesAnswer text answer t t' (Err _) = ⊥

  -- some text with this property went out, as far as it went
  abbrev pub WritesSome : (List ℕ → Type 0) → T → T → Result (Unit {0}) WriteFault → Type 0
  WritesSome IsText t t' r = (text : List ℕ) × IsText text × Writes takes t text r t'

  -- that, or memory ran out and the writer wasn't called
  abbrev pub Outputs : (List ℕ → Type 0) → T → T → Result (Unit {0}) RunFault → Type 0
  Outputs IsText t t' = Ran (λ fault. ⊥) (WritesSome IsText t t') t t'

  -- some text that goes with an answer went out, as far as it went
  abbrev pub WritesSomeWith : {A : Type 0} → (List ℕ → A → Type 0) → T → T → A → Result (Unit {0}) WriteFault → Type 0
  WritesSomeWith IsText t t' answer r = (text : List ℕ) × IsText text answer × Writes takes t text r t'

  -- that, or memory ran out and the writer wasn't called
  abbrev pub OutputsWith : {A : Type 0} → (List ℕ → A → Type 0) → T → T → Result A RunFault → Type 0
  OutputsWith IsText t t' = RanWith (λ fault. ⊥) (WritesSomeWith IsText t t') t t'
