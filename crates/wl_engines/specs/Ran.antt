-- What a run answers, whichever engine ran (this project's profile).
use Rattle.std.specs.Prelude.{◌≡◌, Result, Ok, Err}
use Rattle.wl_device.specs.declared.device.WriteFault.{WriteFault}
use Rattle.wl_engines.specs.declared.fault.RunFault.{RunFault}
use Rattle.wl_engines.specs.declared.fault.RunFault.TheVariants.{Write, Memory}

-- Its output went out, as far as it went; or memory ran out, or the input is refused by this fault, and the writer wasn't called.
module _ {T : Type 0} (Refuses : RunFault → Type 0) (Wrote : Result (Unit {0}) WriteFault → Type 0) (t t' : T) where
  abbrev pub Ran : Result (Unit {0}) RunFault → Type 0
  Ran (Ok u) = Wrote (Ok tt)
  Ran (Err Write) = (fault : WriteFault) × Wrote (Err fault)
  Ran (Err Memory) = t' ≡ t
  Ran (Err fault) = Refuses fault × (t' ≡ t)

-- The same of a run that answers something, which goes with its output.
module _ {A T : Type 0} (Refuses : RunFault → Type 0) (Wrote : A → Result (Unit {0}) WriteFault → Type 0) (t t' : T) where
  abbrev pub RanWith : Result A RunFault → Type 0
  RanWith (Ok answer) = Wrote answer (Ok tt)
  RanWith (Err Write) = (answer : A) × (fault : WriteFault) × Wrote answer (Err fault)
  RanWith (Err Memory) = t' ≡ t
  RanWith (Err fault) = Refuses fault × (t' ≡ t)
