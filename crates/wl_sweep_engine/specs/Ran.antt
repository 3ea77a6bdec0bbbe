-- What an engine answers (this project's profile).
use Rattle.std.specs.Prelude.{◌≡◌, Result, Ok, Err}
use Rattle.wl_device.specs.declared.device.WriteFault.{WriteFault}
use Rattle.wl_sweep_engine.specs.declared.fault.SweepFault.{SweepFault}
use Rattle.wl_sweep_engine.specs.declared.fault.SweepFault.TheVariants.{Write, Memory}

-- Its output went out, as far as it went, and it answers this; or memory ran out, or this fault refuses what was asked or read, and the writer
-- wasn't called.
module _ {A T : Type 0} (Refuses : SweepFault → Type 0) (Wrote : A → Result (Unit {0}) WriteFault → Type 0) (t t' : T) where
  abbrev pub Ran : Result A SweepFault → Type 0
  Ran (Ok answer) = Wrote answer (Ok tt)
  Ran (Err Write) = (answer : A) × (fault : WriteFault) × Wrote answer (Err fault)
  Ran (Err Memory) = t' ≡ t
  Ran (Err fault) = Refuses fault × (t' ≡ t)
