-- The plan of a wish goes out (this project's profile).
use Rattle.std.specs.Prelude.{◌≡◌, ◌⊎◌, Result, Ok, Err}
use Rattle.wl_device.specs.Devices.{Answer, Writes}
use Rattle.wl_device.specs.declared.device.WriteFault.{WriteFault}
use Rattle.wl_init.specs.declared.draft.Draft.{Draft}
use Rattle.wl_init.specs.declared.fault.InitFault.{InitFault}
use Rattle.wl_init.specs.declared.fault.InitFault.TheVariants.{Write, Memory}
use Rattle.wl_init.specs.declared.wish.Wish.{Wish}
use Rattle.wl_init.specs.Drafts.{draft_of}
use Rattle.wl_init.specs.Texts.{first_plan_words}

module _ {T : Type 0} (takes : T → Answer → T → Type 0) (wish : Wish) (t t' : T) where
  -- the plan of the wish went out, as far as it went
  abbrev pub Wrote : Result (Unit {0}) WriteFault → Type 0
  Wrote r = (d : Draft) × (draft_of wish ≡ Ok d) × Writes takes t (first_plan_words d) r t'

  -- nothing was written: memory was refused, or the wish
  abbrev pub WritesNone : InitFault → Type 0
  WritesNone fault = (t' ≡ t) × ((fault ≡ Memory) ⊎ (draft_of wish ≡ Err fault))

  -- the writer failed, and a prefix of the plan was written
  abbrev pub WritesSome : InitFault → Type 0
  WritesSome fault = (fault ≡ Write) × (f : WriteFault) × Wrote (Err f)

  -- what was done
  abbrev pub Inits : Result (Unit {0}) InitFault → Type 0
  Inits (Ok u) = Wrote (Ok tt)
  Inits (Err fault) = WritesNone fault ⊎ WritesSome fault
