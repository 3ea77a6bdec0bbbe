-- Views that are written by pieces (this project's profile).
use Rattle.std.specs.Prelude.{◌≡◌, ℕ, List, Result, Ok, Err}
use Rattle.wl_device.specs.Devices.{Answer, Writes}
use Rattle.wl_device.specs.declared.device.WriteFault.{WriteFault}
use Rattle.wl_views.specs.declared.fault.ViewFault.{ViewFault}
use Rattle.wl_views.specs.declared.fault.ViewFault.TheVariants.{Write, Memory}

-- all of the text went out; or the writer gave out when a prefix of it had gone; or memory ran out, and the writer wasn't called
module _ {T : Type 0} (takes : T → Answer → T → Type 0) (t : T) (text : List ℕ) (t' : T) where
  abbrev pub Streams : Result (Unit {0}) ViewFault → Type 0
  Streams (Ok u) = Writes takes t text (Ok tt) t'
  Streams (Err Write) = (fault : WriteFault) × Writes takes t text (Err fault) t'
  Streams (Err Memory) = t' ≡ t
