-- What joining the parts of a sweep did (this project's profile).
use Rattle.std.specs.Prelude.{◌≡◌, ℕ, Bool, List, Result, Ok, Err}
use Rattle.std.specs.List.{AllByRecursion}
use Rattle.wl_device.specs.Bounded.{ReadsUpTo}
use Rattle.wl_device.specs.Devices.{Answer, Writes}
use Rattle.wl_device.specs.declared.bounded.Ended.TheVariants as ended
use Rattle.wl_device.specs.declared.device.WriteFault.{WriteFault}
use Rattle.wl_parts.specs.declared.fault.PartsFault.{PartsFault}
use Rattle.wl_parts.specs.declared.fault.PartsFault.TheVariants as parts
use Rattle.wl_parts.specs.declared.part.SweepPart.{SweepPart}
use Rattle.wl_parts.specs.Joined.{joined_of}
use Rattle.wl_parts.specs.Text.{PartFits, parts_text}
use Rattle.wl_sweep_engine.specs.declared.join.JoinFault.{JoinFault}
use Rattle.wl_sweep_engine.specs.declared.join.JoinFault.TheVariants.{Parts, Read, Size, Write, Memory}
use Rattle.wl_sweep_engine.specs.declared.join.TheConstants.{MOST_BYTES}

-- out of memory is a fault of the join, and all else the parts'
abbrev pub of_parts : PartsFault → JoinFault
of_parts (parts.Form n) = Parts (parts.Form n)
of_parts (parts.Other n) = Parts (parts.Other n)
of_parts (parts.Missing n) = Parts (parts.Missing n)
of_parts (parts.Doubled n) = Parts (parts.Doubled n)
of_parts parts.Memory = Memory

-- what is answered for parts: what they say together, or their first fault
abbrev pub AnswersParts : Result (List ℕ × Bool) PartsFault → Result (List ℕ × Bool) JoinFault → Type 0
AnswersParts (Ok said) r = r ≡ Ok said
AnswersParts (Err fault) r = r ≡ Err (of_parts fault)

module _ {S T : Type 0} (gives : S → Answer → S → Type 0) (takes : T → Answer → T → Type 0) (s s' : S) (t t' : T) where
  -- the reader gave this text, and if it is that of some parts, these have this answer
  abbrev pub Answered : Result (List ℕ × Bool) JoinFault → Type 0
  Answered r =
      (text : List ℕ) × ReadsUpTo gives s MOST_BYTES text ended.End s'
      × ((ps : List SweepPart) → AllByRecursion PartFits ps → text ≡ parts_text ps → AnswersParts (joined_of ps) r)

  -- what a join did
  abbrev pub Joins : Result Bool JoinFault → Type 0
  Joins (Ok clean) = (said : List ℕ) × Answered (Ok (said, clean)) × Writes takes t said (Ok tt) t'
  Joins (Err Write) = (said : List ℕ) × (clean : Bool) × (fault : WriteFault) × Answered (Ok (said, clean)) × Writes takes t said (Err fault) t'
  Joins (Err Memory) = t' ≡ t
  Joins (Err Read) = ((text : List ℕ) × ReadsUpTo gives s MOST_BYTES text ended.Broken s') × (t' ≡ t)
  Joins (Err Size) = ((text : List ℕ) × ReadsUpTo gives s MOST_BYTES text ended.Full s') × (t' ≡ t)
  Joins (Err (Parts fault)) = Answered (Err (Parts fault)) × (t' ≡ t)
