-- What the reading of a text answers, if the text is that of something (this project's profile).
use Rattle.std.specs.Prelude.{◌≡◌, ◌==◌, ℕ, Bool, false, not, List, [], ◌∷◌, ◌++◌, Option, Result, Ok, Err}
use Rattle.std.specs.Borrow.{Bor}
use Rattle.std.specs.Char.{is_ascii_digit}
use Rattle.std.specs.List.{position}
use Rattle.wl_parts.specs.declared.fault.PartsFault.{PartsFault}
use Rattle.wl_parts.specs.declared.fault.PartsFault.TheVariants as fault
use Rattle.wl_parts.specs.declared.part.SweepPart.{SweepPart}
use Rattle.wl_parts.specs.declared.read.Unread.{Unread}
use Rattle.wl_parts.specs.declared.read.Unread.TheVariants.{Form, Memory}

-- where the first byte is that is no digit
abbrev pub digit_count : List ℕ → Option ℕ
digit_count text = position (λ (byte : ℕ). not (is_ascii_digit byte)) text

-- a quotation mark comes next
abbrev pub is_quoted_end : List ℕ → Bool
is_quoted_end [] = false
is_quoted_end (byte ∷ rest) = byte == 34

-- only memory may be refused
abbrev pub OnlyMemory : Unread → Type 0
OnlyMemory Form = ⊥
OnlyMemory Memory = Unit {0}

-- this is left
abbrev pub Leaves : Result (Bor (List ℕ)) Unread → List ℕ → Type 0
Leaves (Ok left) rest = left.now ≡ rest
Leaves (Err e) rest = OnlyMemory e

-- this value is read, and this is left
abbrev pub GivesValue : {T : Type 0} → Result (T × Bor (List ℕ)) Unread → T → List ℕ → Type 0
GivesValue (Ok read) x rest = (read.0 ≡ x) × (read.1.now ≡ rest)
GivesValue (Err e) x rest = OnlyMemory e

-- a place has this value, and this is left
abbrev pub Sets : {T : Type 0} → Result (Bor (List ℕ)) Unread → T → T → List ℕ → Type 0
Sets (Ok left) new x rest = (new ≡ x) × (left.now ≡ rest)
Sets (Err e) new x rest = OnlyMemory e

-- these parts are read, unless memory was refused
abbrev pub ReadsParts : Result (List SweepPart) PartsFault → List SweepPart → Type 0
ReadsParts (Ok read) parts = read ≡ parts
ReadsParts (Err e) parts = e ≡ fault.Memory

-- this part is added to others, and this is left
abbrev pub AddsPart : Result (Bor (List ℕ)) PartsFault → List SweepPart → List SweepPart → SweepPart → List ℕ → Type 0
AddsPart (Ok left) old new p rest = (new ≡ old ++ p ∷ []) × (left.now ≡ rest)
AddsPart (Err e) old new p rest = e ≡ fault.Memory
