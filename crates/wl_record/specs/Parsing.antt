-- Parts of lines, as the functions that read them say (this project's profile).
use Rattle.std.specs.Prelude.{◌≡◌, ◌≢◌, ℕ, ◌+◌, ◌≤◌, List, [], ◌∷◌, ◌++◌, length, min, Option, MatchOption, Bool, true, false, if◌then◌else◌, ◌⊎◌}
use Rattle.std.specs.List.{AllByRecursion}
use Rattle.std.specs.Char.{digit_value}
use Rattle.std.specs.Str.Parse.{AllDigits, digits_value}
use Rattle.wl_limits.specs.declared.Limits.{Limits}
use Rattle.wl_record_core.specs.declared.record.Record.{Record}
use Rattle.wl_record.specs.declared.parse.LineFault.{LineFault}
use Rattle.wl_record.specs.declared.parse.LineFault.TheVariants.{Grammar, Beyond}
use Rattle.wl_record.specs.declared.parse.Stop.{Stop}
use Rattle.wl_record.specs.declared.parse.Stop.TheVariants.{Open, Long, Refused}
use Rattle.wl_record.specs.declared.fault.TextFault.{TextFault}
use Rattle.wl_record.specs.declared.fault.TextFault.TheVariants.{Line, Range, TooLong, Memory}
use Rattle.wl_record.specs.Limits.{most_line}
use Rattle.wl_record_core.specs.Within.{IsWithinBy}
use Rattle.wl_record.specs.Grammar.{IsNumber, letter_of, numbers_of, Spells, Lines}
use Rattle.wl_record.specs.Faults.{HasNoNewline}

-- the record where it is within, none where it is not
abbrev pub IsOnlyWithin : Limits → Record → Option Record → Type 0
IsOnlyWithin limits r answer = MatchOption answer (¬ (IsWithinBy limits r)) (λ s. (s ≡ r) × IsWithinBy limits s)

-- there is no digit at the front
abbrev pub Stops : List ℕ → Type 0
Stops [] = Unit {0}
Stops (b ∷ bytes) = 10 ≤ digit_value b

-- a number as it is read: exactly, or as this limit where it is greater
abbrev pub number_as_read : ℕ → ℕ
number_as_read n = min n 1000000000000000000

-- the digits at the front, and what follows them
pub record IsDigits (bytes : List ℕ) (value : ℕ) (rest : List ℕ) : Type 0 where
  pub digits : List ℕ
  pub parts : bytes ≡ digits ++ rest
  pub each : AllDigits 10 digits
  pub stops : Stops rest
  pub value_is : value ≡ number_as_read (digits_value 10 digits)

-- a space and a number, and what follows them
pub record IsField (bytes : List ℕ) (n : ℕ) (rest : List ℕ) : Type 0 where
  pub number : List ℕ
  pub is_number : IsNumber number n
  pub parts : bytes ≡ 32 ∷ (number ++ rest)
  pub stops : Stops rest

-- fields with these numbers, and what follows them
abbrev pub FieldsThen : List ℕ → List ℕ → List ℕ → Type 0
FieldsThen bytes [] rest = bytes ≡ rest
FieldsThen bytes (n ∷ ns) rest = (more : List ℕ) × IsField bytes n more × FieldsThen more ns rest

-- a record's letter and fields, and what follows them
abbrev pub Begins : List ℕ → Record → List ℕ → Type 0
Begins bytes r rest = (fields : List ℕ) × (bytes ≡ letter_of r ∷ fields) × FieldsThen fields (numbers_of r) rest

-- after this letter, the fields of a record and what follows them; the record is answered where it is within
abbrev pub IsFront : Limits → ℕ → List ℕ → Option Record → List ℕ → Type 0
IsFront limits letter fields told rest = MatchOption told
    ((r : Record) × (letter_of r ≡ letter) × FieldsThen fields (numbers_of r) rest × ¬ (IsWithinBy limits r))
    (λ r. (letter_of r ≡ letter) × FieldsThen fields (numbers_of r) rest × IsWithinBy limits r)

-- the same, with the letter
abbrev pub IsRecordFront : Limits → List ℕ → Option Record → List ℕ → Type 0
IsRecordFront limits bytes told rest = MatchOption told
    ((r : Record) × Begins bytes r rest × ¬ (IsWithinBy limits r))
    (λ r. Begins bytes r rest × IsWithinBy limits r)

-- why a line is refused
abbrev pub IsLineFault : Limits → List ℕ → LineFault → Type 0
IsLineFault limits line Grammar = (r : Record) → ¬ (Spells line r)
IsLineFault limits line Beyond = (r : Record) × Spells line r × ¬ (IsWithinBy limits r)

-- a line and its newline at the front, and what follows them
pub record HasLine (bytes line rest : List ℕ) : Type 0 where
  pub parts : bytes ≡ line ++ (10 ∷ rest)
  pub one_line : HasNoNewline line
  pub short : length line ≤ most_line

-- a record's line at the front
pub record TakesLine (limits : Limits) (bytes : List ℕ) (r : Record) (rest : List ℕ) : Type 0 where
  pub line : List ℕ
  pub parts : bytes ≡ line ++ (10 ∷ rest)
  pub spelled : Spells line r
  pub within : IsWithinBy limits r

-- why there is no record's line at the front
abbrev pub IsStop : Limits → List ℕ → Stop → Type 0
IsStop limits bytes Open = HasNoNewline bytes × (length bytes ≤ most_line)
IsStop limits bytes Long = (begun : List ℕ) × (next : ℕ) × (more : List ℕ) × (bytes ≡ begun ++ (next ∷ more)) × HasNoNewline begun × (length begun ≡ most_line) × (next ≢ 10)
IsStop limits bytes (Refused fault) = (line rest : List ℕ) × HasLine bytes line rest × IsLineFault limits line fault

-- the lines of these records are at the front, and what follows them has none
pub record TakesLines (limits : Limits) (bytes : List ℕ) (rs : List Record) (rest : List ℕ) : Type 0 where
  pub front : List ℕ
  pub parts : bytes ≡ front ++ rest
  pub lines : Lines front rs
  pub within : AllByRecursion (IsWithinBy limits) rs

-- the fault that a stop is in the line with this number
abbrev pub stop_fault : Stop → ℕ → TextFault
stop_fault Open n = TooLong n
stop_fault Long n = TooLong n
stop_fault (Refused Grammar) n = Line n
stop_fault (Refused Beyond) n = Range n

-- one byte is past those of a text, or none
abbrev pub past_len : Bool → ℕ
past_len b = if b then 1 else 0

-- A fault in some bytes: lines of records, and then the stop. It is one in an open line where there is a byte past those of a text.
pub record StopsAt (limits : Limits) (bytes : List ℕ) (past : Bool) (rs : List Record) (stop : Stop) : Type 0 where
  pub allowed : List ℕ
  pub beyond : List ℕ
  pub rest : List ℕ
  pub parts : bytes ≡ allowed ++ beyond
  pub beyond_is : length beyond ≡ past_len past
  pub taken : TakesLines limits allowed rs rest
  pub stops : IsStop limits rest stop
  pub open_is_past : stop ≡ Open → past ≡ true

-- what there was, and then records that are within
abbrev pub Appends : Limits → List Record → List Record → Type 0
Appends limits old new = (rs : List Record) × AllByRecursion (IsWithinBy limits) rs × (new ≡ old ++ rs)

-- lines of records, and then the part of a line
pub record TakesPiece (limits : Limits) (bytes : List ℕ) (past : Bool) (rs : List Record) (begun : List ℕ) : Type 0 where
  pub taken : TakesLines limits bytes rs begun
  pub one_line : HasNoNewline begun
  pub short : length begun ≤ most_line
  pub none_past : past ≡ false

-- why a piece is refused, after so many lines
abbrev pub IsPieceFault : Limits → List ℕ → Bool → ℕ → TextFault → Type 0
IsPieceFault limits bytes past lines fault = (fault ≡ Memory) ⊎ ((rs : List Record) × (stop : Stop) × StopsAt limits bytes past rs stop × (fault ≡ stop_fault stop (lines + length rs + 1)))
