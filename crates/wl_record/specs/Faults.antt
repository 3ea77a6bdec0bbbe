-- The first fault of what is no record text (this project's profile).
use Rattle.std.specs.Prelude.{◌≡◌, ◌≢◌, ℕ, ◌+◌, ◌<◌, ◌≤◌, ◌⊎◌, List, [], ◌∷◌, ◌++◌, length, Result, MatchResult}
use Rattle.std.specs.List.{AllByRecursion}
use Rattle.wl_limits.specs.declared.Limits.{Limits}
use Rattle.wl_record_core.specs.declared.record.Record.{Record}
use Rattle.wl_record.specs.declared.fault.TextFault.{TextFault}
use Rattle.wl_record.specs.declared.fault.TextFault.TheVariants.{Line, Range, Truncated, Read, TooLong, Memory}
use Rattle.wl_record.specs.Limits.{most_record_bytes, most_line}
use Rattle.wl_record_core.specs.Within.{IsWithinBy}
use Rattle.wl_record.specs.Grammar.{Spells, Lines, IsText}
use Rattle.wl_device.specs.Readings.{Ending, at_end, broken_off}

abbrev pub HasNoNewline : List ℕ → Type 0
HasNoNewline bytes = AllByRecursion (λ b. b ≢ 10) bytes

-- The text as far as it is in order: whole lines of these records, and the part of a line; and then the rest.
pub record Stands (limits : Limits) (text : List ℕ) (rs : List Record) (begun rest : List ℕ) : Type 0 where
  pub front : List ℕ
  pub parts : text ≡ front ++ (begun ++ rest)
  pub lines : Lines front rs
  pub within : AllByRecursion (IsWithinBy limits) rs
  pub one_line : HasNoNewline begun
  pub short_line : length begun ≤ most_line
  pub short_text : length text ≤ most_record_bytes + length rest

-- the next byte ends the line, and is one that a text may have
abbrev pub EndsLine : List ℕ → List ℕ → Type 0
EndsLine text rest = (more : List ℕ) × (rest ≡ 10 ∷ more) × (length text < most_record_bytes + length rest)

-- the next byte is the first past those of a text, or past those of a line
abbrev pub GoesPast : List ℕ → List ℕ → List ℕ → Type 0
GoesPast text begun rest = (next : ℕ) × (more : List ℕ) × (rest ≡ next ∷ more) × ((length text ≡ most_record_bytes + length rest) ⊎ ((length begun ≡ most_line) × (next ≢ 10)))

-- the fault that comes there, by the next byte or, where there is none, by the ending
abbrev pub FaultThere : Limits → List ℕ → List Record → List ℕ → List ℕ → Ending → TextFault → Type 0
FaultThere limits text rs begun rest e (Line n) = (n ≡ length rs + 1) × EndsLine text rest × ((r : Record) → ¬ (Spells begun r))
FaultThere limits text rs begun rest e (Range n) = (n ≡ length rs + 1) × EndsLine text rest × (r : Record) × Spells begun r × ¬ (IsWithinBy limits r)
FaultThere limits text rs begun rest e Truncated = (rest ≡ []) × (begun ≢ []) × (e ≡ at_end)
FaultThere limits text rs begun rest e Read = (rest ≡ []) × (e ≡ broken_off)
FaultThere limits text rs begun rest e (TooLong n) = (n ≡ length rs + 1) × GoesPast text begun rest
FaultThere limits text rs begun rest e Memory = ⊥

-- the first fault of the bytes and their ending
abbrev pub IsFirstFault : Limits → List ℕ → Ending → TextFault → Type 0
IsFirstFault limits text e fault = (rs : List Record) × (begun rest : List ℕ) × Stands limits text rs begun rest × FaultThere limits text rs begun rest e fault

-- what is to be answered of the bytes and their ending: the records of a text, or the first fault
abbrev pub IsTextAnswer : Limits → List ℕ → Ending → Result (List Record) TextFault → Type 0
IsTextAnswer limits text e answer = MatchResult answer (λ rs. IsText limits text rs × (e ≡ at_end)) (λ fault. IsFirstFault limits text e fault)
