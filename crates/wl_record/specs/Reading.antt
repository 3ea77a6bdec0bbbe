-- Reading records: what a reader gave, and what is to be answered (this project's profile).
use Rattle.std.specs.Prelude.{◌≡◌, ℕ, ◌+◌, ◌++◌, ◌≤◌, List, [], length}
use Rattle.std.specs.List.{AllByRecursion}
use Rattle.wl_limits.specs.declared.Limits.{Limits}
use Rattle.wl_record_core.specs.declared.record.Record.{Record}
use Rattle.wl_record.specs.declared.fault.TextFault.{TextFault}
use Rattle.wl_record.specs.declared.fault.TextFault.TheVariants.{Memory}
use Rattle.wl_record.specs.declared.read.Came.{Came}
use Rattle.wl_record.specs.declared.read.Came.TheVariants.{More, All}
use Rattle.wl_device.specs.Limits.{most_calls}
use Rattle.wl_record.specs.Limits.{most_record_bytes}
use Rattle.wl_record_core.specs.Within.{IsWithinBy}
use Rattle.wl_device.specs.Devices.{Answer, Run, moved_bytes, AllGoOn}
use Rattle.wl_record.specs.Grammar.{IsText}
use Rattle.wl_device.specs.Readings.{Ending, at_end, going_on, Reads}
use Rattle.wl_record.specs.Faults.{IsFirstFault, Stands}

-- the records of all that the reader gave up to its end
abbrev pub RecordsOf : {S : Type 0} → Limits → (S → Answer → S → Type 0) → S → List Record → S → Type 0
RecordsOf limits gives s rs t = (text : List ℕ) × Reads gives s text at_end t × IsText limits text rs

-- the fault is the first one of what the reader gave, of which no more is read than a text has and one byte; out of memory comes
-- while it goes on
abbrev pub FaultOf : {S : Type 0} → Limits → (S → Answer → S → Type 0) → S → TextFault → S → Type 0
FaultOf limits gives s Memory t = (text : List ℕ) × Reads gives s text going_on t × (length text ≤ most_record_bytes + 1)
FaultOf limits gives s fault t = (text : List ℕ) × (e : Ending) × Reads gives s text e t × (length text ≤ most_record_bytes + 1) × IsFirstFault limits text e fault

-- what a reading by pieces keeps between its steps: its limits, the calls, bytes and lines so far, and the part of a line
pub record ReadProgress : Type 0 where
  pub limits : Limits
  pub calls : ℕ
  pub bytes : ℕ
  pub lines : ℕ
  pub begun : List ℕ

abbrev pub beginning : Limits → ReadProgress
beginning limits = record { limits = limits; calls = 0; bytes = 0; lines = 0; begun = [] }

-- The reader made these answers, after which it goes on, and gave the lines of these records and the part of a line.
pub record HasRead {S : Type 0} (gives : S → Answer → S → Type 0) (s : S) (answers : List Answer) (rs : List Record) (p : ReadProgress) (t : S) : Type 0 where
  pub run : Run gives s answers t
  pub goes : AllGoOn answers
  pub calls : length answers ≡ p.calls
  pub bytes : length (moved_bytes answers) ≡ p.bytes
  pub lines : length rs ≡ p.lines
  pub stands : Stands p.limits (moved_bytes answers) rs p.begun []

-- A step of reading: wherever it began, these records came, and reading goes on or was the whole of the text.
abbrev pub GoesOnWith : {S : Type 0} → (S → Answer → S → Type 0) → ReadProgress → S → Came → List Record → ReadProgress → S → Type 0
GoesOnWith {S} gives p t came rs q u = AllByRecursion (IsWithinBy p.limits) rs × ((s : S) (answers : List Answer) (told : List Record) → HasRead gives s answers told p t → ComesTo s (told ++ rs) came)
  where
    ComesTo : S → List Record → Came → Type 0
    ComesTo s told More = (answers : List Answer) × HasRead gives s answers told q u
    ComesTo s told All = RecordsOf p.limits gives s told u

-- a step that ends in a fault: wherever reading began, it is that of all that the reader gave
abbrev pub FaultsWith : {S : Type 0} → (S → Answer → S → Type 0) → ReadProgress → S → TextFault → S → Type 0
FaultsWith {S} gives p t fault u = (s : S) (answers : List Answer) (told : List Record) → HasRead gives s answers told p t → FaultOf p.limits gives s fault u

-- all calls are made, or reading is over
abbrev pub IsSpent : ReadProgress → Type 0
IsSpent p = p.calls ≡ most_calls

-- a step after which reading goes on makes one call, and the last one leaves none
abbrev pub CountsCalls : Came → ReadProgress → ReadProgress → Type 0
CountsCalls More p q = (q.calls ≡ p.calls + 1) × (q.calls ≤ most_calls)
CountsCalls All p q = IsSpent q
