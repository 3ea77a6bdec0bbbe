-- What readers and writers did, call by call (this project's profile).
use Rattle.std.specs.Prelude.{◌≡◌, ◌≢◌, ℕ, ◌+◌, ◌<◌, ◌≤◌, ◌⊎◌, List, [], ◌∷◌, ◌++◌, length, take, Option, Result, MatchResult}
use Rattle.std.specs.Io.KnownBytes.{Keeps, Appends, Consumes, IsAtEnd}
use Rattle.std.specs.List.{AllByRecursion}
use Prim.Native.Nat.{zero, suc}
use Rattle.wl_device.specs.Limits.{most_calls}
use Rattle.wl_device.specs.declared.device.WriteFault.{WriteFault}
use Rattle.wl_device.specs.declared.device.Got.{Got}
use Rattle.wl_device.specs.declared.device.Got.TheVariants as got
use Rattle.wl_device.specs.declared.device.Put.{Put}
use Rattle.wl_device.specs.declared.device.Put.TheVariants as put

-- what one call did: some bytes came or went, or the end came, or nothing, or the device failed
pub data Answer : Type 0 where
  moved : List ℕ → Answer
  ended : Answer
  again : Answer
  failed : Answer

-- the answer to a read into a buffer, as it is afterwards
abbrev pub read_answer : Got → List ℕ → Answer
read_answer (got.Bytes n) buffer = moved (take n buffer)
read_answer got.End buffer = ended
read_answer got.Again buffer = again
read_answer got.Failed buffer = failed

-- what came is something, and lies in the buffer
abbrev pub FitsBuffer : Got → List ℕ → Type 0
FitsBuffer (got.Bytes n) buffer = (0 < n) × (n ≤ length buffer)
FitsBuffer got.End buffer = Unit {0}
FitsBuffer got.Again buffer = Unit {0}
FitsBuffer got.Failed buffer = Unit {0}

-- the answer to a write of a piece; a writer that takes no byte of it has failed
abbrev pub write_answer : Put → List ℕ → Answer
write_answer (put.Bytes zero) piece = failed
write_answer (put.Bytes (suc n)) piece = moved (take (suc n) piece)
write_answer put.Again piece = again
write_answer put.Failed piece = failed

-- what went is no more than the piece
abbrev pub FitsPiece : Put → List ℕ → Type 0
FitsPiece (put.Bytes n) piece = n ≤ length piece
FitsPiece put.Again piece = Unit {0}
FitsPiece put.Failed piece = Unit {0}

-- the device made these answers, one after another
abbrev pub Run : {S : Type 0} → (S → Answer → S → Type 0) → S → List Answer → S → Type 0
Run gives s [] t = s ≡ t
Run {S} gives s (a ∷ answers) t = (mid : S) × gives s a mid × Run gives mid answers t

-- the bytes that moved
abbrev pub moved_bytes : List Answer → List ℕ
moved_bytes [] = []
moved_bytes (moved bytes ∷ answers) = bytes ++ moved_bytes answers
moved_bytes (ended ∷ answers) = moved_bytes answers
moved_bytes (again ∷ answers) = moved_bytes answers
moved_bytes (failed ∷ answers) = moved_bytes answers

-- an answer after which a run goes on
abbrev pub GoesOn : Answer → Type 0
GoesOn (moved bytes) = Unit {0}
GoesOn ended = ⊥
GoesOn again = Unit {0}
GoesOn failed = ⊥

-- calls all of which went on
abbrev pub AllGoOn : List Answer → Type 0
AllGoOn answers = AllByRecursion GoesOn answers

-- calls that went on, and then this answer
abbrev pub EndsWith : List Answer → Answer → Type 0
EndsWith answers last = (front : List Answer) × (answers ≡ front ++ last ∷ []) × AllGoOn front

-- the device failed, or all of its calls were made, after this many before
abbrev pub GaveOut : ℕ → List Answer → Type 0
GaveOut calls answers = EndsWith answers failed ⊎ ((calls + length answers ≡ most_calls) × AllGoOn answers)

-- all of the bytes went
pub record WentOut {S : Type 0} (takes : S → Answer → S → Type 0) (s : S) (bytes : List ℕ) (t : S) (answers : List Answer) : Type 0 where
  pub run : Run takes s answers t
  pub bytes_are : moved_bytes answers ≡ bytes
  pub goes : AllGoOn answers

-- the writer gave out when a prefix of the bytes had gone, and not all
pub record BrokeOff {S : Type 0} (takes : S → Answer → S → Type 0) (s : S) (bytes : List ℕ) (calls : ℕ) (t : S) (answers : List Answer) : Type 0 where
  pub run : Run takes s answers t
  pub left : (rest : List ℕ) × (moved_bytes answers ++ rest ≡ bytes) × (rest ≢ [])
  pub ends : GaveOut calls answers
  pub few : calls + length answers ≤ most_calls

-- A writing that begins after some calls: all of the bytes went, and so many calls are made now; or the writer gave out.
abbrev pub Sends : {S : Type 0} → (S → Answer → S → Type 0) → S → List ℕ → ℕ → Result ℕ WriteFault → S → Type 0
Sends takes s bytes calls r t = MatchResult r
    (λ made. (answers : List Answer) × WentOut takes s bytes t answers × (made ≡ calls + length answers) × (made ≤ most_calls))
    (λ _. (answers : List Answer) × BrokeOff takes s bytes calls t answers)

-- A writing from the first call on.
abbrev pub Writes : {S : Type 0} → (S → Answer → S → Type 0) → S → List ℕ → Result (Unit {0}) WriteFault → S → Type 0
Writes takes s bytes r t = MatchResult r
    (λ _. (answers : List Answer) × WentOut takes s bytes t answers × (length answers ≤ most_calls))
    (λ _. (answers : List Answer) × BrokeOff takes s bytes 0 t answers)

-- One call of a standard reader, of which may be known what bytes remain (`None`: nothing is known of them). Bytes that come are a
-- prefix of what remained; the end comes only where nothing remains; a call that was interrupted or failed takes nothing.
abbrev pub ReadCall : Option (List ℕ) → Answer → Option (List ℕ) → Type 0
ReadCall old (moved bytes) new = Consumes old new bytes
ReadCall old ended new = Consumes old new [] × IsAtEnd new
ReadCall old again new = Keeps old new
ReadCall old failed new = Keeps old new

-- One call of a standard writer, of which may be known what it holds. Bytes that go are appended; a call that was interrupted or
-- failed leaves it as it was.
abbrev pub WriteCall : Option (List ℕ) → Answer → Option (List ℕ) → Type 0
WriteCall old (moved bytes) new = Appends old new bytes
WriteCall old ended new = Appends old new []
WriteCall old again new = Keeps old new
WriteCall old failed new = Keeps old new
