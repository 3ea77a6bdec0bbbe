-- Reading all that a reader gives: its answers, the bytes that came, and how they ended (this project's profile).
use Rattle.std.specs.Prelude.{◌≡◌, ℕ, ◌≤◌, List, length}
use Rattle.wl_device.specs.Limits.{most_calls}
use Rattle.wl_device.specs.Devices.{Answer, ended, Run, moved_bytes, AllGoOn, EndsWith, GaveOut}

-- how the bytes ended: at the end, or the reader broke off, or they go on
pub data Ending : Type 0 where
  at_end : Ending
  broken_off : Ending
  going_on : Ending

-- how the answers of a reader end
abbrev pub EndsAs : Ending → List Answer → Type 0
EndsAs at_end answers = EndsWith answers ended
EndsAs broken_off answers = GaveOut 0 answers
EndsAs going_on answers = AllGoOn answers

-- A reading: the reader made these answers, and the bytes are what it gave.
pub record ReadsBy {S : Type 0} (gives : S → Answer → S → Type 0) (s : S) (bytes : List ℕ) (e : Ending) (t : S) (answers : List Answer) : Type 0 where
  pub run : Run gives s answers t
  pub bytes_are : moved_bytes answers ≡ bytes
  pub ends : EndsAs e answers
  pub few : length answers ≤ most_calls

abbrev pub Reads : {S : Type 0} → (S → Answer → S → Type 0) → S → List ℕ → Ending → S → Type 0
Reads gives s bytes e t = (answers : List Answer) × ReadsBy gives s bytes e t answers
