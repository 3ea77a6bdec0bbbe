-- Reading the whole of a small text (this project's profile).
use Rattle.std.specs.Prelude.{◌≡◌, ℕ, ◌<◌, ◌≤◌, List, [], ◌∷◌, ◌++◌, length}
use Rattle.wl_device.specs.declared.bounded.Ended.{Ended}
use Rattle.wl_device.specs.declared.bounded.Ended.TheVariants as ended
use Rattle.wl_device.specs.Devices.{Answer, moved_bytes}
use Rattle.wl_device.specs.Readings.{Ending, at_end, broken_off, going_on, ReadsBy}

-- how the answers end: too much comes while the reader goes on
abbrev pub ending_of : Ended → Ending
ending_of ended.End = at_end
ending_of ended.Broken = broken_off
ending_of ended.Full = going_on

-- at most so many bytes came; where it was too much, the last of the answers, and no one before it, made it so
abbrev pub KeepsTo : ℕ → Ended → List Answer → Type 0
KeepsTo most ended.End answers = length (moved_bytes answers) ≤ most
KeepsTo most ended.Broken answers = length (moved_bytes answers) ≤ most
KeepsTo most ended.Full answers =
    (before : List Answer) × (last : Answer) × (answers ≡ before ++ last ∷ [])
    × (length (moved_bytes before) ≤ most) × (most < length (moved_bytes answers))

-- the reader gave these bytes in one reading that ended so, no more than so many but for the last piece
abbrev pub ReadsUpTo : {S : Type 0} → (S → Answer → S → Type 0) → S → ℕ → List ℕ → Ended → S → Type 0
ReadsUpTo gives s most bytes e t = (answers : List Answer) × ReadsBy gives s bytes (ending_of e) t answers × KeepsTo most e answers
