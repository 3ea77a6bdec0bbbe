-- The phase of a node in quanta: how many come before its next sample. With the rules of the book.
use Rattle.std.specs.Prelude.{◌≡◌, ℕ, ℤ, true, pos, suc, ◌+◌, ◌-◌, ◌*◌, ◌-ℤ◌, ◌<◌, ◌≤◌, ◌==◌, max, min, List, [], ◌∷◌, ◌++◌, length, Option, Some, None, if◌then◌else◌}
use Rattle.wl_level.specs.declared.Level.{Level}
use Rattle.wl_segments.specs.declared.SyncRules.TheVariants.{Book}
use Rattle.wl_segments.specs.Lengths.{Lengths, AreLengths, sample_at, bit_quanta}
use Rattle.wl_sync.specs.declared.Sync.{Sync}
use Rattle.wl_sync.specs.declared.Sync.TheVariants.{Hard, Error}
use Rattle.wl_sync.specs.declared.Beat.TheVariants.{Sample}
use Rattle.wl_sync.specs.declared.Seen.{Seen}
use Rattle.wl_sync.specs.Bits.{beat_of, sync_of}
use Rattle.wl_sync.specs.Running.{clock_after}
use Rattle.wl_sync.specs.Skips.{quanta_before_sample}
use Rattle.wl_phase.specs.Clocks.{Steady, IsSteady, Finds, instant}

-- segments whose edges synchronise by the rules of the book
pub record ByTheBook (l : Lengths) : Type 0 where
  pub lengths : AreLengths l
  pub book : l.sync ≡ Book

-- the quanta that come before the next sample, after all that was seen, if no edge comes
abbrev pub sample_way : Lengths → List Seen → ℕ
sample_way l past = quanta_before_sample (clock_after l past)

-- a number moved to an aim, by the jump at most
abbrev pub moved_to : (aim jump n : ℕ) → ℕ
moved_to aim jump n = max (n - jump) (min (n + jump) aim)

-- The way after one quantum more. It is a quantum shorter, and the sample's quantum begins that of the next bit. A hard synchronisation makes the
-- quantum that finds the edge place 1, so that the edge lies in SYNC_SEG. Any other edge that counts moves the sample to where that would put it, by the
-- jump width at most (Bosch CAN 2.0 part B, section 10, hard synchronization and resynchronization).
abbrev pub way_after : Lengths → ℕ → Option Sync → ℕ
way_after l n None = if n == 0 then bit_quanta l - 1 else n - 1
way_after l n (Some Hard) = sample_at l - 2
way_after l n (Some (Error error)) = moved_to (sample_at l - 1) l.sjw n - 1

-- what one quantum does to the way, what its edge's phase error is, and when it is a sample
pub record WayLaws : Type 0 where
  pub way : (l : Lengths) (past : List Seen) (x : Seen) → ByTheBook l
      → sample_way l (past ++ x ∷ []) ≡ way_after l (sample_way l past) (sync_of l past x)
  pub error : (l : Lengths) (past : List Seen) (x : Seen) (error : ℤ) → ByTheBook l → sync_of l past x ≡ Some (Error error)
      → error ≡ pos (sample_at l - 1) -ℤ pos (sample_way l past)
  -- a late edge doesn't count at a node that drives dominant (ISO 11898-1, synchronisation)
  pub driving : (l : Lengths) (past : List Seen) (x : Seen) → ByTheBook l → x.driving ≡ true → sample_way l past + 1 < sample_at l
      → sync_of l past x ≡ None
  pub sample : (l : Lengths) (past : List Seen) (x : Seen) → ByTheBook l → sync_of l past x ≡ None → sample_way l past ≡ 0
      → beat_of l past x ≡ Sample x.level
  pub only : (l : Lengths) (past : List Seen) (x : Seen) (level : Level) → ByTheBook l → beat_of l past x ≡ Sample level
      → (sync_of l past x ≡ None) × (sample_way l past ≡ 0)

-- An edge lies in SYNC_SEG of the bit that this quantum samples if nothing more moves it: after the beginning of the bit, and no more than a quantum.
pub record LiesInSyncSeg (c : Steady) (l : Lengths) (edge sample : ℕ) : Type 0 where
  pub after : instant c sample < c.den * edge + sample_at l * c.num
  pub within : c.den * edge + sample_at l * c.num ≤ instant c sample + c.num

-- it is later than that, or earlier
abbrev pub LiesAfterSyncSeg : Steady → Lengths → (edge sample : ℕ) → Type 0
LiesAfterSyncSeg c l edge sample = instant c sample + c.num < c.den * edge + sample_at l * c.num

abbrev pub LiesBeforeSyncSeg : Steady → Lengths → (edge sample : ℕ) → Type 0
LiesBeforeSyncSeg c l edge sample = c.den * edge + sample_at l * c.num ≤ instant c sample

-- Where an edge at a tick lies after it has synchronised a node that finds it by a quantum and had a way of n before: within SYNC_SEG if the
-- jump width was enough; else the sample has moved by the jump width, and the edge lies still on the same side.
pub record IsMoved (c : Steady) (l : Lengths) (edge found n : ℕ) (way : ℕ) : Type 0 where
  pub near : n ≤ sample_at l - 1 + l.sjw → sample_at l - 1 ≤ n + l.sjw → LiesInSyncSeg c l edge (suc found + way)
  pub late : n + l.sjw < sample_at l - 1 → (suc found + way ≡ found + n + l.sjw) × LiesAfterSyncSeg c l edge (suc found + way)
  pub early : sample_at l - 1 + l.sjw < n → (suc found + way + l.sjw ≡ found + n) × LiesBeforeSyncSeg c l edge (suc found + way)

pub record PhaseLaws : Type 0 where
  -- a hard synchronisation
  pub hard : (c : Steady) (l : Lengths) (past : List Seen) (x : Seen) (edge : ℕ) → IsSteady c → ByTheBook l → 0 < length past
      → Finds c (length past) edge → sync_of l past x ≡ Some Hard
      → LiesInSyncSeg c l edge (suc (length past) + sample_way l (past ++ x ∷ []))
  -- any other edge that counts
  pub moved : (c : Steady) (l : Lengths) (past : List Seen) (x : Seen) (edge : ℕ) (error : ℤ) → IsSteady c → ByTheBook l → 0 < length past
      → Finds c (length past) edge → sync_of l past x ≡ Some (Error error)
      → IsMoved c l edge (length past) (sample_way l past) (sample_way l (past ++ x ∷ []))
