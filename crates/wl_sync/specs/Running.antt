-- What a bit clock keeps of the running bit.
use Rattle.std.specs.Prelude.{◌≡◌, ℕ, Bool, List, length, is_some}
use Rattle.wl_level.specs.declared.Level.{Level}
use Rattle.wl_segments.specs.Lengths.{Lengths}
use Rattle.wl_sync.specs.declared.Beat.{Beat}
use Rattle.wl_sync.specs.declared.Beat.TheVariants.{Plain, Sample, Start}
use Rattle.wl_sync.specs.Edges.{Seen, longer_by, shorter_by}
use Rattle.wl_sync.specs.Bits.{Bit, bit_of, sync_place, last_level, last_sample}

-- the segments; the quanta of the bit so far, by how many it is longer before its sample and shorter after it, and
-- whether it has synchronised; the last level and the last sample
pub record Running : Type 0 where
  pub lengths : Lengths
  pub quanta : ℕ
  pub longer : ℕ
  pub shorter : ℕ
  pub synced : Bool
  pub level : Level
  pub sample : Level

-- what the clock keeps of a bit
abbrev pub running : Lengths → Bit → Running
running l bit = record {
  lengths = l;
  quanta = length bit.seen;
  longer = longer_by l (sync_place l bit);
  shorter = shorter_by l (sync_place l bit);
  synced = is_some (sync_place l bit);
  level = last_level bit;
  sample = last_sample l bit;
}

-- the bit clock after all that was seen
abbrev pub clock_after : Lengths → List Seen → Running
clock_after l seen = running l (bit_of l seen)

-- this holds of all that led to what a clock keeps
abbrev pub Follows : Running → (Lengths → List Seen → Type 0) → Type 0
Follows r holds = (l : Lengths) (past : List Seen) → r ≡ clock_after l past → holds l past

-- the last sample after a quantum, from what the quantum was and the last sample before it
abbrev pub sample_after : Beat → Level → Level
sample_after (Sample level) last = level
sample_after Start last = last
sample_after Plain last = last
