-- How the way to the sample of a bit gets shorter, quantum by quantum.
use Rattle.std.specs.Prelude.{◌≡◌, ℕ, suc, ◌-◌, ◌<◌, ◌≤◌, nat_le, if◌then◌else◌, Bool, List, [], ◌∷◌, ◌++◌, Option, Some, None}
use Rattle.wl_level.specs.declared.Level.{Level}
use Rattle.wl_level.specs.declared.Level.TheVariants.{Recessive}
use Rattle.wl_segments.specs.Lengths.{Lengths, AreLengths, sample_at, bit_quanta, least_way}
use Rattle.wl_sync.specs.declared.Beat.TheVariants.{Plain, Sample, Start}
use Rattle.wl_sync.specs.Edges.{Seen, seen_as}
use Rattle.wl_sync.specs.Bits.{before_sample, bit_of, beat_of}
use Rattle.wl_sync.specs.Running.{Running, clock_after}
use Rattle.wl_sync.specs.Skips.{moved_place, quanta_before_sample}
use Rattle.wl_sync.specs.Steps.{end_of}

-- the way to the sample after all that was seen
abbrev pub quanta_to_sample : Lengths → List Seen → Option ℕ
quanta_to_sample l past = before_sample l (bit_of l past)

pub record SampleLaws : Type 0 where
  pub at_first : (l : Lengths) → AreLengths l → quanta_to_sample l [] ≡ None
  pub some : (l : Lengths) (past : List Seen) (n : ℕ) → quanta_to_sample l past ≡ Some n → 0 < n
  pub few : (l : Lengths) (past : List Seen) (n : ℕ) → quanta_to_sample l past ≡ Some n → n ≤ sample_at l
  -- from a start to a sample there are as many quanta as the place of the sample says, or one fewer
  pub least : (l : Lengths) → sample_at l ≤ suc (least_way l)
  -- after the start of a bit it is as long as in a bit that nothing moved, but for SYNC_SEG where an edge lies in that
  pub start : (l : Lengths) (past : List Seen) (x : Seen) → beat_of l past x ≡ Start
      → (m : ℕ) × ((quanta_to_sample l (past ++ x ∷ []) ≡ Some m) × (least_way l ≤ m))
  -- a sample comes at its end, and then there is none up to the next start
  pub sampled : (l : Lengths) (past : List Seen) (x : Seen) (level : Level) → beat_of l past x ≡ Sample level → quanta_to_sample l past ≡ Some 1
  pub sample : (l : Lengths) (past : List Seen) (x : Seen) (level : Level) → beat_of l past x ≡ Sample level → quanta_to_sample l (past ++ x ∷ []) ≡ None
  pub after : (l : Lengths) (past : List Seen) (x : Seen) → beat_of l past x ≡ Plain → quanta_to_sample l past ≡ None → quanta_to_sample l (past ++ x ∷ []) ≡ None
  -- any other quantum takes one off it at most
  pub near : (l : Lengths) (past : List Seen) (x : Seen) (n : ℕ) → beat_of l past x ≡ Plain → quanta_to_sample l past ≡ Some n
      → (m : ℕ) × ((quanta_to_sample l (past ++ x ∷ []) ≡ Some m) × (n ≤ suc m))

-- the way to the next sample after all that was seen, in whatever bit, on a line that is recessive from then on
abbrev pub recessive_way : Lengths → List Seen → ℕ
recessive_way l past = suc (quanta_before_sample (clock_after l past))

-- how many quanta more the running bit has behind its sample; none are counted before that
abbrev pub rest_of_bit : Running → ℕ
rest_of_bit r = if nat_le r.quanta (moved_place r) then 0 else end_of r - r.quanta

abbrev pub recessive_rest : Lengths → List Seen → ℕ
recessive_rest l past = rest_of_bit (clock_after l past)

-- On a recessive line no edge moves a sample, or the end of a bit.
pub record RecessiveLaws : Type 0 where
  -- a quantum takes one off that way at most
  pub near : (l : Lengths) (past : List Seen) (idle awaits integrates driving : Bool) → recessive_way l past ≤ suc (recessive_way l (past ++ seen_as Recessive idle awaits integrates driving ∷ []))
  -- a sample comes at its end, and the next one no sooner than a whole bit later
  pub last : (l : Lengths) (past : List Seen) (idle awaits integrates driving : Bool) (level : Level) → beat_of l past (seen_as Recessive idle awaits integrates driving) ≡ Sample level → recessive_way l past ≡ 1
  pub next : (l : Lengths) (past : List Seen) (idle awaits integrates driving : Bool) (level : Level) → beat_of l past (seen_as Recessive idle awaits integrates driving) ≡ Sample level
      → bit_quanta l ≤ recessive_way l (past ++ seen_as Recessive idle awaits integrates driving ∷ [])
  -- the bit goes on for the rest of PHASE_SEG2, and no quantum of it begins one
  pub behind : (l : Lengths) (past : List Seen) (idle awaits integrates driving : Bool) (level : Level) → beat_of l past (seen_as Recessive idle awaits integrates driving) ≡ Sample level
      → l.ps2 ≤ suc (recessive_rest l (past ++ seen_as Recessive idle awaits integrates driving ∷ []))
  pub plain : (l : Lengths) (past : List Seen) (idle awaits integrates driving : Bool) → 0 < recessive_rest l past → beat_of l past (seen_as Recessive idle awaits integrates driving) ≡ Plain
  pub rest : (l : Lengths) (past : List Seen) (idle awaits integrates driving : Bool) → 0 < recessive_rest l past
      → recessive_rest l past ≤ suc (recessive_rest l (past ++ seen_as Recessive idle awaits integrates driving ∷ []))
