-- Where the bit clock of one station samples its next bit.
use Rattle.std.specs.Prelude.{◌≡◌, ◌≢◌, ℕ, suc, ◌+◌, ◌-◌, ◌<◌, ◌≤◌, max, ℤ, true, false, List, [], ◌∷◌, ◌++◌, Some, None}
use Rattle.wl_level.specs.declared.Level.{Level}
use Rattle.wl_level.specs.declared.Level.TheVariants.{Dominant, Recessive}
use Rattle.wl_segments.specs.Lengths.{Lengths, sample_at, bit_quanta}
use Rattle.wl_sync.specs.declared.Sync.TheVariants.{Error}
use Rattle.wl_sync.specs.declared.Beat.TheVariants.{Plain, Sample, Start}
use Rattle.wl_sync.specs.declared.Seen.{Seen}
use Rattle.wl_sync.specs.Bits.{beat_of, sync_of}
use Rattle.wl_sync.specs.Running.{clock_after}
use Rattle.wl_sync.specs.Skips.{steady_clock}
use Rattle.wl_phase.specs.Ways.{ByTheBook, moved_to}
use Rattle.wl_phase.specs.Answer.{SamplesNext}
use Rattle.wl_phase.specs.InStep.{SyncsHard, seen_before}

-- no edge synchronises the clock after one quantum, up to another one
abbrev pub NoneSyncs : Lengths → (ℕ → Seen) → (from to : ℕ) → Type 0
NoneSyncs l seen from to = (i : ℕ) → from < i → i ≤ to → sync_of l (seen_before seen i) (seen i) ≡ None

-- it samples a bit by this quantum
abbrev pub SamplesBy : Lengths → (ℕ → Seen) → ℕ → Level → Type 0
SamplesBy l seen k level = beat_of l (seen_before seen k) (seen k) ≡ Sample level

-- Where the next sample comes, for a bit whose place 0 is at a quantum `place`: a bit later if no edge moves it; by the place 0 that a hard synchronisation gives, one quantum before
-- the one that finds the edge; or by the one to which another edge moves it, by the jump width at most (Bosch CAN 2.0 part B, section 10).
pub record BitPlaceLaws : Type 0 where
  pub alone : (l : Lengths) (seen : ℕ → Seen) (place : ℕ) (level : Level) → ByTheBook l → SamplesBy l seen (place + sample_at l) level
      → NoneSyncs l seen (place + sample_at l) (place + bit_quanta l + sample_at l)
      → SamplesNext l seen (place + sample_at l) (place + bit_quanta l + sample_at l) (seen (place + bit_quanta l + sample_at l)).level
  pub hard : (l : Lengths) (seen : ℕ → Seen) (place : ℕ) → ByTheBook l → SyncsHard l seen (suc place) → NoneSyncs l seen (suc place) (place + sample_at l)
      → SamplesNext l seen (suc place) (place + sample_at l) (seen (place + sample_at l)).level
  pub soft : (l : Lengths) (seen : ℕ → Seen) (place found new : ℕ) (level : Level) (error : ℤ) → ByTheBook l → SamplesBy l seen (place + sample_at l) level
      → place + sample_at l < found → found ≤ place + bit_quanta l + sample_at l → NoneSyncs l seen (place + sample_at l) (found - 1)
      → sync_of l (seen_before seen found) (seen found) ≡ Some (Error error) → new ≡ moved_to (found - 1) l.sjw (place + bit_quanta l)
      → NoneSyncs l seen found (new + sample_at l) → SamplesNext l seen (place + sample_at l) (new + sample_at l) (seen (new + sample_at l)).level

-- When no edge counts: the line is recessive, it was dominant a quantum before, or a bit has been sampled dominant and the next one isn't sampled yet (Bosch CAN 2.0 part B, section 10,
-- synchronization rules 2 and 4).
pub record NoEdgeLaws : Type 0 where
  pub recessive : (l : Lengths) (past : List Seen) (x : Seen) → ByTheBook l → x.level ≡ Recessive → sync_of l past x ≡ None
  pub held : (l : Lengths) (past : List Seen) (y x : Seen) → ByTheBook l → y.level ≡ Dominant → sync_of l (past ++ y ∷ []) x ≡ None
  pub sampled : (l : Lengths) (seen : ℕ → Seen) (k : ℕ) → ByTheBook l → SamplesBy l seen k Dominant → NoneSyncs l seen k (k + bit_quanta l)

-- it begins a bit by this quantum
abbrev pub StartsBy : Lengths → (ℕ → Seen) → ℕ → Type 0
StartsBy l seen k = beat_of l (seen_before seen k) (seen k) ≡ Start

-- Between quanta k and m it begins a bit once, by quantum `from`, and samples none.
pub record StartsOnce (l : Lengths) (seen : ℕ → Seen) (k m from : ℕ) : Type 0 where
  pub after : k < from
  pub inside : from < m
  pub starts : StartsBy l seen from
  pub others : (i : ℕ) → k < i → i < m → i ≢ from → beat_of l (seen_before seen i) (seen i) ≡ Plain

-- Where the bit begins that is sampled next: with its place 0, if no edge moves it or the edge comes after that; with the quantum that finds the edge of a hard synchronisation; and
-- if an early edge moves it, with its place 0 or with the quantum that finds the edge, whichever is later (Bosch CAN 2.0 part B, section 10; that no bit begins before its edge is found,
-- is this project's profile).
pub record BitStartLaws : Type 0 where
  pub alone : (l : Lengths) (seen : ℕ → Seen) (place : ℕ) (level : Level) → ByTheBook l → SamplesBy l seen (place + sample_at l) level
      → NoneSyncs l seen (place + sample_at l) (place + bit_quanta l + sample_at l)
      → StartsOnce l seen (place + sample_at l) (place + bit_quanta l + sample_at l) (place + bit_quanta l)
  pub hard : (l : Lengths) (seen : ℕ → Seen) (place : ℕ) → ByTheBook l → SyncsHard l seen (suc place) → NoneSyncs l seen (suc place) (place + sample_at l)
      → StartsOnce l seen place (place + sample_at l) (suc place)
  pub early : (l : Lengths) (seen : ℕ → Seen) (place found new : ℕ) (level : Level) (error : ℤ) → ByTheBook l → SamplesBy l seen (place + sample_at l) level
      → place + sample_at l < found → found ≤ place + bit_quanta l → NoneSyncs l seen (place + sample_at l) (found - 1)
      → sync_of l (seen_before seen found) (seen found) ≡ Some (Error error) → new ≡ moved_to (found - 1) l.sjw (place + bit_quanta l)
      → NoneSyncs l seen found (new + sample_at l) → StartsOnce l seen (place + sample_at l) (new + sample_at l) (max found new)
  pub late : (l : Lengths) (seen : ℕ → Seen) (place found new : ℕ) (level : Level) (error : ℤ) → ByTheBook l → SamplesBy l seen (place + sample_at l) level
      → place + bit_quanta l < found → found ≤ place + bit_quanta l + sample_at l → NoneSyncs l seen (place + sample_at l) (found - 1)
      → sync_of l (seen_before seen found) (seen found) ≡ Some (Error error) → new ≡ moved_to (found - 1) l.sjw (place + bit_quanta l)
      → NoneSyncs l seen found (new + sample_at l) → StartsOnce l seen (place + sample_at l) (new + sample_at l) (place + bit_quanta l)

-- The next sample after quantum k is that of a bit with its place 0 at a quantum `place`, of this level, and the bit begins by quantum `from`.
pub record BitIs (l : Lengths) (seen : ℕ → Seen) (k place from : ℕ) (level : Level) : Type 0 where
  pub samples : SamplesNext l seen k (place + sample_at l) level
  pub starts : StartsOnce l seen k (place + sample_at l) from

-- A station has sampled a recessive bit, which no edge has moved and whose place 0 was at `place`. It finds a recessive line up to quantum `found`, and from there a dominant one up to
-- quantum `end`. By quantum `found` it drives recessive, and awaits no start of frame.
pub record FindsEdge (l : Lengths) (seen : ℕ → Seen) (place found end : ℕ) : Type 0 where
  pub sampled : SamplesBy l seen (place + sample_at l) Recessive
  pub clock : clock_after l (seen_before seen (suc (place + sample_at l))) ≡ steady_clock l
  pub after : place + sample_at l < found
  pub silent : (i : ℕ) → place + sample_at l < i → i < found → (seen i).level ≡ Recessive
  pub there : (i : ℕ) → found ≤ i → i ≤ end → (seen i).level ≡ Dominant
  pub awaits : (seen found).awaits ≡ false
  pub driving : (seen found).driving ≡ false

-- When an edge counts at a station, and what bit it makes (Bosch CAN 2.0 part B, section 10; ISO 11898-1, synchronisation): by what it finds and drives after its sample of the bit before.
pub record EdgeLaws : Type 0 where
  -- it finds no edge
  pub silent : (l : Lengths) (seen : ℕ → Seen) (place : ℕ) (level : Level) → ByTheBook l → SamplesBy l seen (place + sample_at l) level
      → ((i : ℕ) → place + sample_at l < i → i ≤ place + bit_quanta l + sample_at l → (seen i).level ≡ Recessive)
      → BitIs l seen (place + sample_at l) (place + bit_quanta l) (place + bit_quanta l) Recessive
  -- it has sampled a dominant bit: whatever it finds
  pub dominant : (l : Lengths) (seen : ℕ → Seen) (place : ℕ) → ByTheBook l → SamplesBy l seen (place + sample_at l) Dominant
      → BitIs l seen (place + sample_at l) (place + bit_quanta l) (place + bit_quanta l) (seen (place + bit_quanta l + sample_at l)).level
  -- it begins a dominant bit by itself, up to which it has found no edge: whatever it finds later, be it its own edge or another one's
  pub own : (l : Lengths) (seen : ℕ → Seen) (place : ℕ) (level : Level) → ByTheBook l → SamplesBy l seen (place + sample_at l) level
      → ((i : ℕ) → place + sample_at l < i → i ≤ place + bit_quanta l → (seen i).level ≡ Recessive)
      → ((i : ℕ) → place + bit_quanta l < i → i ≤ place + bit_quanta l + sample_at l → (seen i).driving ≡ true)
      → BitIs l seen (place + sample_at l) (place + bit_quanta l) (place + bit_quanta l) (seen (place + bit_quanta l + sample_at l)).level
  -- it finds an edge by the quantum with which its bit is due, or later while it drives recessive
  pub early : (l : Lengths) (seen : ℕ → Seen) (place found new : ℕ) → ByTheBook l → found ≤ place + bit_quanta l → new ≡ moved_to (found - 1) l.sjw (place + bit_quanta l)
      → FindsEdge l seen place found (new + sample_at l) → BitIs l seen (place + sample_at l) new (max found new) Dominant
  pub late : (l : Lengths) (seen : ℕ → Seen) (place found new : ℕ) → ByTheBook l → place + bit_quanta l < found → found ≤ place + bit_quanta l + sample_at l
      → new ≡ moved_to (found - 1) l.sjw (place + bit_quanta l) → FindsEdge l seen place found (new + sample_at l) → BitIs l seen (place + sample_at l) new (place + bit_quanta l) Dominant
  -- a recessive bit that no edge has moved leaves a bit clock as each such bit does
  pub steady : (l : Lengths) (seen : ℕ → Seen) (place : ℕ) (level : Level) → ByTheBook l → SamplesBy l seen (place + sample_at l) level
      → NoneSyncs l seen (place + sample_at l) (place + bit_quanta l + sample_at l) → (seen (place + bit_quanta l + sample_at l)).level ≡ Recessive
      → clock_after l (seen_before seen (suc (place + bit_quanta l + sample_at l))) ≡ steady_clock l
