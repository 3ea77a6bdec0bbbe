-- Quanta of one level that a clock passes over at once: none of them samples a bit, and no edge synchronises one.
use Rattle.std.specs.Prelude.{◌≡◌, ◌≢◌, ℕ, zero, suc, ◌+◌, ◌-◌, ◌<◌, ◌≤◌, ◌==◌, ◌&&◌, nat_le, not, Bool, false, List, ◌++◌, None, replicate, if◌then◌else◌}
use Rattle.wl_level.specs.declared.Level.{Level}
use Rattle.wl_level.specs.declared.Level.TheVariants.{Recessive}
use Rattle.wl_level.specs.Levels.{is_dominant}
use Rattle.wl_segments.specs.Lengths.{Lengths, sample_at}
use Rattle.wl_sync.specs.declared.Beat.TheVariants.{Plain, Sample}
use Rattle.wl_sync.specs.Edges.{Seen}
use Rattle.wl_sync.specs.Bits.{beat_of, sync_of}
use Rattle.wl_sync.specs.Running.{Running, clock_after, Follows}
use Rattle.wl_sync.specs.Steps.{end_of}

-- the place of the sample, as edges have moved it so far
abbrev pub moved_place : Running → ℕ
moved_place r = sample_at r.lengths + r.longer

-- the next quantum, at this level, finds an edge from recessive to dominant
abbrev pub finds_edge : Running → Level → Bool
finds_edge r level = is_dominant level && not (is_dominant r.level)

-- From the last quantum to the next sample, that one not counted, on a line that keeps its level: in the running bit, or, where that was sampled, up to its end
-- and in the bit that follows.
abbrev pub quanta_before_sample : Running → ℕ
quanta_before_sample r = if nat_le r.quanta (moved_place r) then moved_place r - r.quanta else end_of r - r.quanta + sample_at r.lengths

-- and to the next sample or start of a bit, that one not counted
abbrev pub quanta_before_beat : Running → ℕ
quanta_before_beat r = if r.quanta == 0 then 0 else if nat_le r.quanta (moved_place r) then moved_place r - r.quanta else end_of r - r.quanta

-- How many quanta of this level come before the next beat, or before the next sample where starts of bits don't matter; none where the first finds an edge.
abbrev pub free_quanta : (starts : Bool) → Running → Level → ℕ
free_quanta starts r level =
    if finds_edge r level then 0 else if starts then quanta_before_sample r else quanta_before_beat r

-- in so many quanta more, each as x, no edge synchronises
abbrev pub IsUnmoved : Lengths → List Seen → Seen → ℕ → Type 0
IsUnmoved l past x n = (m : ℕ) → m < n → sync_of l (past ++ replicate m x) x ≡ None

-- and none is a sample
abbrev pub IsUnsampled : Lengths → List Seen → Seen → ℕ → Type 0
IsUnsampled l past x n = (m : ℕ) (level : Level) → m < n → beat_of l (past ++ replicate m x) x ≢ Sample level

-- and none is a sample or begins a bit
abbrev pub IsPlain : Lengths → List Seen → Seen → ℕ → Type 0
IsPlain l past x n = (m : ℕ) → m < n → beat_of l (past ++ replicate m x) x ≡ Plain

-- right behind the recessive sample of a bit that nothing moved
abbrev pub steady_clock : Lengths → Running
steady_clock l = record { lengths = l; quanta = suc (sample_at l); longer = 0; shorter = 0; synced = false; level = Recessive; sample = Recessive }

-- so many quanta more, each as x, are a bit that leaves what the clock keeps as it is: the last of them samples it recessive, no other is a sample, and no edge synchronises
pub record IsRestingBit (l : Lengths) (past : List Seen) (x : Seen) (n : ℕ) : Type 0 where
  pub last : ℕ
  pub bit : n ≡ suc last
  pub clock : clock_after l (past ++ replicate n x) ≡ clock_after l past
  pub unmoved : IsUnmoved l past x n
  pub unsampled : IsUnsampled l past x last
  pub sampled : beat_of l (past ++ replicate last x) x ≡ Sample Recessive

-- in so many quanta more and one, each as x, no edge synchronises, and the last alone is a sample
pub record IsSampledAfter (l : Lengths) (past : List Seen) (x : Seen) (n : ℕ) : Type 0 where
  pub unmoved : IsUnmoved l past x (suc n)
  pub unsampled : IsUnsampled l past x n
  pub sampled : beat_of l (past ++ replicate n x) x ≡ Sample x.level

-- what is kept right after the sample of the running bit, and of the next one
abbrev pub sampled_on : Running → Level → Running
sampled_on r level = record { lengths = r.lengths; quanta = suc (moved_place r); longer = r.longer; shorter = r.shorter; synced = r.synced; level = level; sample = level }

abbrev pub sampled_new : Running → Level → Running
sampled_new r level = record { lengths = r.lengths; quanta = suc (sample_at r.lengths); longer = 0; shorter = 0; synced = false; level = level; sample = level }

-- on a line that keeps this level, the next sample comes with no edge before it or at it, and the bit of that sample isn't shorter
pub record IsSampleAhead (r : Running) (level : Level) : Type 0 where
  pub no_edge : finds_edge r level ≡ false
  pub within : moved_place r < end_of r
  pub whole : r.quanta ≤ moved_place r → r.shorter ≡ 0

-- what is kept right after the next sample, and so many bits after that one, on a line that keeps its level
abbrev pub sampled_clock : Running → Level → Running
sampled_clock r level = if nat_le r.quanta (moved_place r) then sampled_on r level else sampled_new r level

abbrev pub sampled_bits : Running → Level → ℕ → Running
sampled_bits r level zero = sampled_clock r level
sampled_bits r level (suc n) = sampled_new r level

-- in so many quanta more and one, all alike and of this level, no edge synchronises, the last alone is a sample, and then the clock keeps s
pub record SamplesAfter (r : Running) (level : Level) (n : ℕ) (s : Running) : Type 0 where
  pub clock : Follows r (λ l past. (x : Seen) → x.level ≡ level → s ≡ clock_after l (past ++ replicate (suc n) x))
  pub sampled : Follows r (λ l past. (x : Seen) → x.level ≡ level → IsSampledAfter l past x n)
