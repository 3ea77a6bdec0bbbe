-- One quantum of a bit clock, over what it keeps: what its private methods do.
use Rattle.std.specs.Prelude.{◌≡◌, ℕ, suc, ◌+◌, ◌-◌, ◌≤◌, ◌==◌, ◌&&◌, ◌||◌, not, Bool, true, false, Option, Some, None, if◌then◌else◌}
use Rattle.wl_level.specs.declared.Level.{Level}
use Rattle.wl_level.specs.Levels.{is_dominant}
use Rattle.wl_segments.specs.declared.SyncRules.{SyncRules}
use Rattle.wl_segments.specs.declared.SyncRules.TheVariants.{After, Book}
use Rattle.wl_segments.specs.Lengths.{AreLengths, sample_at, bit_quanta, found_at}
use Rattle.wl_sync.specs.declared.Sync.{Sync}
use Rattle.wl_sync.specs.declared.Sync.TheVariants.{Hard, Error}
use Rattle.wl_sync.specs.declared.Beat.{Beat}
use Rattle.wl_sync.specs.declared.Beat.TheVariants.{Plain, Sample, Start}
use Rattle.wl_sync.specs.Edges.{Seen, again_by, is_hard_edge, counts_at, edge_restarts, phase_error, longer_by, shorter_by}
use Rattle.wl_sync.specs.Running.{Running}

-- what holds of every bit clock
pub record IsBitClock (r : Running) : Type 0 where
  pub lengths : AreLengths r.lengths
  pub longer : r.longer ≤ r.lengths.sjw
  pub shorter : r.shorter ≤ r.lengths.ps2
  pub longer_synced : r.synced ≡ false → r.longer ≡ 0
  pub shorter_synced : r.synced ≡ false → r.shorter ≡ 0
  pub quanta : r.quanta + r.shorter ≤ bit_quanta r.lengths + r.longer

-- the quanta of the bit as it was moved
abbrev pub end_of : Running → ℕ
end_of r = sample_at r.lengths + r.longer + r.lengths.ps2 - r.shorter

-- a new bit, where the running one is over
abbrev pub running_due : Running → Running
running_due r =
    if r.quanta == end_of r
    then record { lengths = r.lengths; quanta = 0; longer = 0; shorter = 0; synced = false; level = r.level; sample = r.sample }
    else r

-- what is kept of the bit in which the edge lies that the next quantum finds
abbrev pub running_edge_by : SyncRules → Running → Running
running_edge_by After r = running_due r
running_edge_by Book r = r

abbrev pub running_edge : Running → Running
running_edge r = running_edge_by r.lengths.sync r

-- an edge that the quantum x finds counts, if the node synchronises hard or not
abbrev pub running_counts : Running → Seen → (hard : Bool) → Bool
running_counts r x hard =
    counts_at r.lengths x.level hard x.driving r.level r.sample r.quanta && (not r.synced || again_by r.lengths.sync hard x.integrates)

abbrev pub running_sync : Running → Seen → Bool
running_sync r x = running_counts r x (is_hard_edge r.lengths.sync x)

-- and begins a bit anew
abbrev pub running_restart : Running → Seen → Bool
running_restart r x = running_sync r x && edge_restarts r.lengths x r.quanta

-- the running quantum is the sample of a bit that is longer by so many quanta before it
abbrev pub samples : Running → (longer : ℕ) → Bool
samples r longer = r.quanta == sample_at r.lengths + longer

abbrev pub is_sampled : Running → Bool
is_sampled r = samples r r.longer

-- by how many it is longer, where an edge that this quantum finds counts or not
abbrev pub longer_with : Running → (counts : Bool) → ℕ
longer_with r counts = if counts then longer_by r.lengths (Some r.quanta) else r.longer

-- the bit that such an edge moves
abbrev pub passed_edge : Running → (counts : Bool) → Running
passed_edge r counts = record r {
  longer = longer_with r counts;
  shorter = if counts then shorter_by r.lengths (Some r.quanta) else r.shorter;
  synced = counts || r.synced;
}

-- the bit in which an edge lies, after a quantum of this level: it begins anew, or goes on, and an edge that counts moves its sample or its end
abbrev pub running_moved : Running → (counts restarts : Bool) → Level → Running
running_moved r counts restarts level =
    if restarts
    then record { lengths = r.lengths; quanta = suc (found_at r.lengths); longer = 0; shorter = 0; synced = true; level = level; sample = r.sample }
    else record {
      lengths = r.lengths;
      quanta = r.quanta + 1;
      longer = longer_with r counts;
      shorter = if counts then shorter_by r.lengths (Some r.quanta) else r.shorter;
      synced = counts || r.synced;
      level = level;
      sample = if samples r (longer_with r counts) then level else r.sample;
    }

-- after a quantum that no edge comes with and that doesn't end the bit
abbrev pub running_on : Running → Level → Running
running_on r level = record {
  lengths = r.lengths;
  quanta = r.quanta + 1;
  longer = r.longer;
  shorter = r.shorter;
  synced = r.synced;
  level = level;
  sample = if is_sampled r then level else r.sample;
}

-- after the first quantum of a bit that no edge begins
abbrev pub running_first : Running → Level → Running
running_first r level = record { lengths = r.lengths; quanta = 1; longer = 0; shorter = 0; synced = false; level = level; sample = r.sample }

-- and with the border between two bits, if the one in which an edge lies is over then
abbrev pub running_over : SyncRules → Running → (moved : Running) → (restarts : Bool) → Level → Running
running_over After r moved restarts level = moved
running_over Book r moved restarts level = if not restarts && r.quanta == end_of moved then running_first r level else moved

abbrev pub is_by_the_book : SyncRules → Bool
is_by_the_book After = false
is_by_the_book Book = true

abbrev pub running_passed : Running → (counts restarts : Bool) → Level → Running
running_passed r counts restarts level = running_over r.lengths.sync r (running_moved r counts restarts level) restarts level

abbrev pub running_placed : Running → Seen → Running
running_placed r x = running_passed r (running_sync r x) (running_restart r x) x.level

-- after x
abbrev pub running_after : Running → Seen → Running
running_after r x = running_placed (running_edge r) x

-- what a quantum of this level is, by the bit in which an edge lies and the one after it
abbrev pub beat_between : (restarts : Bool) → Running → Running → Level → Beat
beat_between restarts old new level = if restarts || new.quanta == 1 then Start else if samples old new.longer then Sample level else Plain

-- what x is, from the bit in which an edge lies
abbrev pub running_beat : Running → Seen → Beat
running_beat r x = beat_between (running_restart r x) r (running_placed r x) x.level

-- and how it synchronises that bit
abbrev pub running_answer : Running → Seen → Option Sync
running_answer r x =
    if running_sync r x then Some (if is_hard_edge r.lengths.sync x then Hard else Error (phase_error r.lengths r.quanta)) else None

-- The running bit is over, and this quantum begins the next one with an edge that counts, right at its start. The edge lies in the quantum that finds it, and
-- the bus isn't idle.
pub record MeetsStart (r : Running) (level : Level) (idle : Bool) : Type 0 where
  pub rules : r.lengths.sync ≡ After
  pub busy : idle ≡ false
  pub over : r.quanta ≡ end_of r
  pub dominant : is_dominant level ≡ true
  pub last : is_dominant r.level ≡ false
  pub sample : is_dominant r.sample ≡ false

-- what is kept after it
abbrev pub running_started : Running → Level → Running
running_started r level = record { lengths = r.lengths; quanta = 1; longer = 0; shorter = 0; synced = true; level = level; sample = r.sample }
