-- How the list of what a node saw is cut into bits: where each is sampled, where it ends, and what synchronises it.
-- Each is a function of the whole list of one bit; the cut goes on with the bit or begins the next one.
use Rattle.std.specs.Prelude.{ℕ, suc, ◌+◌, ◌-◌, ◌==◌, ◌&&◌, ◌||◌, nat_lt, nat_le, not, replicate, Bool, true, false, List, [], ◌∷◌, ◌++◌, length, fold, Option, Some, None, slice_index_or, if◌then◌else◌}
use Rattle.wl_level.specs.declared.Level.{Level}
use Rattle.wl_level.specs.declared.Level.TheVariants.{Recessive}
use Rattle.wl_level.specs.Places.{first_place, is_found_at}
use Rattle.wl_segments.specs.declared.SyncRules.{SyncRules}
use Rattle.wl_segments.specs.declared.SyncRules.TheVariants.{After, Book}
use Rattle.wl_segments.specs.Lengths.{Lengths, sample_at, bit_quanta, found_at}
use Rattle.wl_sync.specs.declared.Sync.{Sync}
use Rattle.wl_sync.specs.declared.Sync.TheVariants.{Hard, Error}
use Rattle.wl_sync.specs.declared.Beat.{Beat}
use Rattle.wl_sync.specs.declared.Beat.TheVariants.{Plain, Sample, Start}
pub use Rattle.wl_sync.specs.Edges.{Seen}
use Rattle.wl_sync.specs.Edges.{is_hard_edge, syncs_again, edge_counts, edge_restarts, phase_error, longer_by, shorter_by}

-- how a bit begins: by a synchronisation or not, and the last sample and the last level before it
pub record Opening : Type 0 where
  pub synced : Bool
  pub sample : Level
  pub level : Level

-- a bit so far: how it began, and all that was seen in it
pub record Bit : Type 0 where
  pub opening : Opening
  pub seen : List Seen

-- what a list shows where nothing was seen: a silent line
abbrev pub unseen : Seen
unseen = record { level = Recessive; idle = false; awaits = false; integrates = false; driving = false }

-- what was seen at place k of a bit
abbrev pub seen_at_place : Bit → ℕ → Seen
seen_at_place bit k = slice_index_or bit.seen k unseen

-- How many quanta come up to place k, that one too, where some but not all of the places up to k are over: from the last quantum's place to k.
abbrev pub quanta_up_to : ℕ → ℕ → Option ℕ
quanta_up_to quanta k = if nat_lt 0 quanta && nat_le quanta k then Some (suc k - quanta) else None

-- the level one quantum before place k
abbrev pub previous_level : Bit → ℕ → Level
previous_level bit k = if k == 0 then bit.opening.level else (seen_at_place bit (k - 1)).level

-- the last sample before place k, in a bit that nothing moved before k
abbrev pub sample_before : Lengths → Bit → ℕ → Level
sample_before l bit k = if nat_lt (sample_at l) k then (seen_at_place bit (sample_at l)).level else bit.opening.sample

-- the quantum at place k of a bit finds an edge that counts
abbrev pub is_edge : Lengths → Bit → ℕ → Bool
is_edge l bit k = edge_counts l (seen_at_place bit k) (previous_level bit k) (sample_before l bit k) k

-- The place at which a bit first synchronised, of the quantum that found the edge (Bosch CAN 2.0 part B, section 10, synchronization rule 1). A later edge of the
-- bit may only begin another one.
abbrev pub sync_place : Lengths → Bit → Option ℕ
sync_place l bit = if bit.opening.synced then Some 0 else first_place (is_edge l bit) (length bit.seen)

-- the place of the sample: after SYNC_SEG, PROP_SEG and PHASE_SEG1 as it was lengthened (Bosch CAN 2.0 part B, section 10)
abbrev pub sample_place : Lengths → Bit → ℕ
sample_place l bit = sample_at l + longer_by l (sync_place l bit)

-- from the last quantum to the bit's sample, where it lies in the bit before it: as many quanta as come up to the sample, that one too
abbrev pub before_sample : Lengths → Bit → Option ℕ
before_sample l bit = quanta_up_to (length bit.seen) (sample_place l bit)

-- the place at which the bit is over: after PHASE_SEG2 as it was shortened (Bosch CAN 2.0 part B, section 10)
abbrev pub end_place : Lengths → Bit → ℕ
end_place l bit = sample_place l bit + l.ps2 - shorter_by l (sync_place l bit)

-- the last level that was seen up to now
abbrev pub last_level : Bit → Level
last_level bit = previous_level bit (length bit.seen)

-- the last sample up to now
abbrev pub last_sample : Lengths → Bit → Level
last_sample l bit =
    if nat_lt (sample_place l bit) (length bit.seen) then (seen_at_place bit (sample_place l bit)).level else bit.opening.sample

-- the bit that follows, of which nothing was seen yet
abbrev pub opened : Lengths → Bit → Bool → Bit
opened l bit synced = record {
  opening = record { synced = synced; sample = last_sample l bit; level = last_level bit };
  seen = [];
}

-- the quanta of a bit that an edge begins, up to the one that finds the edge: that in which the edge lies, on a line that was recessive as it began
abbrev pub edge_quanta : Lengths → List Seen
edge_quanta l = replicate (found_at l) unseen

-- the bit that an edge begins, up to the quantum that finds the edge
abbrev pub begun_bit : Lengths → Bit → Bit
begun_bit l bit = record {
  opening = record { synced = true; sample = last_sample l bit; level = last_level bit };
  seen = edge_quanta l;
}

-- the bit to which the next quantum belongs, if it does not begin one anew
abbrev pub due_bit : Lengths → Bit → Bit
due_bit l bit = if length bit.seen == end_place l bit then opened l bit false else bit

-- the bit in which the edge lies that the next quantum finds: its own, or that of the quantum before
abbrev pub edge_bit_by : SyncRules → Lengths → Bit → Bit
edge_bit_by After l bit = due_bit l bit
edge_bit_by Book l bit = bit

abbrev pub edge_bit : Lengths → Bit → Bit
edge_bit l bit = edge_bit_by l.sync l bit

-- the bit with one quantum more
abbrev pub longer : Bit → Seen → Bit
longer bit x = record { opening = bit.opening; seen = bit.seen ++ x ∷ [] }

-- the edge that the quantum x finds lies in this bit, and is the first that synchronises it
abbrev pub is_first_sync : Lengths → Bit → Seen → Bool
is_first_sync l bit x = not bit.opening.synced && is_found_at (sync_place l (longer bit x)) (length bit.seen)

-- or synchronises it whether it has synchronised or not
abbrev pub is_sync_again : Lengths → Bit → Seen → Bool
is_sync_again l bit x = edge_counts l x (last_level bit) (last_sample l bit) (length bit.seen) && syncs_again l.sync x

abbrev pub is_sync : Lengths → Bit → Seen → Bool
is_sync l bit x = is_first_sync l bit x || is_sync_again l bit x

-- and by that begins a bit anew
abbrev pub is_restart : Lengths → Bit → Seen → Bool
is_restart l bit x = is_sync l bit x && edge_restarts l x (length bit.seen)

-- the bit to which the quantum x belongs, where it does not begin one anew: this one, which where an edge lies in the quantum before may be over now, by
-- that edge too
abbrev pub going_on : SyncRules → Lengths → Bit → Seen → Bit
going_on After l bit x = bit
going_on Book l bit x = if length bit.seen == end_place l (longer bit x) then opened l bit false else bit

-- the running bit, one quantum later, from that in which an edge lies
abbrev pub placed : Lengths → Bit → Seen → Bit
placed l bit x = longer (if is_restart l bit x then begun_bit l bit else going_on l.sync l bit x) x

-- and with the border between two bits, if the running one is over
abbrev pub bit_after : Lengths → Bit → Seen → Bit
bit_after l bit x = placed l (edge_bit l bit) x

-- the quanta of the bit before the first quantum of all
abbrev pub first_quanta : SyncRules → ℕ → List Seen
first_quanta After n = []
first_quanta Book n = replicate n unseen

-- Before the first quantum the line was recessive: that begins a bit or, where an edge lies in the quantum before, follows one in which nothing was seen
-- (this project's profile).
abbrev pub first_bit : Lengths → Bit
first_bit l = record { opening = record { synced = false; sample = Recessive; level = Recessive }; seen = first_quanta l.sync (bit_quanta l) }

-- the running bit after all that was seen
abbrev pub bit_of : Lengths → List Seen → Bit
bit_of l seen = fold (bit_after l) (first_bit l) seen

-- what the quantum x is, from the bit in which an edge lies that it finds: the sample, where that edge doesn't move it away
abbrev pub beat_at : Lengths → Bit → Seen → Beat
beat_at l bit x =
    if is_restart l bit x || length (placed l bit x).seen == 1 then Start
    else if length bit.seen == sample_place l (placed l bit x) then Sample x.level
    else Plain

-- how the quantum x synchronises that bit
abbrev pub sync_at : Lengths → Bit → Seen → Option Sync
sync_at l bit x =
    if is_sync l bit x then Some (if is_hard_edge l.sync x then Hard else Error (phase_error l (length bit.seen))) else None

-- the beat at x, after all that was seen before
abbrev pub beat_of : Lengths → List Seen → Seen → Beat
beat_of l seen x = beat_at l (edge_bit l (bit_of l seen)) x

-- the synchronisation at x, after all that was seen before
abbrev pub sync_of : Lengths → List Seen → Seen → Option Sync
sync_of l seen x = sync_at l (edge_bit l (bit_of l seen)) x
