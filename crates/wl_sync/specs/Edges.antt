-- Which edge synchronises a bit, and what it does to it.
use Rattle.std.specs.Prelude.{ℕ, ℤ, ◌-ℤ◌, ◌+◌, ◌==◌, ◌&&◌, ◌||◌, pos, nat_lt, nat_le, min, not, Bool, false, Option, Some, None, if◌then◌else◌, ◌-◌}
use Rattle.wl_level.specs.declared.Level.{Level}
use Rattle.wl_level.specs.Levels.{is_dominant}
use Rattle.wl_segments.specs.declared.SyncRules.{SyncRules}
use Rattle.wl_segments.specs.declared.SyncRules.TheVariants.{After, Book}
use Rattle.wl_segments.specs.Lengths.{Lengths, sample_at, bit_quanta, found_at}
pub use Rattle.wl_sync.specs.declared.Seen.{Seen}

abbrev pub seen_as : Level → (idle awaits integrates driving : Bool) → Seen
seen_as level idle awaits integrates driving = record { level = level; idle = idle; awaits = awaits; integrates = integrates; driving = driving }

-- by a node that awaits a start of frame only on an idle bus, and doesn't integrate
abbrev pub promised_seen : Level → (idle driving : Bool) → Seen
promised_seen level idle driving = seen_as level idle idle false driving

-- The node synchronises hard. By the book it does wherever the next edge may be a start of frame, up to its own: all stations synchronise to that of the
-- one that began first (Bosch CAN 2.0 part B, sections 3.2.1 and 10, synchronization rule 3; ISO 11898-1, hard synchronisation also while integrating and in
-- the interframe space but for its first bit). Else on an idle bus alone (this project's profile).
abbrev pub is_hard_edge : SyncRules → Seen → Bool
is_hard_edge After x = x.idle
is_hard_edge Book x = x.awaits && not x.driving

-- An edge synchronises also a bit that has synchronised. By the book it does, and hard, at a node that integrates: the edges of others begin its bits until it is in
-- step with them (ISO 11898-1, hard synchronisation while integrating). Else a bit synchronises once (Bosch CAN 2.0 part B, section 10, synchronization rule 1).
abbrev pub again_by : SyncRules → (hard integrates : Bool) → Bool
again_by After hard integrates = false
again_by Book hard integrates = hard && integrates

abbrev pub syncs_again : SyncRules → Seen → Bool
syncs_again s x = again_by s (is_hard_edge s x) x.integrates

-- Whether the quantum at place k looks for an edge, where the sample is at this place. Where an edge lies in the quantum that finds it, each does
-- but the sample's (this project's profile). Where it lies in the quantum before, that quantum is of the same bit, so place 0 doesn't: the bit
-- before asks for its edge.
abbrev pub looks : SyncRules → ℕ → ℕ → Bool
looks After place k = not (k == place)
looks Book place k = nat_lt 0 k

-- The quantum at place k of a bit finds an edge that counts: the line goes from recessive to dominant, and the last sample is recessive
-- (Bosch CAN 2.0 part B, section 10, synchronization rules 2 and 4). It does not where the edge lies between the bit's start and its sample point and the
-- node, that doesn't synchronise hard, drives dominant itself (ISO 11898-1; this project's profile for the node that is no transmitter).
abbrev pub counts_at : Lengths → Level → (hard driving : Bool) → Level → Level → ℕ → Bool
counts_at l level hard driving before sample k =
    is_dominant level && not (is_dominant before) && not (is_dominant sample) && looks l.sync (sample_at l) k
    && not (nat_lt (found_at l) k && nat_le k (sample_at l) && driving && not hard)

abbrev pub edge_counts : Lengths → Seen → Level → Level → ℕ → Bool
edge_counts l x before sample k = counts_at l x.level (is_hard_edge l.sync x) x.driving before sample k

-- the phase error: how far the edge is after the bit's start, or, past the sample, before the next one
-- (Bosch CAN 2.0 part B, section 10)
abbrev pub phase_error : Lengths → ℕ → ℤ
phase_error l k = if nat_lt (sample_at l) k then pos k -ℤ pos (found_at l + bit_quanta l) else pos (k - found_at l)

-- the edge begins a bit anew: by a hard synchronisation it always does, and else where it comes early by the jump width
-- at most (Bosch CAN 2.0 part B, section 10)
abbrev pub restarts_at : Lengths → (hard : Bool) → ℕ → Bool
restarts_at l hard k = hard || (nat_lt (sample_at l) k && nat_le (found_at l + bit_quanta l - k) l.sjw)

abbrev pub edge_restarts : Lengths → Seen → ℕ → Bool
edge_restarts l x k = restarts_at l (is_hard_edge l.sync x) k

-- A late edge lengthens PHASE_SEG1 by the phase error, and by the jump width at most (Bosch CAN 2.0 part B, section 10). Where it lies in the quantum before the one
-- that finds it, that of the last quantum before the sample point is late too, and then its finder is no sample.
abbrev pub longer_by : Lengths → Option ℕ → ℕ
longer_by l None = 0
longer_by l (Some k) = if nat_le k (sample_at l) then min (k - found_at l) l.sjw else 0

-- an early edge that does not begin the bit anew shortens PHASE_SEG2 by the jump width (Bosch CAN 2.0 part B, section 10)
abbrev pub shorter_by : Lengths → Option ℕ → ℕ
shorter_by l None = 0
shorter_by l (Some k) = if nat_lt (sample_at l) k then l.sjw else 0
