-- How many members are of which class, which is the first of each, and the longest trouble (this project's profile).
use Rattle.std.specs.Prelude.{◌≡◌, ℕ, ◌+◌, ◌-◌, ◌<◌, ◌==◌, nat_le, max, Bool, List, fold, length, map, slice_index_or, Result, IfOk}
use Rattle.std.specs.declared.alloc.AllocError.{AllocError}
use Rattle.std.specs.List.{count_by, position_from, range_with_len}
use Rattle.wl_sweep.specs.Tallies.{part_start}
use Rattle.wl_spikes.specs.declared.aftermath.Aftermath.{Aftermath}
use Rattle.wl_spikes.specs.declared.aftermath.Class.{Class}
use Rattle.wl_spikes.specs.declared.aftermath.Class.TheVariants.{Clean, Healed, Late, Unhealed, Twice, Missed, Off, Refused}
use Rattle.wl_spikes.specs.declared.spike.Spikes.{Spikes}
use Rattle.wl_spikes.specs.declared.tally.ClassTally.{ClassTally}
use Rattle.wl_spikes.specs.declared.tally.SpikeTally.{SpikeTally}
use Rattle.wl_spikes.specs.Aftermaths.{aftermath_at, rank_of}
use Rattle.wl_spikes.specs.Members.{spike_count}

abbrev pub is_class : Class → Aftermath → Bool
is_class class a = rank_of a.class == rank_of class

abbrev pub class_tally : Class → List Aftermath → ClassTally
class_tally class found = record { count = count_by (is_class class) found; first = position_from (is_class class) 0 found }

-- a member is clean, or heals
abbrev pub is_sound : Aftermath → Bool
is_sound a = nat_le (rank_of a.class) 1

-- the greatest of a number of some members
abbrev pub most_of_members : (Aftermath → ℕ) → List Aftermath → ℕ
most_of_members number found = fold (λ most a. max most (number a)) 0 found

abbrev pub trouble_of_member : Aftermath → ℕ
trouble_of_member a = a.trouble

abbrev pub tec_of_member : Aftermath → ℕ
tec_of_member a = a.tec

abbrev pub rec_of_member : Aftermath → ℕ
rec_of_member a = a.rec

abbrev pub spike_tally : List Aftermath → SpikeTally
spike_tally found = record {
  runs = length found;
  sound = count_by is_sound found;
  clean = class_tally Clean found;
  healed = class_tally Healed found;
  late = class_tally Late found;
  unhealed = class_tally Unhealed found;
  twice = class_tally Twice found;
  missed = class_tally Missed found;
  off = class_tally Off found;
  refused = class_tally Refused found;
  longest = most_of_members trouble_of_member found;
  tec = most_of_members tec_of_member found;
  rec = most_of_members rec_of_member found;
}

-- what is found of so many members from one on, and of all
abbrev pub aftermaths_from : Spikes → ℕ → ℕ → List Aftermath
aftermaths_from s from count = map (aftermath_at s.spike s.text) (range_with_len from count)

abbrev pub all_aftermaths : Spikes → List Aftermath
all_aftermaths s = aftermaths_from s 0 (spike_count s.spike s.text)

-- the answer of part w is its tally, unless memory was refused
abbrev pub IsSpikeTally : Spikes → ℕ → ℕ → ℕ → ℕ → Result SpikeTally AllocError → Type 0
IsSpikeTally s from to size w answer =
    IfOk answer (λ tally. tally ≡ spike_tally (aftermaths_from s (part_start from to size w) (part_start from to size (w + 1) - part_start from to size w)))

-- so many parts have their answers, in order
pub record AreSpikeTallies (s : Spikes) (from to size count : ℕ) (answers : List (Result SpikeTally AllocError)) : Type 0 where
  pub all : length answers ≡ count
  pub each : (w : ℕ) (d : Result SpikeTally AllocError) → w < count → IsSpikeTally s from to size w (slice_index_or answers w d)
