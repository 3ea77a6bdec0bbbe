-- What holds of slots, and of slots that hold what is true of one table of changes.
use Rattle.std.specs.Prelude.{◌≡◌, ℕ, suc, ◌+◌, ◌-◌, ◌<◌, ◌≤◌, true, List, ◌++◌, Contains}
use Rattle.wl_lattice.specs.declared.FlatWord.TheVariants as flat
use Rattle.wl_lattice.specs.Maps.{SameMembers}
use Rattle.wl_record_core.specs.declared.record.Record.{Record}
use Rattle.wl_record_core.specs.declared.record.Record.TheVariants.{Edge, Silence}
use Rattle.wl_record_core.specs.Limits.{most_edges}
use Rattle.wl_record_core.specs.Truth.{count_below, odd, IsIncreasing, AreTrueOf}
use Rattle.wl_replica.specs.Slots.{Contents, no_slots, slots_joined, slots_only, slots_of_records, HoldsTrue, IsBelow}
use Rattle.wl_replica.specs.Known.{is_tick, tick_in, run_length, horizon, place_horizon, wave_at}

-- Joining slots is a semilattice, and slots rest on the records alone.
pub record SlotsLaws : Type 0 where
  pub commutes : (a b : Contents) → slots_joined a b ≡ slots_joined b a
  pub associates : (a b c : Contents) → slots_joined (slots_joined a b) c ≡ slots_joined a (slots_joined b c)
  pub idempotent : (a : Contents) → slots_joined a a ≡ a
  pub neutral : (a : Contents) → slots_joined a no_slots ≡ a
  pub above_first : (a b : Contents) → IsBelow a (slots_joined a b)
  pub above_second : (a b : Contents) → IsBelow b (slots_joined a b)
  pub transitive : (a b c : Contents) → IsBelow a b → IsBelow b c → IsBelow a c
  pub of_two_lists : (qs rs : List Record) → slots_of_records (qs ++ rs) ≡ slots_joined (slots_of_records rs) (slots_of_records qs)
  pub of_a_record : (r : Record) (rs : List Record) → Contains rs r → IsBelow (slots_only r) (slots_of_records rs)
  pub of_a_part : (qs rs : List Record) → ((r : Record) → Contains qs r → Contains rs r) → IsBelow (slots_of_records qs) (slots_of_records rs)
  pub of_the_same : (qs rs : List Record) → SameMembers qs rs → slots_of_records qs ≡ slots_of_records rs

-- Of slots that hold what is true of one table: where more is known, no horizon is lower
abbrev pub HorizonsStay : Type 0
HorizonsStay = (nodes : ℕ) (table : ℕ → List ℕ) (a b : Contents) (i : ℕ) → IsIncreasing (table i)
    → HoldsTrue nodes table a → HoldsTrue nodes table b → IsBelow a b → horizon a i ≤ horizon b i

-- and each wave below its horizon is the table's level
abbrev pub WavesAgree : Type 0
WavesAgree = (nodes : ℕ) (table : ℕ → List ℕ) (w : Contents) (i t : ℕ) → IsIncreasing (table i)
    → HoldsTrue nodes table w → t < horizon w i → wave_at w i t ≡ odd (count_below (suc t) (table i))

-- Of slots that hold what is true of one table: joining keeps truth, no horizon falls, each wave below its horizon is the table's level.
pub record KnownLaws : Type 0 where
  pub true_joined : (nodes : ℕ) (table : ℕ → List ℕ) (a b : Contents) → HoldsTrue nodes table a → HoldsTrue nodes table b → HoldsTrue nodes table (slots_joined a b)
  pub true_records : (nodes : ℕ) (table : ℕ → List ℕ) (rs : List Record) → AreTrueOf nodes table rs → HoldsTrue nodes table (slots_of_records rs)
  pub horizon_keeps : HorizonsStay
  pub wave_agrees : WavesAgree
  -- whatever the slots hold, a wave is dominant after an odd number of the changes of its run
  pub wave_counted : (w : Contents) (i t count : ℕ) → count ≤ run_length w i → t < horizon w i → (0 < count → tick_in (w.edge i (count - 1)) ≤ t)
      → (count < run_length w i → t < tick_in (w.edge i count)) → wave_at w i t ≡ odd count
  -- the changes below a horizon stand in the slots
  pub changes_held : (nodes : ℕ) (table : ℕ → List ℕ) (w : Contents) (i u n : ℕ) → IsIncreasing (table i)
      → HoldsTrue nodes table w → u ≤ horizon w i → n < count_below u (table i) → is_tick (w.edge i n) ≡ true
  -- and edges without a gap, with the silence after them, bring the horizon up to that silence
  pub horizon_reached : (nodes : ℕ) (table : ℕ → List ℕ) (w : Contents) (i m u : ℕ) → IsIncreasing (table i) → HoldsTrue nodes table w
      → m ≤ most_edges → ((n : ℕ) → n < m → is_tick (w.edge i n) ≡ true) → u ≤ w.silence i m → u ≤ horizon w i
  pub edge_held : (nodes : ℕ) (table : ℕ → List ℕ) (w : Contents) (i s t : ℕ) → HoldsTrue nodes table w → IsBelow (slots_only (Edge i s t)) w → w.edge i s ≡ flat.Value t
  pub silence_held : (w : Contents) (i n u : ℕ) → IsBelow (slots_only (Silence i n u)) w → u ≤ w.silence i n
  pub tick_stays : (nodes : ℕ) (table : ℕ → List ℕ) (a b : Contents) (i n : ℕ) → IsBelow a b → HoldsTrue nodes table b → is_tick (a.edge i n) ≡ true → is_tick (b.edge i n) ≡ true
  -- below a place's horizon each node is known a delay earlier, and conversely
  pub place_known : (nodes : ℕ) (delay : ℕ → ℕ → ℕ) (w : Contents) (i j t : ℕ) → i < nodes → t < place_horizon nodes delay w j → t < horizon w i + delay i j
  pub place_above : (nodes : ℕ) (delay : ℕ → ℕ → ℕ) (w : Contents) (j t : ℕ) → 0 < nodes → ((i : ℕ) → i < nodes → t < horizon w i + delay i j) → t < place_horizon nodes delay w j
