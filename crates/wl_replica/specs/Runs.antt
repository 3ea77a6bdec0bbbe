-- What is kept of each node: its run, and the tick below which it is known. This project's profile.
use Rattle.std.specs.Prelude.{◌≡◌, ℕ, ◌<◌, ◌≤◌, max, true, false, List, length, slice_index_or}
use Rattle.wl_lattice.specs.declared.FlatWord.{FlatWord}
use Rattle.wl_lattice.specs.declared.FlatWord.TheVariants as flat
use Rattle.wl_lattice.specs.Words.{joined_flat}
use Rattle.wl_lattice.specs.SlotContents.{IsRaised}
use Rattle.wl_record_core.specs.declared.record.Record.{Record}
use Rattle.wl_record_core.specs.declared.record.Record.TheVariants.{Edge, Clash, Silence}
use Rattle.wl_record_core.specs.Limits.{most_edges, tick_end}
use Rattle.wl_replica.specs.declared.known_run.KnownRun.{KnownRun}
use Rattle.wl_replica.specs.Slots.{Contents}
use Rattle.wl_replica.specs.Known.{is_run, run_goes_on, after_edges}

-- Of edge words e and ends of silences s: a run that the next edge does not carry on, and how far it tells all.
pub record IsRunOf (e : ℕ → FlatWord) (s : ℕ → ℕ) (k : KnownRun) : Type 0 where
  pub few : k.run.length ≤ most_edges
  pub run : is_run e s k.run.length ≡ true
  pub stops : run_goes_on e s k.run.length ≡ false
  pub end : k.run.end ≡ after_edges e k.run.length
  pub horizon : k.horizon ≡ max k.run.end (s k.run.length)

-- the same, whatever silences there are
abbrev pub IsRunOfEdges : (ℕ → FlatWord) → KnownRun → Type 0
IsRunOfEdges e k = (s : ℕ → ℕ) × IsRunOf e s k

-- it was the run before a word was joined in at an edge, or the end of a silence after so many changes
abbrev pub WasRunBeforeEdge : (ℕ → FlatWord) → (ℕ → ℕ) → ℕ → KnownRun → Type 0
WasRunBeforeEdge e s seq k = (before : ℕ → FlatWord) × (word : FlatWord) × IsRunOf before s k × IsRaised joined_flat before seq word e

abbrev pub WasRunBeforeSilence : (ℕ → FlatWord) → (ℕ → ℕ) → ℕ → ℕ → KnownRun → Type 0
WasRunBeforeSilence e s count until k = (before : ℕ → ℕ) × IsRunOf e before k × IsRaised max before count until s

-- it was the run before a record of the node was taken
abbrev pub WasRunBefore : Record → (ℕ → FlatWord) → (ℕ → ℕ) → KnownRun → Type 0
WasRunBefore (Edge i n t) e s k = WasRunBeforeEdge e s n k
WasRunBefore (Clash i n) e s k = WasRunBeforeEdge e s n k
WasRunBefore (Silence i n u) e s k = WasRunBeforeSilence e s n u k

-- What slots hold is within the limits of ticks.
pub record AreInLimits (w : Contents) : Type 0 where
  pub edges : (i n t : ℕ) → w.edge i n ≡ flat.Value t → t < tick_end
  pub silences : (i n : ℕ) → w.silence i n ≤ tick_end

-- What is kept of so many nodes: for each its run.
pub record AreRuns (nodes : ℕ) (w : Contents) (runs : List KnownRun) : Type 0 where
  pub count : length runs ≡ nodes
  pub known : (i : ℕ) (d : KnownRun) → i < nodes → IsRunOf (w.edge i) (w.silence i) (slice_index_or runs i d)
  pub limits : AreInLimits w
