-- What a list of records says, slot by slot, and when it is true of a table of changes.
-- This project's profile; for a reader who knows simulation: the messages and promises that one process has received.
use Rattle.std.specs.Prelude.{◌≡◌, ℕ, ◌<◌, ◌≤◌, max, ◌&&◌, List, [], ◌∷◌, ◌==◌, if◌then◌else◌}
use Rattle.wl_lattice.specs.declared.FlatWord.{FlatWord}
use Rattle.wl_lattice.specs.declared.FlatWord.TheVariants as flat
use Rattle.wl_lattice.specs.Words.{joined_flat}
use Rattle.wl_record_core.specs.declared.record.Record.{Record}
use Rattle.wl_record_core.specs.declared.record.Record.TheVariants.{Edge, Clash, Silence}
use Rattle.wl_record_core.specs.Truth.{IsTrueOf}

-- For each node the words of its edges, by number, and the ends of its silences, by count; 0 where there is none.
pub record Contents : Type 0 where
  pub edge : ℕ → ℕ → FlatWord
  pub silence : ℕ → ℕ → ℕ

-- nothing is known
abbrev pub no_slots : Contents
no_slots = record { edge = λ i s. flat.Nothing; silence = λ i n. 0 }

-- what two know together, slot by slot
abbrev pub slots_joined : Contents → Contents → Contents
slots_joined a b = record {
  edge = λ i s. joined_flat (a.edge i s) (b.edge i s);
  silence = λ i n. max (a.silence i n) (b.silence i n);
}

-- what one record says of an edge slot, and of a silence slot
abbrev pub edge_in : Record → ℕ → ℕ → FlatWord
edge_in (Edge i s t) j n = if j == i && (n == s) then flat.Value t else flat.Nothing
edge_in (Clash i s) j n = if j == i && (n == s) then flat.Clash else flat.Nothing
edge_in (Silence i c u) j n = flat.Nothing

abbrev pub silence_in : Record → ℕ → ℕ → ℕ
silence_in (Edge i s t) j n = 0
silence_in (Clash i s) j n = 0
silence_in (Silence i c u) j n = if j == i && (n == c) then u else 0

abbrev pub slots_only : Record → Contents
slots_only r = record { edge = edge_in r; silence = silence_in r }

-- what a list of records says
abbrev pub slots_of_records : List Record → Contents
slots_of_records [] = no_slots
slots_of_records (r ∷ rs) = slots_joined (slots_of_records rs) (slots_only r)

-- All that the slots hold is true of a table of changes.
pub record HoldsTrue (nodes : ℕ) (table : ℕ → List ℕ) (w : Contents) : Type 0 where
  pub edges : (i s t : ℕ) → w.edge i s ≡ flat.Value t → IsTrueOf nodes table (Edge i s t)
  pub no_clash : (i s : ℕ) → ¬ (w.edge i s ≡ flat.Clash)
  pub silences : (i n : ℕ) → 0 < w.silence i n → IsTrueOf nodes table (Silence i n (w.silence i n))

-- b knows at least what a knows: a tick or a clash stays, and no silence ends earlier
pub record IsBelow (a b : Contents) : Type 0 where
  pub edges : (i s : ℕ) → joined_flat (a.edge i s) (b.edge i s) ≡ b.edge i s
  pub silences : (i n : ℕ) → a.silence i n ≤ b.silence i n
