-- How words are kept: for each node a row of numbers, one for each slot by its number, 0 where there is none. This project's profile.
use Rattle.std.specs.Prelude.{◌≡◌, ℕ, zero, suc, ◌<◌, ◌≤◌, ◌==◌, ◌||◌, if◌then◌else◌, List, [], ◌∷◌, length, slice_index_or, Bool, true, false, not, filter}
use Rattle.std.specs.FinMap.{FinMap, from_sorted}
use Rattle.std.specs.List.{list_any, AllByRecursion}
use Rattle.wl_lattice.specs.declared.FlatWord.{FlatWord}
use Rattle.wl_lattice.specs.declared.FlatWord.TheVariants as flat
use Rattle.wl_lattice.specs.declared.MaxWord.{MaxWord}
use Rattle.wl_lattice.specs.SlotContents.{IsRaised}
use Rattle.wl_lattice.specs.Numbers.{number_word}
use Rattle.wl_lattice.specs.Words.{joined_flat, joined_max, max_word}
use Rattle.wl_record_core.specs.declared.record.Record.{Record}
use Rattle.wl_record_core.specs.declared.record.Record.TheVariants.{Edge, Clash, Silence}
use Rattle.wl_record_core.specs.declared.record.Slot.{Slot}
use Rattle.wl_record_core.specs.declared.record.Slot.TheVariants.{EdgeAt, SilenceAt}
use Rattle.wl_record_core.specs.Limits.{most_edges, tick_end}
use Rattle.wl_replica.specs.declared.node_row.TheConstants.{MOST_PLACES}
use Rattle.wl_replica.specs.Keys.{Key, key_cmp}
use Rattle.wl_replica.specs.State.{State, FitsEdge, FitsSilence}

-- an edge's word that holds something
abbrev pub holds_edge : FlatWord → Bool
holds_edge flat.Nothing = false
holds_edge (flat.Value tick) = true
holds_edge flat.Clash = true

-- a silence's word that holds something
abbrev pub holds_silence : MaxWord → Bool
holds_silence word = not (word.word == 0)

-- what entries show: those that hold something
abbrev pub words_shown : {W : Type 0} → (W → Bool) → List (Key × W) → FinMap key_cmp W
words_shown holds es = from_sorted (filter (λ e. holds e.1) es)

-- the most places of a row
abbrev pub most_row_places : ℕ
most_row_places = MOST_PLACES

-- the number at a place of a row, 0 past its end
abbrev pub row_number : List ℕ → ℕ → ℕ
row_number row n = slice_index_or row n 0

-- the number of a slot, 0 past all rows
abbrev pub slot_number : List (List ℕ) → Key → ℕ
slot_number rows q = row_number (slice_index_or rows q.0 []) q.1

-- the row of a node
abbrev pub row_of : List (List ℕ) → ℕ → List ℕ
row_of rows i = slice_index_or rows i []

-- the words that rows of edges have, and those that rows of silences have
abbrev pub edge_words : List (List ℕ) → Key → FlatWord
edge_words rows q = number_word (slot_number rows q)

abbrev pub silence_words : List (List ℕ) → Key → MaxWord
silence_words rows q = max_word (slot_number rows q)

-- a number was joined in at one place of a row, and no other place changed
abbrev pub IsRowRaised : (ℕ → ℕ → ℕ) → List ℕ → ℕ → ℕ → List ℕ → Type 0
IsRowRaised joined old place number new = (n : ℕ) → row_number new n ≡ (if n == place then joined (row_number old n) number else row_number old n)

-- the entries of a row of node i from number n on, and then others
abbrev pub row_entries : {W : Type 0} → (ℕ → W) → ℕ → ℕ → List ℕ → List (Key × W) → List (Key × W)
row_entries word i n [] others = others
row_entries word i n (a ∷ row) others = ((i, n), word a) ∷ row_entries word i (suc n) row others

-- the entries of the rows of node i and those after it
abbrev pub rows_entries : {W : Type 0} → (ℕ → W) → ℕ → List (List ℕ) → List (Key × W)
rows_entries word i [] = []
rows_entries word i (row ∷ rows) = row_entries word i 0 row (rows_entries word (suc i) rows)

-- the state that rows show
abbrev pub shown_by_rows : ℕ → List (List ℕ) → List (List ℕ) → State
shown_by_rows nodes edges silences = record {
  nodes = nodes;
  edges = words_shown holds_edge (rows_entries number_word 0 edges);
  silences = words_shown holds_silence (rows_entries max_word 0 silences);
}

-- What rows keep: one for each node, and what they hold fits.
pub record AreRows (nodes : ℕ) (edges silences : List (List ℕ)) : Type 0 where
  pub few : nodes < 256
  pub edge_rows : length edges ≡ nodes
  pub silence_rows : length silences ≡ nodes
  pub edges_fit : (k : Key) → FitsEdge nodes (k, edge_words edges k)
  pub silences_fit : (k : Key) → FitsSilence nodes (k, silence_words silences k)

-- the edge words of a row, by number
abbrev pub edges_of_row : List ℕ → ℕ → FlatWord
edges_of_row row n = number_word (row_number row n)

-- each tick of a row is one that a record can have
abbrev pub HasTicksWithin : List ℕ → Type 0
HasTicksWithin row = (n t : ℕ) → edges_of_row row n ≡ flat.Value t → (n < most_edges) × (t < tick_end)

-- some number of a row says something
abbrev pub says_something : List ℕ → Bool
says_something row = list_any (λ a. not (a == 0)) row

-- Rows got longer perhaps, and no number is another.
pub record IsGrown (old new : List (List ℕ)) : Type 0 where
  pub count : length new ≡ length old
  pub same : (q : Key) → slot_number new q ≡ slot_number old q
  pub longer : (i : ℕ) → length (row_of old i) ≤ length (row_of new i)

-- the rows have a place for a slot, where there is a row and a record can name it
abbrev pub HasRoom : List (List ℕ) → ℕ → ℕ → Type 0
HasRoom rows node place = node < length rows → place ≤ most_edges → place < length (row_of rows node)

abbrev pub HasRoomAt : List (List ℕ) → List (List ℕ) → Slot → Type 0
HasRoomAt edges silences (EdgeAt node seq) = HasRoom edges node seq
HasRoomAt edges silences (SilenceAt node count) = HasRoom silences node count

-- what a record says was joined in, and nothing else changed
abbrev pub IsToldTo : Record → List (List ℕ) → List (List ℕ) → List (List ℕ) → List (List ℕ) → Type 0
IsToldTo (Edge i n t) edges silences new_edges new_silences = IsRaised joined_flat (edge_words edges) (i, n) (flat.Value t) (edge_words new_edges) × (new_silences ≡ silences)
IsToldTo (Clash i n) edges silences new_edges new_silences = IsRaised joined_flat (edge_words edges) (i, n) flat.Clash (edge_words new_edges) × (new_silences ≡ silences)
IsToldTo (Silence i n u) edges silences new_edges new_silences = IsRaised joined_max (silence_words silences) (i, n) (max_word u) (silence_words new_silences) × (new_edges ≡ edges)

-- What prepared rows keep: that of rows, with room for each slot.
pub record ArePreparedRows (nodes : ℕ) (edges silences : List (List ℕ)) (slots : List Slot) : Type 0 where
  pub kept : AreRows nodes edges silences
  pub room : AllByRecursion (HasRoomAt edges silences) slots
