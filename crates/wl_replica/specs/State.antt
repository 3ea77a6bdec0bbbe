-- What is known of all nodes: the state of a list of records. This project's profile.
use Rattle.std.specs.Prelude.{◌≡◌, ℕ, ◌==◌, ◌<◌, if◌then◌else◌, List, [], ◌∷◌, Option, None, Some, unwrap_or, All}
use Rattle.std.specs.List.{filter_map}
use Rattle.std.specs.FinMap.{FinMap, get}
use Rattle.wl_lattice.specs.declared.FlatWord.{FlatWord}
use Rattle.wl_lattice.specs.declared.FlatWord.TheVariants as flat
use Rattle.wl_lattice.specs.declared.MaxWord.{MaxWord}
use Rattle.wl_lattice.specs.Words.{max_word, joined_max, joined_flat}
use Rattle.wl_lattice.specs.Maps.{joined_maps, map_of}
use Rattle.wl_record_core.specs.declared.record.Record.{Record}
use Rattle.wl_record_core.specs.declared.record.Record.TheVariants.{Edge, Clash, Silence}
use Rattle.wl_record_core.specs.Slots.{node_of}
use Rattle.wl_record_core.specs.Within.{IsWide}
use Rattle.wl_replica.specs.Keys.{Key, key_cmp}
use Rattle.wl_replica.specs.Slots.{Contents}

-- of so many nodes, the words of edges by node and number, and of silences by node and count
pub record State : Type 0 where
  pub nodes : ℕ
  pub edges : FinMap key_cmp FlatWord
  pub silences : FinMap key_cmp MaxWord

-- what a record says of an edge: its tick, or that two ticks came
abbrev pub edge_word : Record → Option (Key × FlatWord)
edge_word (Edge node seq tick) = Some ((node, seq), flat.Value tick)
edge_word (Clash node seq) = Some ((node, seq), flat.Clash)
edge_word (Silence node count until) = None

-- what a record says of a silence: how far it reaches; one until 0 promises nothing
abbrev pub silence_word : Record → Option (Key × MaxWord)
silence_word (Edge node seq tick) = None
silence_word (Clash node seq) = None
silence_word (Silence node count until) = if until == 0 then None else Some ((node, count), max_word until)

-- the state of a list of records: at each slot the join of what they say of it
abbrev pub state_of : ℕ → List Record → State
state_of nodes rs = record {
  nodes = nodes;
  edges = map_of key_cmp joined_flat (filter_map edge_word rs);
  silences = map_of key_cmp joined_max (filter_map silence_word rs);
}

-- the word of an edge
abbrev pub edge_at : State → Key → FlatWord
edge_at s q = unwrap_or (get s.edges q) flat.Nothing

-- the word of a silence
abbrev pub silence_at : State → Key → MaxWord
silence_at s q = unwrap_or (get s.silences q) (max_word 0)

-- two states joined, slot by slot
abbrev pub states_joined : State → State → State
states_joined s t = record {
  nodes = s.nodes;
  edges = joined_maps joined_flat s.edges t.edges;
  silences = joined_maps joined_max s.silences t.silences;
}

-- the state with some records more
abbrev pub state_with_records : State → List Record → State
state_with_records s rs = states_joined s (state_of s.nodes rs)

-- the state with one record more
abbrev pub state_with_record : State → Record → State
state_with_record s r = state_with_records s (r ∷ [])

-- the record is within, and its node is below the number of nodes
abbrev pub Fits : ℕ → Record → Type 0
Fits nodes r = (node_of r < nodes) × IsWide r

-- the state of some records that fit
abbrev pub IsOfRecords : State → Type 0
IsOfRecords s = (rs : List Record) × All (Fits s.nodes) rs × (s ≡ state_of s.nodes rs)

-- if a slot has a word, this holds of its record
abbrev pub EdgeHas : (Record → Type 0) → Key × FlatWord → Type 0
EdgeHas P (k, flat.Nothing) = Unit {0}
EdgeHas P (k, flat.Value tick) = P (Edge k.0 k.1 tick)
EdgeHas P (k, flat.Clash) = P (Clash k.0 k.1)

abbrev pub SilenceHas : (Record → Type 0) → Key × MaxWord → Type 0
SilenceHas P (k, word) = 0 < word.word → P (Silence k.0 k.1 word.word)

-- and it fits
abbrev pub FitsEdge : ℕ → Key × FlatWord → Type 0
FitsEdge nodes = EdgeHas (Fits nodes)

abbrev pub FitsSilence : ℕ → Key × MaxWord → Type 0
FitsSilence nodes = SilenceHas (Fits nodes)

-- the slots of a state, as functions of node and number
abbrev pub slots_of : State → Contents
slots_of s = record { edge = λ i n. edge_at s (i, n); silence = λ i n. (silence_at s (i, n)).word }
