-- The canonical list of a state: node by node, first its edges by number, then its silences by count; a slot that
-- holds nothing is left out. This project's profile.
use Rattle.std.specs.Prelude.{ℕ, ◌==◌, if◌then◌else◌, List, ◌++◌, Option, None, Some, filter}
use Rattle.std.specs.List.{filter_map, flat_map, range_with_len}
use Rattle.std.specs.FinMap.{entries}
use Rattle.wl_lattice.specs.declared.FlatWord.{FlatWord}
use Rattle.wl_lattice.specs.declared.FlatWord.TheVariants as flat
use Rattle.wl_lattice.specs.declared.MaxWord.{MaxWord}
use Rattle.wl_record_core.specs.declared.record.Record.{Record}
use Rattle.wl_record_core.specs.declared.record.Record.TheVariants.{Edge, Clash, Silence}
use Rattle.wl_replica.specs.Keys.{Key}
use Rattle.wl_replica.specs.State.{State}

-- the record of an edge's word
abbrev pub edge_record : Key × FlatWord → Option Record
edge_record (k, flat.Nothing) = None
edge_record (k, flat.Value tick) = Some (Edge k.0 k.1 tick)
edge_record (k, flat.Clash) = Some (Clash k.0 k.1)

-- the record of a silence's word
abbrev pub silence_record : Key × MaxWord → Option Record
silence_record (k, word) = if word.word == 0 then None else Some (Silence k.0 k.1 word.word)

-- the entries of a node
abbrev pub of_node : {W : Type 0} → ℕ → List (Key × W) → List (Key × W)
of_node node es = filter (λ e. e.0.0 == node) es

-- the records of a node: its edges by number, and then its silences by count
abbrev pub records_of_node : List (Key × FlatWord) → List (Key × MaxWord) → ℕ → List Record
records_of_node edges silences node = filter_map edge_record (of_node node edges) ++ filter_map silence_record (of_node node silences)

-- the canonical list of a state, node by node
abbrev pub canonical : State → List Record
canonical s = flat_map (records_of_node (entries s.edges) (entries s.silences)) (range_with_len 0 s.nodes)
