-- The slots of states, and what it is that no horizon falls. Chandy and Misra 1979: a process's knowledge only grows.
use Rattle.std.specs.Prelude.{◌≡◌, ℕ, ◌<◌, ◌≤◌, List, Some, slice_get}
use Rattle.wl_lattice.specs.declared.FlatWord.TheVariants as flat
use Rattle.wl_record_core.specs.declared.record.Record.{Record}
use Rattle.wl_replica.specs.Slots.{Contents, slots_joined, slots_only, slots_of_records}
use Rattle.wl_replica.specs.Known.{horizon}
use Rattle.wl_replica.specs.State.{State, state_of, states_joined, state_with_record, slots_of}

-- no node's horizon falls from one state to the other
abbrev pub NoHorizonFalls : State → State → Type 0
NoHorizonFalls old new = (i : ℕ) → horizon (slots_of old) i ≤ horizon (slots_of new) i

-- each of these changes of node i that comes before tick u stands in its slot
abbrev pub ChangesStand : Contents → ℕ → List ℕ → ℕ → Type 0
ChangesStand w i changes u = (n t : ℕ) → slice_get changes n ≡ Some t → t < u → w.edge i n ≡ flat.Value t

-- The slots of a state of records are what the records say, and joined states have joined slots.
pub record SlotsOfStates : Type 0 where
  pub records : (nodes : ℕ) (rs : List Record) → slots_of (state_of nodes rs) ≡ slots_of_records rs
  pub both : (s t : State) → slots_of (states_joined s t) ≡ slots_joined (slots_of s) (slots_of t)
  pub one_more : (s : State) (r : Record) → slots_of (state_with_record s r) ≡ slots_joined (slots_of s) (slots_only r)
