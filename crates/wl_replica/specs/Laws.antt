-- The laws of states: replicas that took the same records are equal; joining is commutative, associative and
-- idempotent; the canonical list determines the state. This project's profile.
use Rattle.std.specs.Prelude.{◌≡◌, ℕ, ◌<◌, ◌≤◌, max, List, [], ◌++◌, length, All}
use Rattle.wl_lattice.specs.Words.{joined_flat}
use Rattle.wl_lattice.specs.declared.FlatWord.TheVariants as flat
use Rattle.wl_lattice.specs.Maps.{SameMembers}
use Rattle.wl_limits.specs.declared.Limits.{Limits}
use Rattle.wl_record_core.specs.declared.record.Record.{Record}
use Rattle.wl_record_core.specs.Slots.{node_of}
use Rattle.wl_record_core.specs.Text.{text_of}
use Rattle.wl_replica.specs.Keys.{Key}
use Rattle.wl_record_core.specs.Within.{IsWithinBy}
use Rattle.wl_replica.specs.State.{State, state_of, states_joined, state_with_records, edge_at, silence_at, Fits}
use Rattle.wl_replica.specs.Canonical.{canonical}

-- the same records, in any order and however often each, make the same state
abbrev pub SameRecordsSameState : Type 0
SameRecordsSameState = (nodes : ℕ) (xs ys : List Record) → SameMembers xs ys → state_of nodes xs ≡ state_of nodes ys

-- the states of two lists, joined, are the state of both; so is what one list adds to the state of the other
pub record TakingIsJoining : Type 0 where
  pub both : (nodes : ℕ) (xs ys : List Record) → states_joined (state_of nodes xs) (state_of nodes ys) ≡ state_of nodes (xs ++ ys)
  pub more : (nodes : ℕ) (xs ys : List Record) → state_with_records (state_of nodes xs) ys ≡ state_of nodes (xs ++ ys)
  pub in_parts : (s : State) (xs ys : List Record) → state_with_records (state_with_records s xs) ys ≡ state_with_records s (xs ++ ys)

-- joining is commutative, associative and idempotent, and a state that knows nothing is neutral
pub record IsJoining : Type 0 where
  pub commutes : (a b : State) → a.nodes ≡ b.nodes → states_joined a b ≡ states_joined b a
  pub associates : (a b c : State) → states_joined (states_joined a b) c ≡ states_joined a (states_joined b c)
  pub idempotent : (a : State) → states_joined a a ≡ a
  pub neutral : (a : State) → states_joined a (state_of a.nodes []) ≡ a

-- at each slot a joined state has the join of the two words, and a state of no records has nothing
pub record JoinsSlotBySlot : Type 0 where
  pub edges : (a b : State) (q : Key) → edge_at (states_joined a b) q ≡ joined_flat (edge_at a q) (edge_at b q)
  pub silences : (a b : State) (q : Key) → (silence_at (states_joined a b) q).word ≡ max (silence_at a q).word (silence_at b q).word
  pub no_edges : (nodes : ℕ) (q : Key) → edge_at (state_of nodes []) q ≡ flat.Nothing
  pub no_silences : (nodes : ℕ) (q : Key) → (silence_at (state_of nodes []) q).word ≡ 0
  -- states that have the same word at each slot are equal, where no slot holds a word of nothing
  pub same_slots : (nodes : ℕ) (xs ys : List Record) → ((q : Key) → edge_at (state_of nodes xs) q ≡ edge_at (state_of nodes ys) q)
      → ((q : Key) → (silence_at (state_of nodes xs) q).word ≡ (silence_at (state_of nodes ys) q).word)
      → state_of nodes xs ≡ state_of nodes ys

-- the canonical list of a state of records is a list of that state
abbrev pub CanonicalDeterminesTheState : Type 0
CanonicalDeterminesTheState = (nodes : ℕ) (rs : List Record) → All (λ r. node_of r < nodes) rs → state_of nodes (canonical (state_of nodes rs)) ≡ state_of nodes rs

-- a canonical list with records after it makes the list that all the records make
abbrev pub MergingIsAppending : Type 0
MergingIsAppending = (nodes : ℕ) (xs ys : List Record) → All (λ r. node_of r < nodes) xs
    → canonical (state_of nodes (canonical (state_of nodes xs) ++ ys)) ≡ canonical (state_of nodes (xs ++ ys))

-- the canonical list of records that fit has records that fit, that of records within some limits has such records, and its text is not longer than theirs
pub record CanonicalStaysAText : Type 0 where
  pub fits : (nodes : ℕ) (rs : List Record) → All (Fits nodes) rs → All (Fits nodes) (canonical (state_of nodes rs))
  pub within : (limits : Limits) (nodes : ℕ) (rs : List Record) → All (IsWithinBy limits) rs → All (IsWithinBy limits) (canonical (state_of nodes rs))
  pub short : (nodes : ℕ) (rs : List Record) → length (text_of (canonical (state_of nodes rs))) ≤ length (text_of rs)
