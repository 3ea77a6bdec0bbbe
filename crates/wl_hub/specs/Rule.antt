-- The rule of a table of shared words: each word is the join of what all passes gave to it.
use Rattle.std.specs.Prelude.{◌≡◌, ℕ, ◌<◌, Bool, true, if◌then◌else◌, List, [], ◌∷◌, ◌++◌, length, slice_index, filter, All, Some, None, MatchBool, ◌||◌, ◌==◌}
use mathlib.Core.Option.{some}
use lib.ListN.{get_elem?}
use Rattle.wl_lattice.specs.declared.numbers.TheConstants.{CLASH}
use Rattle.wl_record_core.specs.declared.record.Record.{Record}
use Rattle.wl_hub.specs.declared.view.View.{View}
use Rattle.atomic_table.specs.Table.{State, Me, Step}

-- the values of one table's words
pub record Kind (J : Type 0) : Type 0 where
  pub bottom : J
  pub join : J → J → J
  pub word : J → ℕ
  pub value : Record → J
  pub at : ℕ → Record → Bool

abbrev pub kind : {J : Type 0} → J → (J → J → J) → (J → ℕ) → (Record → J) → (ℕ → Record → Bool) → Kind J
kind b j w v a = record { bottom = b; join = j; word = w; value = v; at = a }

-- a compare-exchange from 0 to `new` leaves such a word with the new value in it: it was 0, the value, or a clash
abbrev pub is_settled : ℕ → ℕ → Bool
is_settled n new = (n == 0) || ((n == new) || (n == CLASH))

module _ {J : Type 0} where
  -- what a record gives to word i
  abbrev pub share : Kind J → ℕ → Record → J
  share k i r = if k.at i r then k.value r else k.bottom

  -- what these records give to word i together
  abbrev pub joined : Kind J → ℕ → List Record → J
  joined k i [] = k.bottom
  joined k i (r ∷ rs) = k.join (share k i r) (joined k i rs)

  abbrev pub Below : Kind J → J → J → Type 0
  Below k x y = k.join x y ≡ y

module _ {T : Type 0} where
  abbrev pub fresh : T → List (ℕ × ℕ) → View T
  fresh name shape = record { name = Some name; shape = shape; given = []; told = [] }

  abbrev pub spent : View T
  spent = record { name = None; shape = []; given = []; told = [] }

  -- a pass cut from another
  abbrev pub newcomer : View T → View T
  newcomer v = record v { given = []; told = [] }

  -- a pass that took in another
  abbrev pub both : View T → View T → View T
  both v w = record v { given = v.given ++ w.given; told = v.told ++ w.told }

  -- all that the passes gave
  abbrev pub gifts : List (View T) → List Record
  gifts [] = []
  gifts (v ∷ vs) = v.given ++ gifts vs

  -- the greatest value that a pass has seen of word i, with its own gifts
  abbrev pub greatest_seen : {J : Type 0} → Kind J → ℕ → View T → J
  greatest_seen k i v = joined k i (v.given ++ v.told)

  -- what a pass knows is true of the table's name, and its word has it
  pub record ViewHolds {J : Type 0} (k : Kind J) (is_true : Record → Type 0) (name : T) (shape : List (ℕ × ℕ))
      (all : List Record) (v : View T) : Type 0 where
    pub named : (n : T) → v.name ≡ Some n → (n ≡ name) × (v.shape ≡ shape)
    pub given_true : All is_true v.given
    pub told_true : All is_true v.told
    pub below : (i : ℕ) → Below k (joined k i v.told) (joined k i all)

  -- the rule: each word is the join of all that all passes gave to it, and each pass fits
  pub record Holds {J : Type 0} (k : Kind J) (is_true : Record → Type 0) (name : T) (shape : List (ℕ × ℕ))
      (count : ℕ) (s : State (Unit {0}) (View T)) : Type 0 where
    pub counts : length s.words ≡ count
    pub words : (i : ℕ) → i < count → slice_index s.words i ≡ k.word (joined k i (gifts s.views))
    pub fits : (id : ℕ) (v : View T) → get_elem? s.views id ≡ some v → ViewHolds k is_true name shape (gifts s.views) v

  -- the view after a step on word i that gave these records
  abbrev pub learned : (ℕ → Record → Bool) → ℕ → List Record → List Record → View T → View T
  learned at i extra all v = record v { given = v.given ++ extra; told = v.told ++ filter (at i) all }

  -- the pass learns of some more records of word i
  abbrev pub Learns : (ℕ → Record → Bool) → ℕ → List Record → View T → View T → Type 0
  Learns at i extra v w = (news : List Record) × All (λ r. at i r ≡ true) news
      × (w ≡ record v { given = v.given ++ extra; told = v.told ++ news })

  -- all that a pass gave and learned of is true of its name
  abbrev pub AllTrue : (T → Record → Type 0) → View T → Type 0
  AllTrue is_true v = (n : T) → v.name ≡ Some n → All (is_true n) (v.given ++ v.told)

  -- a load: the word is what the pass has now seen of it
  abbrev pub looked : {J : Type 0} → (List (ℕ × ℕ) → Kind J) → (T → Record → Type 0) → Step (Unit {0})
      → Me (Unit {0}) (View T) → ℕ → Me (Unit {0}) (View T) → Type 0
  looked kind_of is_true st m n m' = let k = kind_of m.0.shape in
      (n ≡ k.word (greatest_seen k st.word m'.0)) × Learns k.at st.word [] m.0 m'.0 × AllTrue is_true m'.0 × (m'.1 ≡ m.1)

  -- a gift: the record is the last of those given
  abbrev pub gave : {J : Type 0} → (List (ℕ × ℕ) → Kind J) → (T → Record → Type 0) → Record → Step (Unit {0})
      → Me (Unit {0}) (View T) → ℕ → Me (Unit {0}) (View T) → Type 0
  gave kind_of is_true r st m n m' = Learns (kind_of m.0.shape).at st.word (r ∷ []) m.0 m'.0 × AllTrue is_true m'.0
      × (m'.1 ≡ m.1)

  -- each word is the join of records that are true of the pass's name, those that the pass gave among them
  abbrev pub Closes : {J : Type 0} → (List (ℕ × ℕ) → Kind J) → (T → Record → Type 0) → (List (ℕ × ℕ) → ℕ) → List ℕ
      → View T → Type 0
  Closes kind_of is_true count ws v = (n : T) → v.name ≡ Some n → (i : ℕ) → i < count v.shape
      → (others : List Record) × All (is_true n) others × All (is_true n) v.given
      × (slice_index ws i ≡ (kind_of v.shape).word (joined (kind_of v.shape) i (v.given ++ others)))

  -- a compare-exchange from 0: the record is given, or another value was seen
  abbrev pub claimed : {J : Type 0} → (List (ℕ × ℕ) → Kind J) → (T → Record → Type 0) → Record → Step (Unit {0})
      → Me (Unit {0}) (View T) → ℕ → Me (Unit {0}) (View T) → Type 0
  claimed kind_of is_true r st m n m' =
      MatchBool (is_settled n st.second) (gave kind_of is_true r st m n m') (looked kind_of is_true st m n m')
