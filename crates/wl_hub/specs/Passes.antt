-- What a pass is the token of: a name, what its holder gave, and what it saw.
use Rattle.std.specs.Prelude.{◌≡◌, ℕ, List, [], ◌∷◌, ◌++◌, All, slice_index, Option, Some, ◌≢◌}
use Rattle.wl_record_core.specs.declared.record.Record.{Record}
use Rattle.wl_record_core.specs.declared.record.Record.TheVariants.{Edge, Clash, Silence}
use Rattle.wl_record_core.specs.declared.record.Slot.{Slot}
use Rattle.wl_record_core.specs.declared.record.Slot.TheVariants.{EdgeAt, SilenceAt}
use Rattle.wl_record_core.specs.Slots.{slot_of}
use Rattle.wl_hub.specs.declared.hub.Hub.{Hub}
use Rattle.wl_hub.specs.declared.hub.Pass.{Pass}
use Rattle.wl_hub.specs.Words.{word_of, IsAtMostAt, joined_words, answer_place}

-- the list with this record at its end, where it is an edge or a clash
abbrev pub with_edge : List Record → Record → List Record
with_edge rs (Edge n s t) = rs ++ Edge n s t ∷ []
with_edge rs (Clash n s) = rs ++ Clash n s ∷ []
with_edge rs (Silence n c u) = rs

-- and where it is a silence
abbrev pub with_silence : List Record → Record → List Record
with_silence rs (Edge n s t) = rs
with_silence rs (Clash n s) = rs
with_silence rs (Silence n c u) = rs ++ Silence n c u ∷ []

module _ {T : Type 0} where
  -- the name of a pass; a pass that was given up has none
  abbrev pub pass_name : Pass T → Option T
  pass_name p = p.edges.seat.me.0.name

  -- what its holder gave: edges and clashes, and silences, each in its order
  abbrev pub given_edges : Pass T → List Record
  given_edges p = p.edges.seat.me.0.given

  abbrev pub given_silences : Pass T → List Record
  given_silences p = p.silences.seat.me.0.given

  -- the part of what it gave in which records of a slot stand
  abbrev pub given_for : Slot → Pass T → List Record
  given_for (EdgeAt n s) p = given_edges p
  given_for (SilenceAt n c) p = given_silences p

  -- the records from which what it saw comes
  abbrev pub told_for : Slot → Pass T → List Record
  told_for (EdgeAt n s) p = p.edges.seat.me.0.told
  told_for (SilenceAt n c) p = p.silences.seat.me.0.told

  -- the greatest word that it has seen of a slot, its own gifts among what it saw
  abbrev pub seen : Pass T → Slot → ℕ
  seen p slot = word_of slot (given_for slot p ++ told_for slot p)

  -- what a hub was started with: for each node its numbers of edge words and of silence words
  abbrev pub shape_of : Hub T → List (ℕ × ℕ)
  shape_of hub = hub.shape.items

  -- the pass is one of this hub: of its tables and of its shape. A type that keeps a hub and a pass may say so of them.
  abbrev pub IsPassOf : Hub T → Pass T → Type 0
  IsPassOf hub p = (p.edges.seat.table_id ≡ hub.edges.table.shared.table_id)
      × ((p.silences.seat.table_id ≡ hub.silences.table.shared.table_id) × (p.edges.seat.me.0.shape ≡ hub.shape.items))

  -- a pass that gave nothing and saw nothing
  pub record IsNew (p : Pass T) : Type 0 where
    pub edges : given_edges p ≡ []
    pub silences : given_silences p ≡ []
    pub unseen : (slot : Slot) → seen p slot ≡ 0

  -- the list of a pass grew by exactly this record
  pub record Gave (r : Record) (before after : Pass T) : Type 0 where
    pub name : pass_name after ≡ pass_name before
    pub edges : given_edges after ≡ with_edge (given_edges before) r
    pub silences : given_silences after ≡ with_silence (given_silences before) r

  -- of the gift's slot it has seen the gift, and no less than before; of others what it had seen
  pub record SawGift (r : Record) (before after : Pass T) : Type 0 where
    pub gift : IsAtMostAt (slot_of r) (word_of (slot_of r) (r ∷ [])) (seen after (slot_of r))
    pub kept : IsAtMostAt (slot_of r) (seen before (slot_of r)) (seen after (slot_of r))
    pub others : (other : Slot) → other ≢ slot_of r → seen after other ≡ seen before other

  -- a look answers what it has now seen of the slot: no less than before, and no less than its own gifts make;
  -- of others it has seen what it had
  pub record Saw (slot : Slot) (word : ℕ) (before after : Pass T) : Type 0 where
    pub answer : word ≡ seen after slot
    pub kept : IsAtMostAt slot (seen before slot) word
    pub gifts : IsAtMostAt slot (word_of slot (given_for slot before)) word
    pub others : (other : Slot) → other ≢ slot → seen after other ≡ seen before other

  -- it gave nothing more
  pub record GaveNothing (before after : Pass T) : Type 0 where
    pub name : pass_name after ≡ pass_name before
    pub edges : given_edges after ≡ given_edges before
    pub silences : given_silences after ≡ given_silences before

  -- a pass took in another: both lists, and what was seen is joined slot by slot
  pub record TookIn (other before after : Pass T) : Type 0 where
    pub name : pass_name after ≡ pass_name before
    pub edges : given_edges after ≡ given_edges before ++ given_edges other
    pub silences : given_silences after ≡ given_silences before ++ given_silences other
    pub joined : (slot : Slot) → seen after slot ≡ joined_words slot (seen before slot) (seen other slot)

  -- a word at the end: the join of what the closing pass gave to its slot and of other records of that slot, all true
  pub record ClosesWord (is_true : Record → Type 0) (slot : Slot) (p : Pass T) (word : ℕ) : Type 0 where
    pub others : List Record
    pub of_slot : All (λ r. slot_of r ≡ slot) others
    pub others_true : All is_true others
    pub given_true : All is_true (given_for slot p)
    pub joins : word ≡ word_of slot (given_for slot p ++ others)

  -- all words at the end, for each name of the pass
  abbrev pub Closes : (T → Record → Type 0) → List (ℕ × ℕ) → Pass T → List ℕ → Type 0
  Closes is_true shape p words = (name : T) → pass_name p ≡ Some name → (slot : Slot) (i : ℕ)
      → answer_place shape slot ≡ Some i → ClosesWord (is_true name) slot p (slice_index words i)
