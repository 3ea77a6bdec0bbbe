-- What the word of a slot is, by the records that were given to it: their join, as a number.
-- Joining is that of replicas (this project's profile): two ticks of one change clash, and the longer silence stays.
use Rattle.std.specs.Prelude.{◌≡◌, ◌⊎◌, ℕ, ◌<◌, ◌≤◌, ◌==◌, ◌&&◌, max, if◌then◌else◌, List, [], ◌∷◌, All, map, slice_index, sum, Option, ◌≢◌, suc}
use Rattle.wl_lattice.specs.declared.MaxWord.{MaxWord}
use Rattle.wl_lattice.specs.declared.FlatWord.{FlatWord}
use Rattle.wl_lattice.specs.declared.FlatWord.TheVariants.{Nothing, Value, Clash as Clash'}
use Rattle.wl_lattice.specs.Words.{max_word, joined_max, joined_flat}
use Rattle.wl_record_core.specs.declared.record.Record.{Record}
use Rattle.wl_record_core.specs.declared.record.Record.TheVariants.{Edge, Clash, Silence}
use Rattle.wl_record_core.specs.declared.record.Slot.{Slot}
use Rattle.wl_record_core.specs.declared.record.Slot.TheVariants.{EdgeAt, SilenceAt}
use Rattle.wl_record_core.specs.Slots.{slot_of}
use Rattle.wl_record_core.specs.Within.{IsWide}
use Rattle.wl_hub.specs.Places.{place, beyond}
use Rattle.wl_lattice.specs.declared.numbers.TheConstants.{CLASH}
use Rattle.wl_lattice.specs.Numbers.{word_number, joined_numbers}

-- ---- the join of the records of one slot

-- what a record tells of change s of node n
abbrev pub edge_share : ℕ → ℕ → Record → FlatWord
edge_share n s (Edge m q t) = if (m == n) && (q == s) then Value t else Nothing
edge_share n s (Clash m q) = if (m == n) && (q == s) then Clash' else Nothing
edge_share n s (Silence m c u) = Nothing

-- what it tells of the silence of node n after c changes
abbrev pub silence_share : ℕ → ℕ → Record → MaxWord
silence_share n c (Edge m q t) = max_word 0
silence_share n c (Clash m q) = max_word 0
silence_share n c (Silence m d u) = if (m == n) && (d == c) then max_word u else max_word 0

abbrev pub edge_join : ℕ → ℕ → List Record → FlatWord
edge_join n s [] = Nothing
edge_join n s (r ∷ rs) = joined_flat (edge_share n s r) (edge_join n s rs)

abbrev pub silence_join : ℕ → ℕ → List Record → MaxWord
silence_join n c [] = max_word 0
silence_join n c (r ∷ rs) = joined_max (silence_share n c r) (silence_join n c rs)

-- the word of a slot: of an edge 0 for nothing, 1 more than a tick, and the greatest word for a clash
abbrev pub word_of : Slot → List Record → ℕ
word_of (EdgeAt n s) rs = word_number (edge_join n s rs)
word_of (SilenceAt n c) rs = (silence_join n c rs).word

-- ---- words as numbers

-- one word is at most another, in the order of the join: of an edge nothing, then one tick, then the clash
abbrev pub IsAtMostAt : Slot → ℕ → ℕ → Type 0
IsAtMostAt (EdgeAt n s) a b = (a ≡ 0) ⊎ ((a ≡ b) ⊎ (b ≡ CLASH))
IsAtMostAt (SilenceAt n c) a b = a ≤ b

-- the join of two words of one slot
abbrev pub joined_words : Slot → ℕ → ℕ → ℕ
joined_words (EdgeAt n s) a b = joined_numbers a b
joined_words (SilenceAt n c) a b = max a b

-- a word is the join of records of its slot, each of which is true; 0 for none
pub record IsJoinOfTrue (is_true : Record → Type 0) (slot : Slot) (word : ℕ) : Type 0 where
  pub records : List Record
  pub of_slot : All (λ r. slot_of r ≡ slot) records
  pub are_true : All is_true records
  pub joins : word ≡ word_of slot records

-- why a clash is there: one was given, or two ticks
abbrev pub TellsClash : (Record → Type 0) → ℕ → ℕ → Type 0
TellsClash is_true n s = is_true (Clash n s) ⊎ ((t u : ℕ) × (t ≢ u) × is_true (Edge n s t) × is_true (Edge n s u))

-- what a word tells: nothing, or a true record of its slot, or a clash
abbrev pub Tells : (Record → Type 0) → Slot → ℕ → Type 0
Tells is_true (EdgeAt n s) word = (word ≡ 0)
    ⊎ (((t : ℕ) × (word ≡ suc t) × is_true (Edge n s t)) ⊎ ((word ≡ CLASH) × TellsClash is_true n s))
Tells is_true (SilenceAt n c) word = (word ≡ 0) ⊎ is_true (Silence n c word)

-- ---- the shape: for each node its numbers of edge words and of silence words

abbrev pub edge_widths : List (ℕ × ℕ) → List ℕ
edge_widths shape = map (λ w. w.0) shape

abbrev pub silence_widths : List (ℕ × ℕ) → List ℕ
silence_widths shape = map (λ w. w.1) shape

-- the slot has a word
abbrev pub HasWord : List (ℕ × ℕ) → Slot → Type 0
HasWord shape (EdgeAt n s) = s < slice_index (edge_widths shape) n
HasWord shape (SilenceAt n c) = c < slice_index (silence_widths shape) n

-- the record's slot has a word, and the record is within
abbrev pub IsInShape : List (ℕ × ℕ) → Record → Type 0
IsInShape shape r = HasWord shape (slot_of r) × IsWide r

-- where the word of a slot stands when all words are listed: edge words node by node, then silence words
abbrev pub answer_place : List (ℕ × ℕ) → Slot → Option ℕ
answer_place shape (EdgeAt n s) = place (edge_widths shape) n s
answer_place shape (SilenceAt n c) = beyond (sum (edge_widths shape)) (place (silence_widths shape) n c)
