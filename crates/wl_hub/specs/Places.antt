-- Which word of a table is a record's, by the numbers of words of the nodes.
use Rattle.std.specs.Prelude.{◌≡◌, ℕ, zero, suc, ◌+◌, ◌<◌, ◌==◌, length, slice_index, unwrap_or, nat_lt, Bool, true, false, if◌then◌else◌, List, [], ◌∷◌, map, Option, Some, None}
use Rattle.std.proofs.Common.{arith}
use Rattle.std.proofs.lemmas.Bool.Decides.{nat_tests}
use Rattle.wl_lattice.specs.declared.MaxWord.{MaxWord}
use Rattle.wl_record_core.specs.declared.record.Record.{Record}
use Rattle.wl_record_core.specs.declared.record.Record.TheVariants.{Edge, Clash, Silence}
use Rattle.wl_lattice.specs.declared.FlatWord.{FlatWord}
use Rattle.wl_lattice.specs.declared.FlatWord.TheVariants.{Nothing, Value, Clash as Clash'}
use Rattle.wl_lattice.specs.Words.{max_word}

abbrev pub beyond : ℕ → Option ℕ → Option ℕ
beyond w None = None
beyond w (Some k) = Some (w + k)

-- the word of the number s of node n, where the nodes have so many words
abbrev pub place : List ℕ → ℕ → ℕ → Option ℕ
place [] n s = None
place (w ∷ ws) zero s = if nat_lt s w then Some s else None
place (w ∷ ws) (suc n) s = beyond w (place ws n s)

-- the first word of node n; 0 if it has none
abbrev pub first_word : List ℕ → ℕ → ℕ
first_word ws n = unwrap_or (place ws n 0) 0

-- These are they, of each number that a node may have.
pub record AreFirsts (ws firsts : List ℕ) : Type 0 where
  pub many : length firsts ≡ 256
  pub each : (n : ℕ) → n < 256 → slice_index firsts n ≡ first_word ws n

abbrev pub is_place : Option ℕ → ℕ → Bool
is_place None i = false
is_place (Some k) i = k == i

pub is_place-apart : (o : Option ℕ) (i j : ℕ) → is_place o i ≡ true → is_place o j ≡ true → i ≡ j
is_place-apart None i j h g = grind arith
is_place-apart (Some k) i j h g = grind (arith, nat_tests)

abbrev pub max_number : MaxWord → ℕ
max_number x = x.word

abbrev pub silence_value : Record → MaxWord
silence_value (Edge n s t) = max_word 0
silence_value (Clash n s) = max_word 0
silence_value (Silence n c u) = max_word u

abbrev pub is_silence_at : List (ℕ × ℕ) → ℕ → Record → Bool
is_silence_at shape i (Edge n s t) = false
is_silence_at shape i (Clash n s) = false
is_silence_at shape i (Silence n c u) = is_place (place (map (λ w. w.1) shape) n c) i

pub silence_apart : (shape : List (ℕ × ℕ)) (i j : ℕ) (r : Record) → is_silence_at shape i r ≡ true
    → is_silence_at shape j r ≡ true → i ≡ j
silence_apart shape i j (Edge n s t) h g = grind arith
silence_apart shape i j (Clash n s) h g = grind arith
silence_apart shape i j (Silence n c u) h g = is_place-apart (place (map (λ w. w.1) shape) n c) i j h g

abbrev pub edge_value : Record → FlatWord
edge_value (Edge n s t) = Value t
edge_value (Clash n s) = Clash'
edge_value (Silence n c u) = Nothing

abbrev pub is_edge_at : List (ℕ × ℕ) → ℕ → Record → Bool
is_edge_at shape i (Edge n s t) = is_place (place (map (λ w. w.0) shape) n s) i
is_edge_at shape i (Clash n s) = is_place (place (map (λ w. w.0) shape) n s) i
is_edge_at shape i (Silence n c u) = false

pub edge_apart : (shape : List (ℕ × ℕ)) (i j : ℕ) (r : Record) → is_edge_at shape i r ≡ true
    → is_edge_at shape j r ≡ true → i ≡ j
edge_apart shape i j (Edge n s t) h g = is_place-apart (place (map (λ w. w.0) shape) n s) i j h g
edge_apart shape i j (Clash n s) h g = is_place-apart (place (map (λ w. w.0) shape) n s) i j h g
edge_apart shape i j (Silence n c u) h g = grind arith

abbrev pub no_record : Record
no_record = Silence 0 0 0
