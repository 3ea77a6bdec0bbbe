-- Lines of a document in any order of their keys, as the reader of TOML reads them.
use Rattle.std.proofs.Common.{◌≡◌, ◌∙◌, refl, sym, ap, subst, ℕ, ◌-◌, ◌<◌, ◌≤◌, true, false, ◌==◌, List, [], ◌∷◌, ◌++◌, length, codes, flat_map, option_and_then, Option, Some, None, arith, append_assoc, append-nil, length-append}
use Rattle.std.proofs.lemmas.Bool.{and_parts}
use Rattle.std.proofs.lemmas.Bool.Decides.{nat_tests}
use Rattle.std.specs.List.{list_all}
use Rattle.toml_parser.specs.declared.scalar.Scalar.{Scalar}
use Rattle.toml_parser.specs.Lexical.{first, is_word, skip_blank, skip_ws}
use Rattle.toml_parser.specs.Numbers.{unquoted}
use Rattle.toml_parser.specs.Strings.{Key, key, starts_string}
use Rattle.toml_parser.proofs.LexicalLemmas.{skip_ws_none, skip_from-nil}
use Rattle.toml_writer.specs.Text.{key_text}
use Rattle.toml_writer.proofs.Scalars.{EndsWord, IsWord, unquoted-word}
use Rattle.toml_writer.proofs.Strings.{is_key_start, is_key_start-key_text}
use Rattle.toml.specs.Data.{Data, depth, has_valid_dates}
use Rattle.toml.specs.Tables.{Document, Expression, define, key_value, array_table}
use Rattle.toml.specs.Parse.{val, read_map, scalar_data, atom, expression, ends_line, line, lines}
use Rattle.toml.specs.Text.{IsValueText, IsLineText}
use Rattle.toml.proofs.Blanks.{starts_value, skip_start, skip_newline, skip_within}
use Rattle.toml.proofs.ReadLines.{Turn, line_turn, run}
use Rattle.toml.proofs.ReadValues.{EndsValue, value_start, read_value, key_equals-pair}
use Rattle.toml.proofs.Turns.{keyval_ok, lines_end, lines_more, lines_refused, val_atom}

-- a text that is read as a value, up to 80 levels deep
pub record IsValue (v : List ℕ) (d : Data) : Type 0 where
  pub start : (rest : List ℕ) → starts_value (first (v ++ rest)) ≡ true
  pub read : (rest : List ℕ) → EndsValue rest → val 80 (v ++ rest) ≡ Some (d, rest)

-- what the kit's printer writes of a value
pub printed_value : (v : List ℕ) (d : Data) → IsValueText false d v → depth d ≤ 80 → has_valid_dates d ≡ true → IsValue v d
printed_value v d text deep valid = record {
  start = λ rest. (value_start false d v rest text valid).1;
  read = λ rest ends. read_value false d 80 v rest text deep valid ends;
}

atom_word : (text : List ℕ) → starts_string text ≡ false → atom text ≡ read_map scalar_data (unquoted text)
unfolding atom
atom_word text h = rw h

word_front : (w rest : List ℕ) → 0 < length w → list_all is_word w ≡ true → is_word (first (w ++ rest)) ≡ true
word_front [] rest some all = absurd (omega arith)
word_front (c ∷ cs) rest some all = (and_parts (is_word c) (list_all is_word cs) all).0

pub word_start : (w rest : List ℕ) (d : Scalar) → IsWord w d → starts_value (first (w ++ rest)) ≡ true
word_start w rest d h =
    let word = word_front w rest h.some h.all in
    rw word

-- a word is read whole, at any depth
pub word_read : (n : ℕ) (w rest : List ℕ) (d : Scalar) → IsWord w d → EndsWord rest → val n (w ++ rest) ≡ Some (scalar_data d, rest)
word_read n w rest d h stop =
    let word = word_front w rest h.some h.all in
    let a : (first (w ++ rest) == 91) ≡ false = grind (arith, nat_tests) in
    let b : (first (w ++ rest) == 123) ≡ false = grind (arith, nat_tests) in
    let neither : starts_string (w ++ rest) ≡ false = grind (arith, nat_tests) in
    val_atom n (w ++ rest) a b ∙ atom_word (w ++ rest) neither ∙ rw (unquoted-word w rest d h.some h.all stop h.value)

pub word_value_of : (w : List ℕ) (d : Scalar) → IsWord w d → IsValue w (scalar_data d)
word_value_of w d h = record {
  start = λ rest. word_start w rest d h;
  read = λ rest ends. word_read 80 w rest d h ends.1;
}

-- ---- lines

-- a text that is one line of a document
abbrev pub IsLine : Expression → List ℕ → Type 0
IsLine e this = (rest : List ℕ) → Turn e.0 e.1 (this ++ rest) rest

-- a text that is some lines, one after another
abbrev pub AreLines : List Expression → List ℕ → Type 0
AreLines [] text = text ≡ []
AreLines (e ∷ es) text = (this : List ℕ) × (rest : List ℕ) × (text ≡ this ++ rest) × IsLine e this × AreLines es rest

pub join_lines : (es fs : List Expression) (t u : List ℕ) → AreLines es t → AreLines fs u → AreLines (es ++ fs) (t ++ u)
join_lines [] fs t u h more = subst (λ (x : List ℕ). AreLines fs (x ++ u)) (sym h) more
join_lines (e ∷ es) fs t u h more =
    let (this, rest, whole, one, others) = h in
    (this, rest ++ u, ap (λ (x : List ℕ). x ++ u) whole ∙ append_assoc this rest u, one, join_lines es fs rest u others more)

pub one_line : (e : Expression) (this : List ℕ) → IsLine e this → AreLines (e ∷ []) this
one_line e this h = (this, [], sym (append-nil this), h, refl)

pub each_lines : {X : Type 0} (es : X → List Expression) (t : X → List ℕ) → ((x : X) → AreLines (es x) (t x)) → (xs : List X)
    → AreLines (flat_map es xs) (flat_map t xs)
each_lines es t each [] = refl
each_lines es t each (x ∷ xs) = join_lines (es x) (flat_map es xs) (t x) (flat_map t xs) (each x) (each_lines es t each xs)

ends_at_newline : (rest : List ℕ) → ends_line (skip_ws (10 ∷ rest)) ≡ true
ends_at_newline rest = rw (skip_ws_none (10 ∷ rest) refl) (grind (arith, nat_tests))

-- what a byte is that a key begins with
byte_of_key : (c : ℕ) → is_key_start c ≡ true → (starts_value c ≡ true) × ((c == 239) ≡ false)
byte_of_key c h = (grind (arith, nat_tests), grind (arith, nat_tests))

read_pair : (k v rest : List ℕ) (d : Data) → IsValue v d
    → line (key_text k ++ (codes " = " ++ (v ++ 10 ∷ rest))) ≡ Some ((([], k), key_value d), 10 ∷ rest)
unfolding line expression
read_pair k v rest d h =
    let value_at = v ++ 10 ∷ rest in
    let s = key_text k ++ (codes " = " ++ value_at) in
    let ends : EndsValue (10 ∷ rest) = ((refl, refl), (refl, refl)) in
    let pair = keyval_ok (val 80) s value_at (10 ∷ rest) ([], k) d (key_equals-pair k value_at (h.start (10 ∷ rest))) (h.read (10 ∷ rest) ends) in
    let key_first = is_key_start-key_text k (codes " = " ++ value_at) in
    let other : (first s == 91) ≡ false = grind (arith, nat_tests) in
    rw (other, pair, ends_at_newline rest)

pub pair_line : (k v this : List ℕ) (d : Data) → this ≡ key_text k ++ (codes " = " ++ (v ++ codes "\n")) → IsValue v d
    → IsLine (([], k), key_value d) this
pair_line k v this d whole h rest =
    let s = key_text k ++ (codes " = " ++ (v ++ 10 ∷ rest)) in
    let same : this ++ rest ≡ s = rw whole (simp append_assoc refl) in
    let fronts = byte_of_key (first s) (is_key_start-key_text k (codes " = " ++ (v ++ 10 ∷ rest))) in
    let key_size = length-append (key_text k) (codes " = " ++ (v ++ 10 ∷ rest)) in
    let value_size = length-append v (10 ∷ rest) in
    (s, rw same (skip_start s fronts.0), read_pair k v rest d h, omega (arith, key_size), omega (arith, key_size, value_size), rw same fronts.1)

-- the header of an array's table, with an empty line before it
pub header_turn : (key : Key) (this : List ℕ) → IsLineText false true key array_table this → length key.0 < 80 → IsLine (key, array_table) this
header_turn key this text short rest = line_turn false true key array_table this rest text short

read_step : (m : ℕ) (doc : Document) (x : List ℕ) (e : Expression) (after : List ℕ) (es : List Expression) (defined : Option Document) → defined ≡ define doc e → 0 < m → (length (skip_blank x) == 0) ≡ false
    → line (skip_blank x) ≡ Some (e, after) → ((next : Document) → lines (m - 1) next after ≡ option_and_then (λ n. run n es) (Some next)) → lines m doc x ≡ option_and_then (λ n. run n es) defined
read_step m doc x e after es None same some other read more = lines_refused m doc x e after some other read (sym same)
read_step m doc x e after es (Some next) same some other read more = lines_more m doc next x e after some other read (sym same) ∙ more next

-- lines are read as what they define, one after another
pub read_lines : (es : List Expression) (text x : List ℕ) (doc : Document) (m : ℕ) → AreLines es text
    → skip_blank x ≡ skip_blank text → length x < m → lines m doc x ≡ run doc es
read_lines [] text x doc m h skip room =
    lines_end m doc x (omega arith) (rw (skip, h, skip_from-nil true false) refl)
read_lines (e ∷ es) text x doc m h skip room =
    let (this, rest, whole, one, more) = h in
    let (s, at_start, read, some, shorter, not_bom) = one rest in
    let same : skip_blank x ≡ s = skip ∙ rw whole at_start in
    let other : (length (skip_blank x) == 0) ≡ false = rw same (grind (arith, nat_tests)) in
    let within = skip_within x in
    read_step m doc x e (10 ∷ rest) es (define doc e) refl (omega arith) other (rw same read) (λ next. read_lines es rest (10 ∷ rest) next (m - 1) more (skip_newline rest) (omega (arith, ap length same)))
