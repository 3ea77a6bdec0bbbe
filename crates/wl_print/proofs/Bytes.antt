-- An array of bytes in hexadecimal digits, as the reader of TOML reads it.
use Rattle.std.proofs.Common.{◌≡◌, ◌∙◌, refl, sym, ap, ℕ, ◌+◌, ◌-◌, ◌/◌, ◌%◌, ◌<◌, pos, false, ◌==◌, List, [], ◌∷◌, ◌++◌, map, length, codes, flat_map, Some, arith, append_assoc, length-append}
use Rattle.std.specs.Fmt.{digit_glyph}
use Rattle.toml_parser.specs.Lexical.{first, skip_blank}
use Rattle.toml.specs.Data.{integer, array, Items, no_items, push_item}
use Rattle.toml.specs.View.{items_of}
use Rattle.toml.specs.Parse.{val, items, after_element}
use Rattle.toml.proofs.Blanks.{skip_start, skip_none, skip_space, skip_within}
use Rattle.toml.proofs.ReadValues.{EndsValue, item_join, item_join-push, item_join-none}
use Rattle.toml.proofs.Turns.{items_end, items_more, val_array}
use Rattle.wl_print.proofs.Lines.{IsValue, word_read, word_start}
use Rattle.wl_print.proofs.Words.{IsWord-byte}

abbrev pub byte_text : ℕ → List ℕ
byte_text byte = codes "0x" ++ digit_glyph false (byte / 16) ∷ digit_glyph false (byte % 16) ∷ []

abbrev later_text : ℕ → List ℕ
later_text byte = codes ", " ++ byte_text byte

abbrev pub byte_items : List ℕ → Items
byte_items bytes = items_of (map (λ b. integer (pos b)) bytes)

abbrev pub AllBytes : List ℕ → Type 0
AllBytes [] = Unit {0}
AllBytes (b ∷ bs) = (b < 256) × AllBytes bs

after_comma : (t : List ℕ) → after_element 93 (44 ∷ t) ≡ Some t
unfolding after_element
after_comma t = rw (skip_none (44 ∷ t) 44 refl refl)

at_bracket : (rest : List ℕ) → skip_blank (93 ∷ rest) ≡ 93 ∷ rest
at_bracket rest = skip_none (93 ∷ rest) 93 refl refl

after_last : (rest : List ℕ) → after_element 93 (93 ∷ rest) ≡ Some (93 ∷ rest)
unfolding after_element
after_last rest = rw (at_bracket rest)

hex_read : (b : ℕ) (rest : List ℕ) → b < 256 → EndsValue rest → val 79 (byte_text b ++ rest) ≡ Some (integer (pos b), rest)
hex_read b rest h ends = word_read 79 (byte_text b) rest _ (IsWord-byte b h) ends.1

-- the last byte of an array
read_last : (b : ℕ) (found : Items) (x rest : List ℕ) (m : ℕ) → b < 256 → skip_blank x ≡ byte_text b ++ (93 ∷ rest) → length x < m
    → items (val 79) m found x ≡ Some (push_item found (integer (pos b)), rest)
read_last b found x rest m h start room =
    let within = skip_within x in
    let long : 4 < length x = omega (arith, ap length start) in
    let other : (first (skip_blank x) == 93) ≡ false = rw start refl in
    let read = hex_read b (93 ∷ rest) h ((refl, refl), (refl, refl)) in
    items_more (val 79) m found x (integer (pos b)) (93 ∷ rest) (93 ∷ rest) (omega arith) other (rw start read) (after_last rest)
    ∙ items_end (val 79) (m - 1) (push_item found (integer (pos b))) (93 ∷ rest) (omega arith) (rw (at_bracket rest) refl)
    ∙ rw (at_bracket rest) refl

-- the bytes of an array from one on
read_bytes : (b : ℕ) (bs : List ℕ) (found : Items) (x rest : List ℕ) (m : ℕ) → AllBytes (b ∷ bs)
    → skip_blank x ≡ byte_text b ++ (flat_map later_text bs ++ (93 ∷ rest)) → length x < m
    → items (val 79) m found x ≡ Some (item_join found (byte_items (b ∷ bs)), rest)
read_bytes b [] found x rest m h start room =
    read_last b found x rest m h.0 start room ∙ ap (λ (i : Items). Some (i, rest)) (sym (item_join-none (push_item found (integer (pos b)))) ∙ item_join-push found (integer (pos b)) no_items)
read_bytes b (c ∷ cs) found x rest m h start room =
    let tail = flat_map later_text cs ++ (93 ∷ rest) in
    let next : List ℕ = 32 ∷ (byte_text c ++ tail) in
    let after : List ℕ = 44 ∷ next in
    let whole : skip_blank x ≡ byte_text b ++ after = start ∙ refl in
    let within = skip_within x in
    let sizes = length-append (byte_text c) tail in
    let long : length next + 1 < length x = omega (arith, ap length whole) in
    let other : (first (skip_blank x) == 93) ≡ false = rw whole refl in
    let read = hex_read b after h.0 ((refl, refl), (refl, refl)) in
    let at_next : skip_blank next ≡ byte_text c ++ tail = skip_space (byte_text c ++ tail) ∙ skip_start (byte_text c ++ tail) (word_start (byte_text c) tail _ (IsWord-byte c h.1.0)) in
    items_more (val 79) m found x (integer (pos b)) after next (omega arith) other (rw whole read) (after_comma next)
    ∙ read_bytes c cs (push_item found (integer (pos b))) next rest (m - 1) h.1 at_next (omega arith)
    ∙ ap (λ (i : Items). Some (i, rest)) (item_join-push found (integer (pos b)) (byte_items (c ∷ cs)))

-- an array of bytes is read as they are
pub bytes_value : (b : ℕ) (bs : List ℕ) → AllBytes (b ∷ bs)
    → IsValue (codes "[" ++ (byte_text b ++ (flat_map later_text bs ++ codes "]"))) (array (byte_items (b ∷ bs)))
bytes_value b bs h = record {
  start = λ rest. refl;
  read = λ rest ends.
      let t = byte_text b ++ (flat_map later_text bs ++ (93 ∷ rest)) in
      let same : (codes "[" ++ (byte_text b ++ (flat_map later_text bs ++ codes "]"))) ++ rest ≡ 91 ∷ t = simp append_assoc refl in
      let at_start = skip_start t (word_start (byte_text b) (flat_map later_text bs ++ (93 ∷ rest)) _ (IsWord-byte b h.0)) in
      rw same (val_array 79 (91 ∷ t) refl ∙ rw (read_bytes b bs no_items t rest (length (91 ∷ t)) h at_start (omega arith)));
}
