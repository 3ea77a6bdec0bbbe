-- Tables that are printed: rows of keys and values, and arrays of tables.
use Rattle.std.proofs.Common.{◌≡◌, ◌∙◌, refl, sym, ap, subst, ℕ, ◌^◌, ◌<◌, ℤ, pos, FitsSigned, w64, Bool, true, false, ◌==◌, List, [], ◌∷◌, ◌++◌, codes, flat_map, Option, Some, None, decimal, if◌then◌else◌, arith, append_assoc}
use Rattle.std.proofs.lemmas.Bool.{and_parts}
use Rattle.std.proofs.lemmas.Bool.Decides.{nat_tests}
use Rattle.std.specs.Fmt.{signed_decimal}
use Rattle.std.specs.List.{list_all, list_any}
use Rattle.toml_parser.specs.Strings.{Key}
use Rattle.toml_writer.specs.Text.{encoding_of, basic, escaped, is_control, key_text, needs_escape, quotes_after, string_text}
use Rattle.toml.specs.Data.{Data, string, integer, boolean, array, table, Items, no_items, item, Members, member}
use Rattle.toml.specs.Tables.{Expression, array_table}
use Rattle.toml.specs.Text.{are_tables, elements, is_section, pairs, section, sections}
use Rattle.wl_setup.specs.Kinds.{is_name_letter}
use Rattle.wl_print.proofs.Bytes.{AllBytes, byte_items, byte_text, bytes_value}
use Rattle.wl_print.proofs.Lines.{AreLines, IsValue, pair_line, printed_value, word_value_of}
use Rattle.wl_print.proofs.Sorted.{is_proper_data, is_proper_items}
use Rattle.wl_print.proofs.Words.{IsWord-hex}
use Rattle.std.specs.Fmt.{digits}

-- a key, and what is written of its value and what it is, if it is written
abbrev pub Row : Type 0
Row = List ℕ × Option (List ℕ × Data)

-- a text that is read as a value, which is no array of tables
pub record IsPair (v : List ℕ × Data) : Type 0 where
  pub value : IsValue v.0 v.1
  pub pair : is_section v.1 ≡ false
  pub none : (key : Key) → section key v.1 ≡ []
  pub proper : is_proper_data v.1 ≡ true

abbrev pub IsRow : Option (List ℕ × Data) → Type 0
IsRow None = Unit {0}
IsRow (Some v) = IsPair v

abbrev pub AreRows : List Row → Type 0
AreRows [] = Unit {0}
AreRows ((k, v) ∷ rows) = IsRow v × AreRows rows

-- the members of some rows, and then others
abbrev pub with_row : List ℕ → Option (List ℕ × Data) → Members → Members
with_row k None rest = rest
with_row k (Some v) rest = member k v.1 rest

abbrev pub with_rows : List Row → Members → Members
with_rows [] rest = rest
with_rows ((k, v) ∷ rows) rest = with_row k v (with_rows rows rest)

abbrev pub value_line : List ℕ → Option (List ℕ × Data) → List ℕ
value_line k None = []
value_line k (Some v) = key_text k ++ (codes " = " ++ (v.0 ++ codes "\n"))

abbrev pub row_line : Row → List ℕ
row_line r = value_line r.0 r.1

pairs_row : (k : List ℕ) (v : Option (List ℕ × Data)) (rest : Members) (t : List ℕ) → IsRow v → AreLines (pairs rest) t → AreLines (pairs (with_row k v rest)) (value_line k v ++ t)
pairs_row k None rest t h more = more
pairs_row k (Some v) rest t h more = rw h.pair (value_line k (Some v), t, refl, pair_line k v.0 (value_line k (Some v)) v.1 refl h.value, more)

-- the lines of some rows
pub pairs_rows : (rows : List Row) (rest : Members) (t : List ℕ) → AreRows rows → AreLines (pairs rest) t → AreLines (pairs (with_rows rows rest)) (flat_map row_line rows ++ t)
pairs_rows [] rest t h more = more
pairs_rows ((k, v) ∷ rows) rest t h more =
    subst (λ (x : List ℕ). AreLines (pairs (with_rows ((k, v) ∷ rows) rest)) x) (sym (append_assoc (value_line k v) (flat_map row_line rows) t))
    (pairs_row k v (with_rows rows rest) (flat_map row_line rows ++ t) h.0 (pairs_rows rows rest t h.1 more))

sections_row : (k : List ℕ) (v : Option (List ℕ × Data)) (rest : Members) (path : List (List ℕ)) → IsRow v → sections path (with_row k v rest) ≡ sections path rest
sections_row k None rest path h = refl
sections_row k (Some v) rest path h = rw (h.none (path, k)) refl

pub sections_rows : (rows : List Row) (rest : Members) (path : List (List ℕ)) → AreRows rows → sections path (with_rows rows rest) ≡ sections path rest
sections_rows [] rest path h = refl
sections_rows ((k, v) ∷ rows) rest path h = sections_row k v (with_rows rows rest) path h.0 ∙ sections_rows rows rest path h.1

-- ---- arrays of tables

module _ {X : Type 0} (table_of : X → Members) where
  abbrev pub tables_in_order : List X → Items
  tables_in_order [] = no_items
  tables_in_order (x ∷ xs) = item (table (table_of x)) (tables_in_order xs)

  abbrev pub with_tables : List ℕ → List X → Members → Members
  with_tables k [] rest = rest
  with_tables k (x ∷ xs) rest = member k (array (tables_in_order (x ∷ xs))) rest

  pub all_tables : (xs : List X) → are_tables (tables_in_order xs) ≡ true
  all_tables [] = refl
  all_tables (x ∷ xs) = all_tables xs

  pub pairs_tables : (k : List ℕ) (xs : List X) (rest : Members) → pairs (with_tables k xs rest) ≡ pairs rest
  pairs_tables k [] rest = refl
  pairs_tables k (x ∷ xs) rest = rw (all_tables xs) refl

  -- the lines of one table of an array
  abbrev pub table_lines : List (List ℕ) → List ℕ → X → List Expression
  table_lines path k x = ((path, k), array_table) ∷ (pairs (table_of x) ++ sections (path ++ k ∷ []) (table_of x))

  elements_are : (path : List (List ℕ)) (k : List ℕ) (xs : List X) → elements (path, k) (tables_in_order xs) ≡ flat_map (table_lines path k) xs
  elements_are path k [] = refl
  elements_are path k (x ∷ xs) = rw (elements_are path k xs) refl

  section_is : (path : List (List ℕ)) (k : List ℕ) (x : X) (xs : List X) → section (path, k) (array (tables_in_order (x ∷ xs))) ≡ flat_map (table_lines path k) (x ∷ xs)
  section_is path k x xs = ap (λ (b : Bool). if b then elements (path, k) (tables_in_order (x ∷ xs)) else []) (all_tables xs) ∙ elements_are path k (x ∷ xs)

  pub sections_tables : (path : List (List ℕ)) (k : List ℕ) (xs : List X) (rest : Members)
      → sections path (with_tables k xs rest) ≡ flat_map (table_lines path k) xs ++ sections path rest
  sections_tables path k [] rest = refl
  sections_tables path k (x ∷ xs) rest = ap (λ (es : List Expression). es ++ sections path rest) (section_is path k x xs)

-- ---- values

pub number_pair : (n : ℕ) → n < 2 ^ 63 → IsPair (decimal n, integer (pos n))
number_pair n h = record {
  value = printed_value (decimal n) (integer (pos n)) (refl, omega arith) (omega arith) refl;
  pair = refl;
  none = λ key. refl;
  proper = refl;
}

pub signed_pair : (z : ℤ) → FitsSigned w64 z → IsPair (signed_decimal z, integer z)
signed_pair z h = record {
  value = printed_value (signed_decimal z) (integer z) (refl, h) (omega arith) refl;
  pair = refl;
  none = λ key. refl;
  proper = refl;
}

pub hex_pair : (n : ℕ) → n < 2 ^ 63 → IsPair (codes "0x" ++ digits 16 false n, integer (pos n))
hex_pair n h = record {
  value = word_value_of (codes "0x" ++ digits 16 false n) _ (IsWord-hex n h);
  pair = refl;
  none = λ key. refl;
  proper = refl;
}

pub true_pair : IsPair (codes "true", boolean true)
true_pair = record {
  value = printed_value (codes "true") (boolean true) refl (omega arith) refl;
  pair = refl;
  none = λ key. refl;
  proper = refl;
}

proper_bytes : (bs : List ℕ) → is_proper_items (byte_items bs) ≡ true
proper_bytes [] = refl
proper_bytes (b ∷ bs) = proper_bytes bs

abbrev pub bytes_text : ℕ → List ℕ → List ℕ
bytes_text b bs = codes "[" ++ (byte_text b ++ (flat_map (λ c. codes ", " ++ byte_text c) bs ++ codes "]"))

pub bytes_pair : (b : ℕ) (bs : List ℕ) → AllBytes (b ∷ bs) → IsPair (bytes_text b bs, array (byte_items (b ∷ bs)))
bytes_pair b bs h = record {
  value = bytes_value b bs h;
  pair = refl;
  none = λ key. refl;
  proper = proper_bytes (b ∷ bs);
}

-- a letter of a name is written as it is
plain_letter : (c : ℕ) → is_name_letter c ≡ true → (is_control c ≡ false) × ((c == 92) ≡ false) × ((c == 34) ≡ false) × ((c == 10) ≡ false) × (needs_escape false 0 c ≡ false)
unfolding needs_escape
plain_letter c h = (grind (arith, nat_tests), grind (arith, nat_tests), grind (arith, nat_tests), grind (arith, nat_tests), grind (arith, nat_tests))

escaped_name : (s : List ℕ) → list_all is_name_letter s ≡ true → escaped false 0 s ≡ s
unfolding escaped quotes_after
escaped_name [] all = refl
escaped_name (c ∷ cs) all =
    let (here, more) = and_parts (is_name_letter c) (list_all is_name_letter cs) all in
    let plain = plain_letter c here in
    rw (plain.4, plain.2) (ap (λ (t : List ℕ). c ∷ t) (escaped_name cs more))

none_passes : (p : ℕ → Bool) (s : List ℕ) → ((c : ℕ) → is_name_letter c ≡ true → p c ≡ false) → list_all is_name_letter s ≡ true → list_any p s ≡ false
none_passes p [] h all = refl
none_passes p (c ∷ cs) h all =
    let (here, more) = and_parts (is_name_letter c) (list_all is_name_letter cs) all in
    rw (h c here) (none_passes p cs h more)

basic_name : (s : List ℕ) → list_all is_name_letter s ≡ true → encoding_of s ≡ basic
unfolding encoding_of
basic_name s all =
    let control = none_passes is_control s (λ c h. (plain_letter c h).0) all in
    let slash = none_passes (λ c. c == 92) s (λ c h. (plain_letter c h).1) all in
    let quotes = none_passes (λ c. c == 34) s (λ c h. (plain_letter c h).2) all in
    let feeds = none_passes (λ c. c == 10) s (λ c h. (plain_letter c h).3) all in
    rw (control, slash, quotes, feeds) refl

name_text : (s : List ℕ) → list_all is_name_letter s ≡ true → string_text s ≡ 34 ∷ (s ++ 34 ∷ [])
unfolding string_text
name_text s all = rw (basic_name s all, escaped_name s all) refl

pub name_pair : (s : List ℕ) → list_all is_name_letter s ≡ true → IsPair (34 ∷ (s ++ 34 ∷ []), string s)
name_pair s all = record {
  value = printed_value (34 ∷ (s ++ 34 ∷ [])) (string s) (sym (name_text s all)) (omega arith) refl;
  pair = refl;
  none = λ key. refl;
  proper = refl;
}
