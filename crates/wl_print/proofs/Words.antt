-- What a printed plan's values are read as.
use Rattle.std.proofs.Common.{◌≡◌, ◌∙◌, refl, ap, subst, ℕ, ◌/◌, ◌%◌, ◌^◌, ◌<◌, pos, true, false, not, ◌&&◌, ◌==◌, List, [], ◌∷◌, ◌++◌, length, codes, Some, arith, lt-ltb}
use Rattle.std.proofs.lemmas.Bool.Decides.{nat_tests}
use Rattle.std.proofs.lemmas.Fmt.{digits_is_IsNumeral}
use Rattle.std.proofs.lemmas.Str.{digit_value-digit_char}
use Rattle.std.specs.Char.{digit_value, is_digit}
use Rattle.std.specs.Fmt.{digits, digit_glyph}
use Rattle.std.specs.List.{prefix_len, list_all}
use Rattle.std.specs.Str.Parse.{AllDigits, IsNumeral, digits_value}
use Rattle.toml_parser.specs.declared.scalar.Scalar.TheVariants.{Integer}
use Rattle.toml_parser.specs.Lexical.{is_word}
use Rattle.toml_parser.specs.Numbers.{number, plain_number, prefixed_integer, word_value}
use Rattle.toml_parser.proofs.NumbersLemmas.{filter_none, underscores_fit_none}
use Rattle.toml_writer.proofs.Scalars.{IsWord}

hex_words : (ds : List ℕ) → AllDigits 16 ds → list_all is_word ds ≡ true
hex_words [] all = refl
hex_words (c ∷ cs) all =
    let here : is_word c ≡ true = grind (arith, nat_tests) in
    ap (λ b. b && list_all is_word cs) here ∙ hex_words cs all.1

hex_digits : (ds : List ℕ) → AllDigits 16 ds → list_all (λ c. is_digit c 16) ds ≡ true
hex_digits [] all = refl
hex_digits (c ∷ cs) all =
    ap (λ b. b && list_all (λ c. is_digit c 16) cs) (lt-ltb (digit_value c) 16 all.0) ∙ hex_digits cs all.1

no_underscore : (ds : List ℕ) → AllDigits 16 ds → length ds ≡ prefix_len (λ c. not (c == 95)) ds
no_underscore [] all = refl
no_underscore (c ∷ cs) all =
    let other : (c == 95) ≡ false = grind (arith, nat_tests) in
    rw other (omega (arith, no_underscore cs all.1))

-- hexadecimal digits after their prefix are a number
plain_hex : (ds : List ℕ) → IsNumeral 16 ds → digits_value 16 ds < 2 ^ 63 → plain_number (48 ∷ 120 ∷ ds) ≡ Some (Integer (pos (digits_value 16 ds)))
unfolding plain_number prefixed_integer
plain_hex ds h small =
    rw (lt-ltb 0 (length ds) h.0, hex_digits ds h.1, lt-ltb (digits_value 16 ds) (2 ^ 63) small)

number_hex : (ds : List ℕ) → AllDigits 16 ds → number (48 ∷ 120 ∷ ds) ≡ plain_number (48 ∷ 120 ∷ ds)
unfolding number
number_hex ds all =
    let none : length (48 ∷ 120 ∷ ds) ≡ prefix_len (λ c. not (c == 95)) (48 ∷ 120 ∷ ds) = omega (arith, no_underscore ds all) in
    rw (underscores_fit_none (λ c. is_digit c 16) 0 (48 ∷ 120 ∷ ds) none, filter_none (48 ∷ 120 ∷ ds) none)

value_hex : (ds : List ℕ) → word_value (48 ∷ 120 ∷ ds) ≡ number (48 ∷ 120 ∷ ds)
unfolding word_value
value_hex ds = refl

pub hex_word : (ds : List ℕ) → IsNumeral 16 ds → digits_value 16 ds < 2 ^ 63 → IsWord (48 ∷ 120 ∷ ds) (Integer (pos (digits_value 16 ds)))
hex_word ds h small = record {
  some = omega arith;
  all = hex_words ds h.1;
  value = value_hex ds ∙ number_hex ds h.1 ∙ plain_hex ds h small;
}

-- a number in hexadecimal digits
pub IsWord-hex : (n : ℕ) → n < 2 ^ 63 → IsWord (codes "0x" ++ digits 16 false n) (Integer (pos n))
IsWord-hex n h =
    let numeral = digits_is_IsNumeral 16 false (omega arith) (omega arith) n (omega arith) in
    subst (λ m. IsWord (codes "0x" ++ digits 16 false n) (Integer (pos m))) numeral.1 (hex_word (digits 16 false n) numeral.0 (omega (arith, numeral.1)))

-- a digit's glyph has its value
glyph_value : (d : ℕ) → d < 16 → digit_value (digit_glyph false d) ≡ d
glyph_value d h = digit_value-digit_char d (omega arith)

-- a byte in two hexadecimal digits
pub IsWord-byte : (n : ℕ) → n < 256 → IsWord (codes "0x" ++ digit_glyph false (n / 16) ∷ digit_glyph false (n % 16) ∷ []) (Integer (pos n))
IsWord-byte n h =
    let high = glyph_value (n / 16) (omega arith) in
    let low = glyph_value (n % 16) (omega arith) in
    let ds : List ℕ = digit_glyph false (n / 16) ∷ digit_glyph false (n % 16) ∷ [] in
    let value : digits_value 16 ds ≡ n = rw (high, low) (omega arith) in
    subst (λ m. IsWord (codes "0x" ++ ds) (Integer (pos m))) value
    (hex_word ds (omega arith, (omega (arith, high), (omega (arith, low), tt))) (omega (arith, value)))
