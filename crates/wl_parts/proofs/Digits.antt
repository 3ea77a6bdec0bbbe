-- Numbers at the front of a text.
use Rattle.std.proofs.Common.{cond, ◌≡◌, ◌∙◌, ◌+◌, ℕ, true, false, List, [], ◌∷◌, ◌++◌, length, take, drop, Some, None, Ok, Err, ap, arith, length-append}
use Rattle.std.specs.Prelude.{not, nat_lt}
use Rattle.std.specs.Char.{is_ascii_digit}
use Rattle.std.specs.Fmt.{decimal}
use Rattle.std.specs.List.{position_or_len}
use Rattle.std.specs.Str.{IsUtf8, all_ascii_digits}
use Rattle.std.specs.Str.Parse.{ParsesUnsigned, digits_value}
use Rattle.std.proofs.Math.Seq.{take-append_seam, drop-append_seam}
use Rattle.std.proofs.lemmas.Bool.{and_parts, lt-ltb}
use Rattle.std.proofs.lemmas.Fmt.{IsAscii-decimal, digits_decimal, parse-decimal}
use Rattle.std.proofs.lemmas.Str.{IsUtf8-from_ascii}
use Rattle.std.proofs.lemmas.Str.Parse.{IsNumeralModel, numerals_by_value, tells_all_ascii_digits}
use Rattle.wl_parts.proofs.Answered.{no_ok, same_ok}
use Rattle.wl_parts.specs.Reading.{digit_count}
use Rattle.wl_parts.specs.Text.{Fits64, number_words}

-- the digits at the front
front : (ds : List ℕ) (last : ℕ) (rest : List ℕ) → all_ascii_digits ds ≡ true → is_ascii_digit last ≡ false
    → position_or_len (λ (byte : ℕ). not (is_ascii_digit byte)) (ds ++ last ∷ rest) ≡ length ds
front [] last rest digits other =
    ap (λ b. cond (not (not b)) (1 + position_or_len (λ (byte : ℕ). not (is_ascii_digit byte)) rest) 0) other
front (d ∷ ds) last rest digits other =
    let parts = and_parts (is_ascii_digit d) (all_ascii_digits ds) digits in
    let more = front ds last rest parts.1 other in
    ap (λ b. cond (not (not b)) (1 + position_or_len (λ (byte : ℕ). not (is_ascii_digit byte)) (ds ++ last ∷ rest)) 0) parts.0
    ∙ omega (arith, more)

counted : (ds : List ℕ) (last : ℕ) (rest : List ℕ) → all_ascii_digits ds ≡ true → is_ascii_digit last ≡ false
    → digit_count (ds ++ last ∷ rest) ≡ Some (length ds)
counted ds last rest digits other =
    let sum : length (ds ++ last ∷ rest) ≡ length ds + length (last ∷ rest) = length-append ds (last ∷ rest) in
    ap (λ n. cond (nat_lt n (length (ds ++ last ∷ rest))) (Some n) None) (front ds last rest digits other)
    ∙ ap (λ b. cond b (Some (length ds)) None) (lt-ltb (length ds) (length (ds ++ last ∷ rest)) (omega (arith, sum)))

own : IsNumeralModel (λ (ds : List ℕ). all_ascii_digits ds ≡ true) (digits_value 10)
own = numerals_by_value (λ (ds : List ℕ). all_ascii_digits ds ≡ true) tells_all_ascii_digits

module _ (t : List ℕ) (n last : ℕ) (rest : List ℕ) (fits : Fits64 n) (is : t ≡ number_words n last rest) where
  -- how many digits there are, these, and what comes after them
  pub number_count : is_ascii_digit last ≡ false → digit_count t ≡ Some (length (decimal n))
  number_count other = ap digit_count is ∙ counted (decimal n) last rest (digits_decimal own n fits) other

  pub number_digits : take (length (decimal n)) t ≡ decimal n
  number_digits = ap (take (length (decimal n))) is ∙ take-append_seam (decimal n) (last ∷ rest)

  pub number_rest : drop (length (decimal n)) t ≡ last ∷ rest
  number_rest = ap (drop (length (decimal n))) is ∙ drop-append_seam (decimal n) (last ∷ rest)

pub decimal_utf8 : (n : ℕ) → Fits64 n → IsUtf8 (decimal n)
decimal_utf8 n fits = IsUtf8-from_ascii (decimal n) (IsAscii-decimal n fits)

-- what is parsed of the digits of a number
pub number_parsed : (n m : ℕ) (bs : List ℕ) → Fits64 n → bs ≡ decimal n → ParsesUnsigned {E = ℕ} 64 10 bs (Ok m) → m ≡ n
number_parsed n m bs fits is h = same_ok {E = ℕ} m n (parse-decimal {E = ℕ} 64 n bs (Ok m) fits fits is h)

pub number_unparsed : (E : Type 0) (n : ℕ) (bs : List ℕ) (e : E) → Fits64 n → bs ≡ decimal n → ParsesUnsigned {E = E} 64 10 bs (Err e) → ⊥
number_unparsed E n bs e fits is h = no_ok e n (parse-decimal {E = E} 64 n bs (Err e) fits fits is h)
