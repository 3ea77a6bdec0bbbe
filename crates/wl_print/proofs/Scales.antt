-- The length of a tick and of a unit of length, printed in femtoseconds and micrometres, are read as they were.
use Rattle.std.proofs.Common.{◌≡◌, ◌∙◌, refl, ap, ℕ, ◌+◌, ◌*◌, ◌<◌, ◌≤◌, nat_le, ◌&&◌, true, List, [], ◌∷◌, ◌++◌, length, codes, Some, decimal, arith, leb-true}
use Rattle.std.proofs.lemmas.Bool.{and_parts}
use Rattle.std.proofs.lemmas.Bool.Decides.{nat_tests}
use Rattle.std.proofs.lemmas.Fmt.{decimal_is_IsNumeral}
use Rattle.std.specs.Char.{digit_value}
use Rattle.std.specs.Str.Parse.{AllDigits, digits_value, digits_value_after}
use Rattle.wl_units.specs.declared.decimal.Decimal.{Decimal}
use Rattle.wl_units.specs.declared.decimal.Part.TheVariants.{Whole}
use Rattle.wl_units.specs.Decimals.{no_digits, scan, with_letter}
use Rattle.wl_units.specs.Ratios.{whole}
use Rattle.wl_units.specs.Scales.{tick_said, unit_said}

-- a whole number of so many
abbrev whole_number : ℕ → Decimal
whole_number n = record { mantissa = n; divisor = 1; part = Whole }

digit_taken : (n c : ℕ) → n < 100000000000000 → digit_value c < 10 → with_letter (whole_number n) c ≡ Some (whole_number (n * 10 + digit_value c))
digit_taken n c room digit = grind (arith, nat_tests)

first_taken : (c : ℕ) → digit_value c < 10 → with_letter no_digits c ≡ Some (whole_number (0 * 10 + digit_value c))
first_taken c digit = grind (arith, nat_tests)

value_grows : (ds : List ℕ) (n : ℕ) → n ≤ digits_value_after 10 n ds
value_grows [] n = omega arith
value_grows (c ∷ cs) n = omega (arith, value_grows cs (n * 10 + digit_value c))

scan_step : (d e : Decimal) (c : ℕ) (cs : List ℕ) → with_letter d c ≡ Some e → scan d (c ∷ cs) ≡ scan e cs
scan_step d e c cs is = rw is refl

digits_scanned : (ds rest : List ℕ) (n : ℕ) → AllDigits 10 ds → digits_value_after 10 n ds < 100000000000000
    → scan (whole_number n) (ds ++ rest) ≡ scan (whole_number (digits_value_after 10 n ds)) rest
digits_scanned [] rest n all room = refl
digits_scanned (c ∷ cs) rest n all room =
    let grows = value_grows cs (n * 10 + digit_value c) in
    scan_step (whole_number n) (whole_number (n * 10 + digit_value c)) c (cs ++ rest) (digit_taken n c (omega arith) all.0)
    ∙ digits_scanned cs rest (n * 10 + digit_value c) all.1 room

number_scanned : (ds rest : List ℕ) → 0 < length ds → AllDigits 10 ds → digits_value 10 ds < 100000000000000
    → scan no_digits (ds ++ rest) ≡ scan (whole_number (digits_value 10 ds)) rest
number_scanned [] rest some all room = absurd (omega arith)
number_scanned (c ∷ cs) rest some all room =
    scan_step no_digits (whole_number (0 * 10 + digit_value c)) c (cs ++ rest) (first_taken c all.0)
    ∙ digits_scanned cs rest (0 * 10 + digit_value c) all.1 room

decimal_scanned : (n : ℕ) (rest : List ℕ) → n < 100000000000000 → scan no_digits (decimal n ++ rest) ≡ scan (whole_number n) rest
decimal_scanned n rest room =
    let (numeral, value) = decimal_is_IsNumeral n (omega arith) in
    number_scanned (decimal n) rest numeral.0 numeral.1 (omega (arith, value)) ∙ ap (λ (m : ℕ). scan (whole_number m) rest) value

whole_itself : (n : ℕ) → n < 100000000000000 → whole (n * 1) (1 * 1) ≡ Some n
whole_itself n room = grind (arith, nat_tests)

pub tick_back : (n : ℕ) → (nat_le 1 n && nat_le n 1000000000000) ≡ true → tick_said (decimal n ++ codes "fs") ≡ Some n
tick_back n h =
    let (some, few) = and_parts (nat_le 1 n) (nat_le n 1000000000000) h in
    let small : n < 100000000000000 = omega (arith, leb-true n 1000000000000 few) in
    rw (decimal_scanned n (codes "fs") small, whole_itself n small, h) refl

pub unit_back : (n : ℕ) → (nat_le 1 n && nat_le n 100000000) ≡ true → unit_said (decimal n ++ codes "um") ≡ Some n
unit_back n h =
    let (some, few) = and_parts (nat_le 1 n) (nat_le n 100000000) h in
    let small : n < 100000000000000 = omega (arith, leb-true n 100000000 few) in
    rw (decimal_scanned n (codes "um") small, whole_itself n small, h) refl
