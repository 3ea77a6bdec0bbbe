-- Numbers inside of some bytes.
use Rattle.std.specs.Prelude.{◌≡◌, ℕ, ◌+◌, ◌*◌, ◌-◌, ◌^◌, ◌<◌, ◌≤◌, List, [], ◌∷◌, ◌++◌, length, take, drop, refl}
use Rattle.std.specs.Char.{digit_value}
use Rattle.std.specs.Str.Parse.{AllDigits, digits_value}
use Rattle.std.proofs.Common.{length-drop, get_or, ap, sym, ◌∙◌, arith, subst, take-append-drop}
use Rattle.std.proofs.Math.Seq.{drop-cons}
use Rattle.std.proofs.lemmas.Int.Digits.{digits_value_more, digits_more}
use Rattle.std.proofs.lemmas.List.{get_or-drop, get_or-take, length-take, length-take-le, drop-drop}
use Rattle.std.proofs.lemmas.Str.Parse.{digits_value_short}
use Prim.Native.Nat.{suc}
use Rattle.wl_limits.specs.declared.Limits.{Limits}
use Rattle.wl_record_core.specs.declared.record.Record.{Record}
use Rattle.wl_record_core.specs.Within.{IsWithinBy}
use Rattle.wl_record.specs.Grammar.{letter_of, numbers_of}
use Rattle.wl_record.specs.Parsing.{IsField, FieldsThen, TakesLine, Stops}
use Rattle.wl_record.proofs.GrammarLemmas.{own}
use Rattle.wl_record.proofs.LineLemmas.{front_line}

-- the bytes from one place to another
abbrev pub between : ℕ → ℕ → List ℕ → List ℕ
between from to bytes = take (to - from) (drop from bytes)

-- a number of at most 15 digits is small
pub few_small : (bytes : List ℕ) (from at : ℕ) → at ≤ from + 15 → AllDigits 10 (between from at bytes) → digits_value 10 (between from at bytes) < 10 ^ 15
few_small bytes from at few digits = digits_value_short own (between from at bytes) 15 digits (omega (arith, length-take (at - from) (drop from bytes)))

-- one digit more, where `new` is the value with it
pub one_more : (bytes : List ℕ) (from at new : ℕ) → from ≤ at → at < length bytes → AllDigits 10 (between from at bytes) → digit_value (get_or bytes at 0) < 10
    → new ≡ digits_value 10 (between from at bytes) * 10 + digit_value (get_or bytes at 0)
    → AllDigits 10 (between from (at + 1) bytes) × (new ≡ digits_value 10 (between from (at + 1) bytes))
one_more bytes from at new begun within digits digit is =
    let tail = drop from bytes in
    let place : from + (at - from) ≡ at = omega arith in
    let count : at - from + 1 ≡ at + 1 - from = omega arith in
    let same : get_or tail (at - from) 0 ≡ get_or bytes at 0 = get_or-drop from bytes (at - from) 0 ∙ ap (λ z. get_or bytes z 0) place in
    let room : at - from < length tail = omega (arith, length-drop from bytes) in
    let more : AllDigits 10 (take (at - from + 1) tail) = digits_more 10 tail (at - from) room digits (subst (λ z. digit_value z < 10) (sym same) digit) in
    let value : digits_value 10 (take (at - from + 1) tail) ≡ digits_value 10 (between from at bytes) * 10 + digit_value (get_or bytes at 0) = digits_value_more 10 tail (at - from) room ∙ ap (λ z. digits_value 10 (between from at bytes) * 10 + digit_value z) same in
    (subst (λ z. AllDigits 10 (take z tail)) count more, is ∙ (sym value ∙ ap (λ z. digits_value 10 (take z tail)) count))

-- what follows a place, behind what stands up to another
pub parts_at : (bytes : List ℕ) (from to : ℕ) → from ≤ to → drop from bytes ≡ between from to bytes ++ drop to bytes
parts_at bytes from to order =
    let place : from + (to - from) ≡ to = omega arith in
    sym (take-append-drop (to - from) (drop from bytes)) ∙ ap (λ z. between from to bytes ++ z) (drop-drop (to - from) from bytes ∙ ap (λ z. drop z bytes) place)

-- the field after the space at a place
pub field_there : (bytes : List ℕ) (space to n : ℕ) → get_or bytes space 0 ≡ 32 → space + 1 < to → to < length bytes → AllDigits 10 (between (space + 1) to bytes) → n ≡ digits_value 10 (between (space + 1) to bytes)
    → (get_or bytes (space + 1) 0 ≡ 48 → to ≤ space + 2) → 10 ≤ digit_value (get_or bytes to 0) → IsField (drop space bytes) n (drop to bytes)
field_there bytes space to n is some within digits value plain stop =
    let one : suc space ≡ space + 1 = omega arith in
    let none : space + 1 + 0 ≡ space + 1 = omega arith in
    let len : length (between (space + 1) to bytes) ≡ to - (space + 1) = length-take-le (to - (space + 1)) (drop (space + 1) bytes) (omega (arith, length-drop (space + 1) bytes)) in
    let first : get_or (between (space + 1) to bytes) 0 0 ≡ get_or bytes (space + 1) 0 = get_or-take (to - (space + 1)) (drop (space + 1) bytes) 0 0 (omega arith) ∙ (get_or-drop (space + 1) bytes 0 0 ∙ ap (λ z. get_or bytes z 0) none) in
    record {
      number = between (space + 1) to bytes;
      is_number = record {
        digits = (omega (arith, len), digits);
        plain = λ e. omega (arith, len, plain (sym first ∙ e));
        value = sym value;
      };
      parts = drop-cons bytes space 0 (omega arith) ∙ (λ i. is i ∷ drop (one i) bytes) ∙ ap (λ z. 32 ∷ z) (parts_at bytes (space + 1) to (omega arith));
      stops = subst Stops (sym (drop-cons bytes to 0 within)) stop;
    }

-- a line of a letter and three fields
pub three_there : (limits : Limits) (bytes : List ℕ) (told : Record) (a b c x y z : ℕ) → 1 < length bytes → letter_of told ≡ get_or bytes 0 0 → numbers_of told ≡ x ∷ y ∷ z ∷ [] → IsWithinBy limits told
    → IsField (drop 1 bytes) x (drop a bytes) → IsField (drop a bytes) y (drop b bytes) → IsField (drop b bytes) z (drop c bytes) → c < length bytes → get_or bytes c 0 ≡ 10
    → (rest : List ℕ) → rest ≡ drop (c + 1) bytes → TakesLine limits bytes told rest
three_there limits bytes told a b c x y z some letter numbers within first second third room newline rest is =
    let one : suc c ≡ c + 1 = omega arith in
    front_line limits bytes told (drop c bytes) rest (
      drop 1 bytes,
      drop-cons bytes 0 0 (omega arith) ∙ (λ i. sym letter i ∷ drop 1 bytes),
      subst (λ ns. FieldsThen (drop 1 bytes) ns (drop c bytes)) (sym numbers) (drop a bytes, first, (drop b bytes, second, (drop c bytes, third, refl))),
    ) within (drop-cons bytes c 0 room ∙ ((λ i. newline i ∷ drop (one i) bytes) ∙ ap (λ z. 10 ∷ z) (sym is)))
