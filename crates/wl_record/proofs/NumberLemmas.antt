-- One digit more of a number, and where its digits stop.
use Rattle.std.specs.Prelude.{◌≡◌, ℕ, ◌+◌, ◌*◌, ◌-◌, ◌<◌, ◌≤◌, List, [], ◌∷◌, length, take, drop, refl}
use Rattle.std.proofs.Common.{length-drop, get_or, ap, sym, ◌∙◌, arith, subst}
use Rattle.std.proofs.lemmas.Bool.Decides.{nat_tests}
use Rattle.std.proofs.Math.Seq.{drop-cons}
use Prim.Native.Nat.{suc}
use Rattle.std.specs.Char.{digit_value}
use Rattle.std.specs.Str.Parse.{AllDigits, digits_value}
use Rattle.std.proofs.lemmas.Int.Digits.{digits_value_more, digits_more}
use Rattle.wl_record.specs.Parsing.{Stops, number_as_read}

-- a digit's value is its code less 48
pub value_of_digit : (c : ℕ) → digit_value c < 10 → (digit_value c ≡ c - 48) × (48 ≤ c)
value_of_digit c h = (grind (arith, nat_tests), grind (arith, nat_tests))

-- a capped number with one digit more
pub capped_more : (n value d : ℕ) → value < 1000000000000000000 → number_as_read value ≡ number_as_read n → number_as_read (value * 10 + d) ≡ number_as_read (n * 10 + d)
capped_more n value d few e = omega (arith, few, e)

pub capped_stays : (n value d : ℕ) → 1000000000000000000 ≤ value → number_as_read value ≡ number_as_read n → number_as_read value ≡ number_as_read (n * 10 + d)
capped_stays n value d much e = omega (arith, much, e)

-- one digit more, where `new` is the value with it
pub one_digit_more : (bytes : List ℕ) (at new : ℕ) → at < length bytes → AllDigits 10 (take at bytes) → digit_value (get_or bytes at 0) < 10
    → number_as_read new ≡ number_as_read (digits_value 10 (take at bytes) * 10 + digit_value (get_or bytes at 0))
    → (at + 1 ≤ length bytes) × AllDigits 10 (take (at + 1) bytes) × (number_as_read new ≡ number_as_read (digits_value 10 (take (at + 1) bytes)))
one_digit_more bytes at new within digits digit is =
    (omega arith, digits_more 10 bytes at within digits digit, is ∙ ap number_as_read (sym (digits_value_more 10 bytes at within)))

-- the digits stop at a byte that is none, or at the end
pub stops_there : (bytes : List ℕ) (at : ℕ) → at ≤ length bytes → (at < length bytes → 10 ≤ digit_value (get_or bytes at 0)) → Stops (drop at bytes)
stops_there bytes at within h =
    elim (drop at bytes) as (λ xs. drop at bytes ≡ xs → Stops xs) [
      | [] ↦ λ e. tt
      | b ∷ more ↦ λ e.
          let here : at < length bytes = omega (arith, ap length e, length-drop at bytes) in
          let both : get_or bytes at 0 ∷ drop (suc at) bytes ≡ b ∷ more = sym (drop-cons bytes at 0 here) ∙ e in
          let head : get_or bytes at 0 ≡ b = cc in
          subst (λ z. 10 ≤ digit_value z) head (h here)
    ] refl
