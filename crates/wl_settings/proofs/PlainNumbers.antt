-- Numbers without a unit, by what a parser finds.
use Rattle.std.proofs.Common.{◌≡◌, ◌∙◌, refl, sym, ap, ℕ, ◌^◌, nat_lt, Bool, true, false, [], ◌∷◌, List, length, Some, None, Ok, Err, if◌then◌else◌}
use Rattle.std.proofs.lemmas.Bool.{and_parts, lt-ltb, ltb-true}
use Rattle.std.specs.Char.{digit_value}
use Rattle.std.specs.List.{list_all}
use Rattle.std.specs.Str.Parse.{AllDigits, ParsesUnsigned, digits_value, without_leading_plus}
use Rattle.wl_settings.specs.Questions.{is_plain_number, plain_number}

all_ten : (ds : List ℕ) → AllDigits 10 ds → list_all (λ d. nat_lt (digit_value d) 10) ds ≡ true
all_ten [] h = refl
all_ten (d ∷ ds) h = rw (lt-ltb (digit_value d) 10 h.0) (all_ten ds h.1)

are_digits : (ds : List ℕ) → list_all (λ d. nat_lt (digit_value d) 10) ds ≡ true → AllDigits 10 ds
are_digits [] e = tt
are_digits (d ∷ ds) e =
    let parts = and_parts _ _ e in
    (ltb-true _ _ parts.0, are_digits ds parts.1)

is_read : (E : Type 0) (text : List ℕ) (n : ℕ) → ParsesUnsigned {E = E} 64 10 text (Ok n) → is_plain_number (without_leading_plus text) ≡ true
is_read E text n h =
    let ds = without_leading_plus text in
    rw (lt-ltb 0 (length ds) h.0.0.0, all_ten ds h.0.0.1, lt-ltb (digits_value 10 ds) (2 ^ 64) h.0.1) refl

unread : (E : Type 0) (text : List ℕ) (e : E) → ParsesUnsigned {E = E} 64 10 text (Err e) → is_plain_number (without_leading_plus text) ≡ false
unread E text e h = go (is_plain_number (without_leading_plus text)) refl
  where
    go : (b : Bool) → is_plain_number (without_leading_plus text) ≡ b → is_plain_number (without_leading_plus text) ≡ false
    go false t = t
    go true t =
        let outer = and_parts _ _ t in
        let inner = and_parts _ _ outer.0 in
        absurd (h ((ltb-true _ _ inner.0, are_digits (without_leading_plus text) inner.1), ltb-true _ _ outer.1))

pub number_is_read : (E : Type 0) (text : List ℕ) (n : ℕ) → ParsesUnsigned {E = E} 64 10 text (Ok n) → Some n ≡ plain_number text
number_is_read E text n h =
    ap Some h.1 ∙ sym (ap (λ b. if b then Some (digits_value 10 (without_leading_plus text)) else None) (is_read E text n h))

pub none_is_read : (E : Type 0) (text : List ℕ) (e : E) → ParsesUnsigned {E = E} 64 10 text (Err e) → None ≡ plain_number text
none_is_read E text e h = sym (ap (λ b. if b then Some (digits_value 10 (without_leading_plus text)) else None) (unread E text e h))
