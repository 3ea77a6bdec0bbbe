-- Fields that are spelled are read back, and what is read spells: for any table of fields.
use Rattle.std.proofs.Common.{◌≡◌, ℕ, zero, suc, ◌+◌, ◌^◌, ◌<◌, ◌≤◌, ◌∙◌, List, [], ◌∷◌, ◌++◌, length, Bool, true, false, refl, sym, ap, arith, map, take, drop, length-append, append_assoc, get_or}
use Rattle.std.proofs.Math.Nat.{mod-eq_of_lt, pow-le-pow_right}
use Rattle.std.proofs.Math.Seq.{drop-append-add, take-add}
use Rattle.std.proofs.lemmas.List.{length-take, length-drop, drop-append-le, take-append-le, drop-drop, take_at}
use Rattle.std.specs.Prelude.{◌==◌}
use Rattle.wl_level.specs.declared.Level.{Level}
use Rattle.wl_level.specs.declared.Level.TheVariants.{Dominant, Recessive}
use Rattle.wl_frame.specs.Crc.{bit_of_level, number_of}
use Rattle.wl_frame.specs.Header.{Field, one_bit, width_of, number_bits, number_from, field_bits}
use Rattle.wl_frame.proofs.Spelled.{number_back, length_number_bits, bits_back, levels_lt}

-- the number of bits that were spelled
pub number_spelled : (k n : ℕ) → n < 2 ^ k → number_of (map bit_of_level (number_bits k n)) ≡ n
number_spelled k n h = number_back k n ∙ mod-eq_of_lt h

-- Reading in a list that goes on.

number_skip : (front rest : List Level) (m k : ℕ) → number_from (front ++ rest) (length front + m) k ≡ number_from rest m k
number_skip front rest m k = ap (λ ls. number_of (map bit_of_level (take k ls))) (drop-append-add front rest m)

number_here : (ls rest : List Level) (k : ℕ) → length ls ≡ k → number_from (ls ++ rest) 0 k ≡ number_of (map bit_of_level ls)
number_here ls rest k h = ap (λ ms. number_of (map bit_of_level ms)) (take_at ls rest k h)

pub number_front : (front rest : List Level) (n k : ℕ) → n + k ≤ length front → number_from (front ++ rest) n k ≡ number_from front n k
number_front front rest n k h =
    ap (λ ls. number_of (map bit_of_level (take k ls))) (drop-append-le n front rest (omega arith))
    ∙ ap (λ ls. number_of (map bit_of_level ls)) (take-append-le k (drop n front) rest (omega (arith, length-drop n front)))

pub number_small : (ls : List Level) (n k : ℕ) → number_from ls n k < 2 ^ k
number_small ls n k =
    let short : length (take k (drop n ls)) ≤ k = omega (arith, length-take k (drop n ls)) in
    omega (arith, levels_lt (take k (drop n ls)), pow-le-pow_right {n = 2} (omega arith) short)

-- a number spelled after a front, with more after it
module _ (front more tail : List Level) (k n : ℕ) where
  pub number_regrouped : front ++ ((number_bits k n ++ more) ++ tail) ≡ (front ++ number_bits k n) ++ (more ++ tail)
  number_regrouped =
      ap (λ ls. front ++ ls) (append_assoc (number_bits k n) more tail)
      ∙ sym (append_assoc front (number_bits k n) (more ++ tail))

  pub number_length : length (front ++ number_bits k n) ≡ length front + k
  number_length = length-append front (number_bits k n) ∙ ap (λ j. length front + j) (length_number_bits k n)

  pub number_read : n < 2 ^ k → number_from (front ++ ((number_bits k n ++ more) ++ tail)) (length front) k ≡ n
  number_read h =
      ap (λ j. number_from (front ++ ((number_bits k n ++ more) ++ tail)) j k) (let none : length front ≡ length front + 0 = omega arith in none)
      ∙ number_skip front ((number_bits k n ++ more) ++ tail) 0 k
      ∙ ap (λ ls. number_from ls 0 k) (append_assoc (number_bits k n) more tail)
      ∙ number_here (number_bits k n) (more ++ tail) k (length_number_bits k n)
      ∙ number_spelled k n h

length_piece : (ls : List Level) (n k : ℕ) → n + k ≤ length ls → length (take k (drop n ls)) ≡ k
length_piece ls n k h = omega (arith, length-take k (drop n ls), length-drop n ls)

-- what is read spells what stands there
pub number_spells : (ls : List Level) (n k : ℕ) → n + k ≤ length ls → number_bits k (number_from ls n k) ≡ take k (drop n ls)
number_spells ls n k h =
    ap (λ j. number_bits j (number_from ls n k)) (sym (length_piece ls n k h)) ∙ bits_back (take k (drop n ls))

-- One bit.

pub one_bit_back : (b : Bool) → (one_bit b == 1) ≡ b
one_bit_back true = refl
one_bit_back false = refl

pub one_bit_small : (b : Bool) → one_bit b < 2
one_bit_small true = omega arith
one_bit_small false = omega arith

pub bit_back : (n : ℕ) → n < 2 → one_bit (n == 1) ≡ n
bit_back zero h = refl
bit_back (suc zero) h = refl
bit_back (suc (suc n)) h = absurd (omega arith)

pub no_bit : (n : ℕ) → n < 2 → (n == 1) ≡ false → n ≡ 0
no_bit zero h e = refl
no_bit (suc zero) h e = cc
no_bit (suc (suc n)) h e = absurd (omega arith)

-- a bit that is read is the level there, or dominant after the end
pub bit_read : (ls : List Level) (n : ℕ) → number_from ls n 1 ≡ one_bit (bit_of_level (get_or ls n Dominant))
bit_read [] zero = refl
bit_read [] (suc n) = refl
bit_read (Dominant ∷ ls) zero = refl
bit_read (Recessive ∷ ls) zero = refl
bit_read (l ∷ ls) (suc n) = bit_read ls n

-- Tables.

-- the numbers in the fields of a table whose first one stands at a place
abbrev pub values_from : ℕ → List Field → List Level → List ℕ
values_from place [] ls = []
values_from place (f ∷ fs) ls = number_from ls place f.width ∷ values_from (place + f.width) fs ls

-- there is a number for each field, which fits it
abbrev pub Fit : List Field → List ℕ → Type 0
Fit [] values = values ≡ []
Fit (f ∷ fs) [] = ⊥
Fit (f ∷ fs) (n ∷ values) = (n < 2 ^ f.width) × Fit fs values

pub length_spelled : (fs : List Field) (values : List ℕ) → Fit fs values → length (field_bits fs values) ≡ width_of fs
length_spelled [] values h = refl
length_spelled (f ∷ fs) [] h = absurd h
length_spelled (f ∷ fs) (n ∷ values) h =
    length-append (number_bits f.width n) (field_bits fs values) ∙ omega (arith, length_number_bits f.width n, length_spelled fs values h.1)

-- fields that were spelled after a front
pub fields_spelled : (front tail : List Level) (fs : List Field) (values : List ℕ) → Fit fs values
    → values_from (length front) fs (front ++ (field_bits fs values ++ tail)) ≡ values
fields_spelled front tail [] values h = sym h
fields_spelled front tail (f ∷ fs) [] h = absurd h
fields_spelled front tail (f ∷ fs) (n ∷ values) h =
    ap (λ m. m ∷ values_from (length front + f.width) fs (front ++ ((number_bits f.width n ++ field_bits fs values) ++ tail)))
    (number_read front (field_bits fs values) tail f.width n h.0)
    ∙ ap (λ ls. n ∷ values_from (length front + f.width) fs ls) (number_regrouped front (field_bits fs values) tail f.width n)
    ∙ ap (λ m. n ∷ values_from m fs ((front ++ number_bits f.width n) ++ (field_bits fs values ++ tail))) (sym (number_length front (field_bits fs values) tail f.width n))
    ∙ ap (λ ns. n ∷ ns) (fields_spelled (front ++ number_bits f.width n) tail fs values h.1)

-- a list that is read by widths is spelled by what was read
pub fields_spell : (ls : List Level) (place : ℕ) (fs : List Field) → place + width_of fs ≤ length ls
    → field_bits fs (values_from place fs ls) ≡ take (width_of fs) (drop place ls)
fields_spell ls place [] h = refl
fields_spell ls place (f ∷ fs) h =
    ap (λ bs. bs ++ field_bits fs (values_from (place + f.width) fs ls)) (number_spells ls place f.width (omega arith))
    ∙ ap (λ bs. take f.width (drop place ls) ++ bs) (fields_spell ls (place + f.width) fs (omega arith))
    ∙ ap (λ rest. take f.width (drop place ls) ++ take (width_of fs) rest) (sym (drop-drop f.width place ls))
    ∙ sym (take-add f.width (width_of fs) (drop place ls))
