-- The text at worked examples.
use Rattle.std.specs.Prelude.{◌≡◌, ℕ, ◌^◌, [], ◌∷◌, ◌++◌, codes, length, refl}
use Rattle.std.specs.Fmt.{digits}
use Rattle.std.proofs.Common.{arith}
use Rattle.wl_record_core.specs.declared.record.Record.TheVariants.{Edge, Clash, Silence}
use Rattle.wl_record.specs.Limits.{most_line, most_record_bytes}
use Rattle.wl_record_core.specs.Text.{text_of, words_of}
use Rattle.wl_record.specs.Grammar.{IsNumber, Spells}

-- the longest numbers of an edge
longest : words_of (Edge 15 262144 281474976710655) ≡ codes "E 15 262144 281474976710655"
unfolding digits
longest = refl

-- and their length
longest_length : length (codes "E 15 262144 281474976710655") ≡ 27
longest_length = refl

-- and those of an edge that is within the wide limits alone
longest_wide : words_of (Edge 63 268435456 281474976710655) ≡ codes "E 63 268435456 281474976710655"
unfolding digits
longest_wide = refl

two_lines : text_of (Clash 0 0 ∷ Silence 1 0 9 ∷ []) ≡ codes "C 0 0" ++ 10 ∷ codes "S 1 0 9" ++ 10 ∷ []
unfolding digits
two_lines = refl

-- zero and five are numbers as they are
zero_is_a_number : IsNumber (codes "0") 0
zero_is_a_number = record { digits = (omega arith, (omega arith, tt)); plain = λ _. refl; value = refl }

five_is_a_number : IsNumber (codes "5") 5
five_is_a_number = record { digits = (omega arith, (omega arith, tt)); plain = λ _. refl; value = refl }

-- a zero before another digit is none
no_leading_zero : (n : ℕ) → ¬ (IsNumber (codes "00") n)
no_leading_zero n h = let one : 2 ≡ 1 = h.plain refl in omega (arith, one)

edge_line : Spells (codes "E 0 0 5") (Edge 0 0 5)
edge_line = (codes " 0 0 5", refl, (codes "0", codes " 0 5", zero_is_a_number, refl, (codes "0", codes " 5", zero_is_a_number, refl, (codes "5", [], five_is_a_number, refl, refl))))

line_is : most_line ≡ 40
unfolding most_line
line_is = refl

bytes_are : most_record_bytes ≡ 2 ^ 27
unfolding most_record_bytes
bytes_are = refl
