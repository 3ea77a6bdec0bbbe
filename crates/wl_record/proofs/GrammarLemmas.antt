-- Numbers, fields and lines: one way to write each, and one way to read it.
use Rattle.std.specs.Prelude.{◌≡◌, ◌≢◌, ℕ, ◌+◌, ◌^◌, ◌<◌, ◌≤◌, List, [], ◌∷◌, ◌++◌, length, refl}
use Rattle.std.specs.List.{AllByRecursion, flat_map}
use Rattle.std.specs.Fmt.{decimal}
use Rattle.std.specs.Char.{digit_value}
use Rattle.std.specs.Str.Parse.{AllDigits, digits_value}
use Rattle.std.proofs.Common.{rules, inl, inr, sym, ap, ◌∙◌, subst, arith, length-append, append_assoc}
use Rattle.std.proofs.lemmas.Fmt.{decimal_is_IsNumeral, decimal_digit, first_decimal, decimal-digits_value, length-decimal-le}
use Rattle.std.proofs.lemmas.Str.Parse.{numerals_by_value, IsNumeralModel}
use Rattle.std.proofs.lemmas.Bool.Decides.{eqb_tells}
use Rattle.std.proofs.lemmas.List.{append-nil}
use Rattle.wl_limits.specs.declared.Limits.{Limits}
use Rattle.wl_limits.specs.declared.Limits.TheVariants.{Narrow, Wide}
use Rattle.wl_record_core.specs.declared.record.Record.{Record}
use Rattle.wl_record_core.specs.declared.record.Record.TheVariants.{Edge, Clash, Silence}
use Rattle.wl_record.specs.Limits.{most_line, most_line-is}
use Rattle.wl_record_core.specs.Limits.{record_nodes, record_edges, most_nodes-is, most_edges-is, text_nodes-is, text_edges-is, tick_end, tick_end-is}
use Rattle.wl_record_core.specs.Within.{IsWithinBy}
use Rattle.wl_record_core.specs.Text.{words_of, text_of}
use Rattle.wl_record.specs.Grammar.{IsNumber, Fields, letter_of, numbers_of, Spells, Lines}
use Rattle.wl_record.specs.Faults.{HasNoNewline}
use Rattle.wl_record.specs.Parsing.{Stops}

-- ---- where a number stops
pub digits_split : (x y more others : List ℕ) → AllDigits 10 x → AllDigits 10 y → Stops more → Stops others → x ++ more ≡ y ++ others → (x ≡ y) × (more ≡ others)
digits_split [] [] more others dx dy s t e = (refl, e)
digits_split [] (d ∷ y) more others dx dy s t e = let stops : Stops (d ∷ (y ++ others)) = subst Stops e s in absurd (omega (arith, stops, dy.0))
digits_split (c ∷ x) [] more others dx dy s t e = let stops : Stops (c ∷ (x ++ more)) = subst Stops (sym e) t in absurd (omega (arith, stops, dx.0))
digits_split (c ∷ x) (d ∷ y) more others dx dy s t e =
    let head : c ≡ d = cc in
    let tail : x ++ more ≡ y ++ others = cc in
    let both = digits_split x y more others dx.1 dy.1 s t tail in
    ((λ i. head i ∷ both.0 i), both.1)

pub fields_stop : (text ns : List ℕ) → Fields text ns → Stops text
fields_stop text [] h = subst Stops (sym h) tt
fields_stop text (n ∷ ns) h = subst Stops (sym h.3) (omega arith)

-- ---- one way to read fields
pub fields_agree : (text ns ms : List ℕ) → Fields text ns → Fields text ms → ns ≡ ms
fields_agree text [] [] h g = refl
fields_agree text [] (m ∷ ms) h g = let e : [] ≡ 32 ∷ (g.0 ++ g.1) = sym h ∙ g.3 in absurd (cc)
fields_agree text (n ∷ ns) [] h g = let e : [] ≡ 32 ∷ (h.0 ++ h.1) = sym g ∙ h.3 in absurd (cc)
fields_agree text (n ∷ ns) (m ∷ ms) h g =
    let e : 32 ∷ (h.0 ++ h.1) ≡ 32 ∷ (g.0 ++ g.1) = sym h.3 ∙ g.3 in
    let tails : h.0 ++ h.1 ≡ g.0 ++ g.1 = cc in
    let both = digits_split h.0 g.0 h.1 g.1 h.2.digits.1 g.2.digits.1 (fields_stop h.1 ns h.4) (fields_stop g.1 ms g.4) tails in
    let first : n ≡ m = sym h.2.value ∙ (ap (digits_value 10) both.0 ∙ g.2.value) in
    let others : ns ≡ ms = fields_agree g.1 ns ms (subst (λ z. Fields z ns) both.1 h.4) g.4 in
    (λ i. first i ∷ others i)

-- ---- no newline in a line
digit_is_no_newline : (c : ℕ) → digit_value c < 10 → c ≢ 10
digit_is_no_newline c d e = let bad : digit_value 10 < 10 = subst (λ z. digit_value z < 10) e d in absurd (omega (arith, bad))

pub digits_one_line : (x : List ℕ) → AllDigits 10 x → HasNoNewline x
digits_one_line [] d = tt
digits_one_line (c ∷ x) d = (digit_is_no_newline c d.0, digits_one_line x d.1)

pub one_line_append : (x y : List ℕ) → HasNoNewline x → HasNoNewline y → HasNoNewline (x ++ y)
one_line_append [] y h g = g
one_line_append (c ∷ x) y h g = (h.0, one_line_append x y h.1 g)

fields_one_line : (text ns : List ℕ) → Fields text ns → HasNoNewline text
fields_one_line text [] h = subst HasNoNewline (sym h) tt
fields_one_line text (n ∷ ns) h = subst HasNoNewline (sym h.3) ((λ e. omega (arith, e)), one_line_append h.0 h.1 (digits_one_line h.0 h.2.digits.1) (fields_one_line h.1 ns h.4))

letter_is_no_newline : (r : Record) → letter_of r ≢ 10
letter_is_no_newline (Edge node seq tick) e = omega (arith, e)
letter_is_no_newline (Clash node seq) e = omega (arith, e)
letter_is_no_newline (Silence node count until) e = omega (arith, e)

pub spelled_one_line : (line : List ℕ) (r : Record) → Spells line r → HasNoNewline line
spelled_one_line line r h = subst HasNoNewline (sym h.1) (letter_is_no_newline r, fields_one_line h.0 (numbers_of r) h.2)

-- ---- one record of a line
pub spelled_once : (line : List ℕ) (r q : Record) → Spells line r → Spells line q → r ≡ q
spelled_once line r q h g =
    let e : letter_of r ∷ h.0 ≡ letter_of q ∷ g.0 = sym h.1 ∙ g.1 in
    let letters : letter_of r ≡ letter_of q = cc in
    let tails : h.0 ≡ g.0 = cc in
    by_numbers r q letters (fields_agree g.0 (numbers_of r) (numbers_of q) (subst (λ z. Fields z (numbers_of r)) tails h.2) g.2)
  where
    by_numbers : (r q : Record) → letter_of r ≡ letter_of q → numbers_of r ≡ numbers_of q → r ≡ q
    by_numbers (Edge a b c) (Edge x y z) l e = let ea : a ≡ x = cc in let eb : b ≡ y = cc in let ec : c ≡ z = cc in (λ i. Edge (ea i) (eb i) (ec i))
    by_numbers (Edge a b c) (Clash x y) l e = absurd (omega (arith, l))
    by_numbers (Edge a b c) (Silence x y z) l e = absurd (omega (arith, l))
    by_numbers (Clash a b) (Edge x y z) l e = absurd (omega (arith, l))
    by_numbers (Clash a b) (Clash x y) l e = let ea : a ≡ x = cc in let eb : b ≡ y = cc in (λ i. Clash (ea i) (eb i))
    by_numbers (Clash a b) (Silence x y z) l e = absurd (omega (arith, l))
    by_numbers (Silence a b c) (Edge x y z) l e = absurd (omega (arith, l))
    by_numbers (Silence a b c) (Clash x y) l e = absurd (omega (arith, l))
    by_numbers (Silence a b c) (Silence x y z) l e = let ea : a ≡ x = cc in let eb : b ≡ y = cc in let ec : c ≡ z = cc in (λ i. Silence (ea i) (eb i) (ec i))

-- ---- what is written
pub own : IsNumeralModel (AllDigits 10) (digits_value 10)
own = numerals_by_value (AllDigits 10) (search rules)

pub number_is_decimal : (x : List ℕ) (n : ℕ) → IsNumber x n → n < 2 ^ 64 → x ≡ decimal n
number_is_decimal x n h small = sym (sym (ap decimal h.value) ∙ decimal-digits_value own x h.digits.1 h.digits.0 h.plain (subst (λ z. z < 2 ^ 64) (sym h.value) small))

pub decimal_is_number : (n : ℕ) → n < 2 ^ 64 → IsNumber (decimal n) n
decimal_is_number n small = record {
  digits = (decimal_is_IsNumeral n small).0;
  plain = elim (eqb_tells n 0) [
    | inl z ↦ λ _. ap length (ap decimal z.1 ∙ decimal_digit 0 (omega arith))
    | inr s ↦ λ e. absurd (let some : 0 < n = omega (arith, s.1) in let first = first_decimal n some small in omega (arith, first, e))
  ];
  value = (decimal_is_IsNumeral n small).1;
}

-- a space and the decimals of each
abbrev pub written : List ℕ → List ℕ
written ns = flat_map (λ n. 32 ∷ decimal n) ns

abbrev pub AllSmall : List ℕ → Type 0
AllSmall ns = AllByRecursion (λ n. n < 2 ^ 64) ns

fields_are_written : (text ns : List ℕ) → AllSmall ns → Fields text ns → text ≡ written ns
fields_are_written text [] s h = h
fields_are_written text (n ∷ ns) s h =
    let first : h.0 ≡ decimal n = number_is_decimal h.0 n h.2 s.0 in
    let others : h.1 ≡ written ns = fields_are_written h.1 ns s.1 h.4 in
    h.3 ∙ (λ i. 32 ∷ (first i ++ others i))

written_are_fields : (ns : List ℕ) → AllSmall ns → Fields (written ns) ns
written_are_fields [] s = refl
written_are_fields (n ∷ ns) s = (decimal n, written ns, decimal_is_number n s.0, refl, written_are_fields ns s.1)

pub words_are_written : (r : Record) → words_of r ≡ letter_of r ∷ written (numbers_of r)
words_are_written (Edge a b c) = ap (λ z. 69 ∷ 32 ∷ z) (append_assoc (decimal a) (32 ∷ decimal b) (32 ∷ decimal c) ∙ ap (λ z. decimal a ++ (32 ∷ (decimal b ++ (32 ∷ z)))) (sym (append-nil (decimal c))))
words_are_written (Clash a b) = ap (λ z. 67 ∷ 32 ∷ (decimal a ++ (32 ∷ z))) (sym (append-nil (decimal b)))
words_are_written (Silence a b c) = ap (λ z. 83 ∷ 32 ∷ z) (append_assoc (decimal a) (32 ∷ decimal b) (32 ∷ decimal c) ∙ ap (λ z. decimal a ++ (32 ∷ (decimal b ++ (32 ∷ z)))) (sym (append-nil (decimal c))))

pub few_nodes : (limits : Limits) → record_nodes limits ≤ 64
few_nodes Narrow = omega (arith, text_nodes-is)
few_nodes Wide = omega (arith, most_nodes-is)

pub few_edges : (limits : Limits) → record_edges limits ≤ 268435457
few_edges Narrow = omega (arith, text_edges-is)
few_edges Wide = omega (arith, most_edges-is)

within_small : (limits : Limits) (r : Record) → IsWithinBy limits r → AllSmall (numbers_of r)
within_small limits (Edge a b c) h = (omega (arith, h.0, few_nodes limits), (omega (arith, h.1, few_edges limits), (omega (arith, h.2, tick_end-is), tt)))
within_small limits (Clash a b) h = (omega (arith, h.0, few_nodes limits), (omega (arith, h.1, few_edges limits), tt))
within_small limits (Silence a b c) h = (omega (arith, h.0, few_nodes limits), (omega (arith, h.1, few_edges limits), (omega (arith, h.2, tick_end-is), tt)))

pub spelled_is_written : (limits : Limits) (line : List ℕ) (r : Record) → IsWithinBy limits r → Spells line r → line ≡ words_of r
spelled_is_written limits line r w h = h.1 ∙ (ap (λ z. letter_of r ∷ z) (fields_are_written h.0 (numbers_of r) (within_small limits r w) h.2) ∙ sym (words_are_written r))

pub written_is_spelled : (limits : Limits) (line : List ℕ) (r : Record) → IsWithinBy limits r → line ≡ words_of r → Spells line r
written_is_spelled limits line r w e = (written (numbers_of r), e ∙ words_are_written r, written_are_fields (numbers_of r) (within_small limits r w))

-- ---- a line that is within is short
length_three : (a b c k l m : ℕ) → length (decimal a) ≤ k → length (decimal b) ≤ l → length (decimal c) ≤ m → length (written (a ∷ b ∷ c ∷ [])) ≤ k + l + m + 3
length_three a b c k l m ha hb hc = omega (arith, length-append (decimal a) (32 ∷ (decimal b ++ (32 ∷ (decimal c ++ [])))), length-append (decimal b) (32 ∷ (decimal c ++ [])), length-append (decimal c) [])

length_two : (a b k l : ℕ) → length (decimal a) ≤ k → length (decimal b) ≤ l → length (written (a ∷ b ∷ [])) ≤ k + l + 2
length_two a b k l ha hb = omega (arith, length-append (decimal a) (32 ∷ (decimal b ++ [])), length-append (decimal b) [])

node_digits : (limits : Limits) (n : ℕ) → n < record_nodes limits → length (decimal n) ≤ 2
node_digits limits n h = length-decimal-le 2 n (omega arith) (omega (arith, h, few_nodes limits)) (omega (arith, h, few_nodes limits))

place_digits : (limits : Limits) (n : ℕ) → n ≤ record_edges limits → length (decimal n) ≤ 9
place_digits limits n h = length-decimal-le 9 n (omega arith) (omega (arith, h, few_edges limits)) (omega (arith, h, few_edges limits))

tick_digits : (n : ℕ) → n < tick_end → length (decimal n) ≤ 15
tick_digits n h = length-decimal-le 15 n (omega arith) (omega (arith, h, tick_end-is)) (omega (arith, h, tick_end-is))

-- less than a line may have
pub words_short : (limits : Limits) (r : Record) → IsWithinBy limits r → length (words_of r) < 31
words_short limits (Edge a b c) w = omega (arith, ap length (words_are_written (Edge a b c)), length_three a b c 2 9 15 (node_digits limits a w.0) (place_digits limits b (omega (arith, w.1))) (tick_digits c w.2))
words_short limits (Clash a b) w = omega (arith, ap length (words_are_written (Clash a b)), length_two a b 2 9 (node_digits limits a w.0) (place_digits limits b (omega (arith, w.1))))
words_short limits (Silence a b c) w = omega (arith, ap length (words_are_written (Silence a b c)), length_three a b c 2 9 15 (node_digits limits a w.0) (place_digits limits b w.1) (tick_digits c w.2))

pub spelled_short : (limits : Limits) (line : List ℕ) (r : Record) → IsWithinBy limits r → Spells line r → length line ≤ most_line
spelled_short limits line r w h = omega (arith, ap length (spelled_is_written limits line r w h), words_short limits r w, most_line-is)

pub lines_are_text : (limits : Limits) (text : List ℕ) (rs : List Record) → Lines text rs → AllByRecursion (IsWithinBy limits) rs → text ≡ text_of rs
lines_are_text limits text [] h w = h
lines_are_text limits text (r ∷ rs) h w =
    let line : h.0 ≡ words_of r = spelled_is_written limits h.0 r w.0 h.2 in
    let more : h.1 ≡ text_of rs = lines_are_text limits h.1 rs h.4 w.1 in
    h.3 ∙ ((λ i. line i ++ (10 ∷ more i)) ∙ sym (append_assoc (words_of r) (10 ∷ []) (text_of rs)))
