-- Words parted at a byte.
use Rattle.std.proofs.Common.{◌≤◌, ◌^◌, Bool, true, false, Result, Ok, Err, get_or, ◌≡◌, ◌≢◌, ◌∷◌, [], refl, ◌∙◌, ◌<◌, ap, sym, arith, cond, eqb, ℕ, List, length, Option, Some, None, option_map, MatchOption, Bor}
use Rattle.std.specs.List.{position_or_len, before_first, after_first}
use Rattle.std.proofs.lemmas.Bool.{lt-ltb, le-ltb}
use Rattle.std.proofs.lemmas.Str.Pattern.{IsSplitOnceResult, split_once_first}
use Rattle.std.proofs.lemmas.Bool.{and_parts, eq-eqb, eqb-false, le-leb, leb-true, ne_eqb, not-true, true≢false}
use Rattle.std.specs.Prelude.{◌==◌, ◌&&◌, not, nat_le, is_some}
use Rattle.std.specs.Str.{all_ascii_digits}
use Rattle.std.specs.Str.Parse.{digits_value, ParsesUnsigned}
use Rattle.std.proofs.lemmas.Str.Parse.{IsNumeralModel, numerals_by_value, tells_all_ascii_digits, parse_plain}
use Rattle.std.specs.Cmp.Derive.{both_true}
use Rattle.std.specs.Prelude.{ℤ, ◌/◌, ◌-ℤ◌, int_lt, max, unsigned_abs}
use Rattle.wl_setup.specs.declared.limits.TheConstants.{LARGEST_NUMBER}
use Rattle.wl_sweep.specs.declared.change.SweptKey.{SweptKey}
use Rattle.wl_sweep.specs.declared.vary.Ends.{Ends}
use Rattle.wl_sweep.specs.declared.vary.RangeFault.{RangeFault}
use Rattle.wl_sweep.specs.declared.vary.RangeFault.TheVariants as fault
use Rattle.wl_sweep.specs.Vary.{after, after_byte, few_values, is_size, parted, size_of, step_of, takes, values_of}

module _ (at : ℕ) (text : List ℕ) where
  by_first : (r : Option (Bor (List ℕ) × Bor (List ℕ)))
      → MatchOption r (position_or_len (λ (b : ℕ). eqb b at) text ≡ length text)
      (λ x. (position_or_len (λ (b : ℕ). eqb b at) text < length text) × (x.0.now ≡ before_first (λ (b : ℕ). eqb b at) text) × (x.1.now ≡ after_first (λ (b : ℕ). eqb b at) text))
      → option_map (λ (p : Bor (List ℕ) × Bor (List ℕ)). (p.0.now, p.1.now)) r ≡ parted at text
  by_first None h =
      sym (ap (λ b. cond b (Some (before_first (λ (b : ℕ). eqb b at) text, after_first (λ (b : ℕ). eqb b at) text)) None)
      (le-ltb (position_or_len (λ (b : ℕ). eqb b at) text) (length text) (omega (arith, h))))
  by_first (Some x) h =
      (λ i. Some (h.1 i, h.2 i))
      ∙ sym (ap (λ b. cond b (Some (before_first (λ (b : ℕ). eqb b at) text, after_first (λ (b : ℕ). eqb b at) text)) None)
      (lt-ltb (position_or_len (λ (b : ℕ). eqb b at) text) (length text) h.0))

  pub parted_is : (r : Option (Bor (List ℕ) × Bor (List ℕ))) → IsSplitOnceResult at text r → at < 128
      → option_map (λ (p : Bor (List ℕ) × Bor (List ℕ)). (p.0.now, p.1.now)) r ≡ parted at text
  parted_is r h ascii = by_first r (split_once_first at text r h ascii)

-- a text after its first byte, by what a search for that in front answers
pub after_is : (at : ℕ) (text : List ℕ) (r : Option (Bor (List ℕ))) → MatchOption r ((rest : List ℕ) → text ≢ at ∷ rest) (λ x. text ≡ at ∷ x.now)
    → option_map (λ (x : Bor (List ℕ)). x.now) r ≡ after_byte at text
after_is at [] None h = refl
after_is at (c ∷ cs) None h =
    sym (ap (λ b. cond b (Some cs) None) (ne_eqb c at (λ e. h cs (ap (λ (k : ℕ). k ∷ cs) e))))
after_is at text (Some x) h = sym (ap (after_byte at) h ∙ ap (λ b. cond b (Some x.now) None) (eq-eqb at at refl))

-- digits and their number
own : IsNumeralModel (λ (ds : List ℕ). all_ascii_digits ds ≡ true) (digits_value 10)
own = numerals_by_value (λ (ds : List ℕ). all_ascii_digits ds ≡ true) tells_all_ascii_digits

none_some : {T : Type 0} (x : T) → None ≡ Some x → ⊥
none_some x e = absurd (cc)

-- a text that doesn't begin with a plus
pub no_plus : (text : List ℕ) (r : Option (Bor (List ℕ))) → option_map (λ (x : Bor (List ℕ)). x.now) r ≡ after_byte 43 text → is_some r ≡ false → get_or text 0 0 ≢ 43
no_plus [] r h none e = absurd (omega (arith, e))
no_plus (c ∷ cs) None h none e = none_some cs (h ∙ ap (λ b. cond b (Some cs) None) (eq-eqb c 43 e))
no_plus (c ∷ cs) (Some x) h none e = absurd (true≢false none)

size_here : (text : List ℕ) (b : Bool) → is_size text ≡ b → size_of text ≡ cond b (Some (digits_value 10 text)) None
size_here text b is = ap (λ c. cond c (Some (digits_value 10 text)) None) is

is_size_true : (text : List ℕ) → all_ascii_digits text ≡ true → 0 < length text → digits_value 10 text ≤ LARGEST_NUMBER → is_size text ≡ true
is_size_true text digits some few =
    both_true (both_true (ap not (ne_eqb (length text) 0 (omega arith))) digits) (le-leb (digits_value 10 text) LARGEST_NUMBER few)

pub size_parsed : (text : List ℕ) (n : ℕ) → get_or text 0 0 ≢ 43 → ParsesUnsigned {E = ℕ} 64 10 text (Ok n) → n ≤ LARGEST_NUMBER → Some n ≡ size_of text
size_parsed text n plain h few =
    let p = parse_plain own {E = ℕ} 64 text (Ok n) h plain in
    let same : n ≡ digits_value 10 text = p.1 in
    ap (λ (k : ℕ). Some k) same ∙ sym (size_here text true (is_size_true text p.0.0 p.0.1 (omega (arith, same))))

none_by : (text : List ℕ) → ((all_ascii_digits text ≡ true) × (0 < length text) × (digits_value 10 text < 2 ^ 64) → ⊥) → (b : Bool) → is_size text ≡ b → None ≡ size_of text
none_by text none true is =
    let parts = and_parts (not (length text == 0) && all_ascii_digits text) (nat_le (digits_value 10 text) LARGEST_NUMBER) is in
    let front = and_parts (not (length text == 0)) (all_ascii_digits text) parts.0 in
    let some = eqb-false (length text) 0 (not-true (length text == 0) front.0) in
    let few = leb-true (digits_value 10 text) LARGEST_NUMBER parts.1 in
    absurd (none (front.1, omega (arith, some), omega (arith, few)))
none_by text none false is = sym (size_here text false is)

pub no_size_parsed : (E : Type 0) (text : List ℕ) (e : E) → get_or text 0 0 ≢ 43 → ParsesUnsigned {E = E} 64 10 text (Err e) → None ≡ size_of text
no_size_parsed E text e plain h = none_by text (parse_plain own {E = E} 64 text (Err e) h plain) (is_size text) refl

-- the values of a range whose step is known
pub values_read : (k : SweptKey) (ends : Ends) (distance given step : ℕ) → (takes k ends.low && takes k ends.high) ≡ true → int_lt ends.high ends.low ≡ false
    → distance ≡ unsigned_abs (ends.high -ℤ ends.low) → step_of distance ends.step ≡ Ok given → step ≡ max given 1
    → values_of k ends ≡ few_values ends.low step (distance / step)
values_read k ends distance given step taken ordered far read is =
    let d = unsigned_abs (ends.high -ℤ ends.low) in
    let make : ℕ → Result (List ℤ) RangeFault = λ s. few_values ends.low (max s 1) (d / max s 1) in
    ap (λ b. cond (not b) (Err fault.Bounds) (cond (int_lt ends.high ends.low) (Err fault.Order) (after (step_of d ends.step) make))) taken
    ∙ ap (λ b. cond b (Err fault.Order) (after (step_of d ends.step) make)) ordered
    ∙ ap (λ r. after r make) (ap (λ (n : ℕ). step_of n ends.step) (sym far) ∙ read)
    ∙ (λ i. few_values ends.low (sym is i) (sym far i / sym is i))
