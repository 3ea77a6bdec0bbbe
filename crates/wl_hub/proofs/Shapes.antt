-- Which slots have a word, and where.
use Rattle.std.proofs.Common.{◌≡◌, ◌<◌, ◌+◌, ◌↔◌, ℕ, zero, suc, List, [], ◌∷◌, Option, length, get_or, nat_lt, true, sum, sym, ap, ◌∙◌, arith, refl, inl, inr}
use Rattle.std.proofs.Math.ListN.{set}
use Rattle.std.proofs.lemmas.Bool.{cases_eq, ltb-true, lt-ltb}
use Rattle.std.specs.Prelude.{Some, slice_index, unwrap_or}
use Rattle.std.proofs.lemmas.Bool.Decides.{nat_tests}
use Rattle.std.proofs.lemmas.List.{get_or-set_same, get_or-set_other}
use Rattle.std.proofs.lemmas.List.Sums.{sum_by-cons}
use Rattle.wl_record_core.specs.declared.record.Slot.{Slot}
use Rattle.wl_record_core.specs.declared.record.Slot.TheVariants.{EdgeAt, SilenceAt}
use Rattle.wl_hub.specs.Words.{edge_widths, silence_widths, HasWord}
use Rattle.wl_hub.specs.Places.{place, beyond, first_word, AreFirsts}
use Rattle.wl_hub.proofs.Apart.{small_place, beyond_some}

first_place : (ws : List ℕ) (w s : ℕ) → s < w → place (w ∷ ws) zero s ≡ Some s
first_place ws w s h = grind (arith, nat_tests)

pub has_place : (ws : List ℕ) (n s : ℕ) → s < slice_index ws n → (k : ℕ) × (place ws n s ≡ Some k)
has_place [] n s h = absurd (omega (arith, h))
has_place (w ∷ ws) zero s h = (s, first_place ws w s h)
has_place (w ∷ ws) (suc n) s h = let p = has_place ws n s h in (w + p.0, ap (beyond w) p.1)

pub place_below : (ws : List ℕ) (n s k : ℕ) → place ws n s ≡ Some k → k < sum ws
place_below [] n s k h = cc
place_below (w ∷ ws) zero s k h = let p = small_place ws w s k h in let all : sum (w ∷ ws) ≡ w + sum ws = sum_by-cons (λ x. x) w ws in omega (arith, p.0, p.1, all)
place_below (w ∷ ws) (suc n) s k h =
    let p = beyond_some w k (place ws n s) h in
    let q = place_below ws n s p.0 p.1 in
    let all : sum (w ∷ ws) ≡ w + sum ws = sum_by-cons (λ x. x) w ws in
    omega (arith, p.2, q, all)

-- a slot has a word if its number is below those of the node
pub has_edge : (shape view : List (ℕ × ℕ)) (slot : Slot) (n s words : ℕ) → view ≡ shape → slot ≡ EdgeAt n s → words ≡ slice_index (edge_widths view) n → (nat_lt s words ≡ true) ↔ HasWord shape slot
has_edge shape view slot n s words e is at =
    let many : words ≡ slice_index (edge_widths shape) n = at ∙ ap (λ (l : List (ℕ × ℕ)). slice_index (edge_widths l) n) e in
    rw is (λ t. (let lt = ltb-true s words t in omega (arith, lt, many)), λ lt. lt-ltb s words (omega (arith, lt, many)))

pub has_silence : (shape view : List (ℕ × ℕ)) (slot : Slot) (n s words : ℕ) → view ≡ shape → slot ≡ SilenceAt n s → words ≡ slice_index (silence_widths view) n → (nat_lt s words ≡ true) ↔ HasWord shape slot
has_silence shape view slot n s words e is at =
    let many : words ≡ slice_index (silence_widths shape) n = at ∙ ap (λ (l : List (ℕ × ℕ)). slice_index (silence_widths l) n) e in
    rw is (λ t. (let lt = ltb-true s words t in omega (arith, lt, many)), λ lt. lt-ltb s words (omega (arith, lt, many)))

-- ---- the places of a node's words, by that of its first one

first_is : (o : Option ℕ) (k : ℕ) → o ≡ Some k → unwrap_or o 0 ≡ k
first_is o k h = rw h refl

pub from_first : (ws : List ℕ) (n s : ℕ) → s < slice_index ws n → place ws n s ≡ Some (first_word ws n + s)
from_first [] n s h = absurd (omega (arith, h))
from_first (w ∷ ws) zero s h =
    let none : first_word (w ∷ ws) zero ≡ 0 = first_is (place (w ∷ ws) zero 0) 0 (first_place ws w 0 (omega (arith, h))) in
    first_place ws w s h ∙ ap Some (let e : s ≡ first_word (w ∷ ws) zero + s = omega (arith, none) in e)
from_first (w ∷ ws) (suc n) s h =
    let p = has_place ws n 0 (omega (arith, h)) in
    let here : first_word ws n ≡ p.0 = first_is (place ws n 0) p.0 p.1 in
    let there : first_word (w ∷ ws) (suc n) ≡ w + p.0 = first_is (beyond w (place ws n 0)) (w + p.0) (ap (beyond w) p.1) in
    ap (beyond w) (from_first ws n s h) ∙ ap Some (let e : w + (first_word ws n + s) ≡ first_word (w ∷ ws) (suc n) + s = omega (arith, here, there) in e)

-- one more of them
pub one_more_first : (ws firsts : List ℕ) (i first : ℕ) → i < length firsts → first ≡ first_word ws i
    → ((n : ℕ) → n < i → slice_index firsts n ≡ first_word ws n) → (n : ℕ) → n < i + 1 → slice_index (set firsts i first) n ≡ first_word ws n
one_more_first ws firsts i first b is before n less = elim (cases_eq n i) [
  | inl same ↦ ap (λ m. get_or (set firsts i first) m 0) same ∙ (get_or-set_same firsts i first 0 b ∙ (is ∙ ap (first_word ws) (sym same)))
  | inr other ↦ get_or-set_other firsts i n first 0 other ∙ before n (omega (arith, less, other))
]

-- the word of a slot, by the first one of its node
pub placed : (ws firsts : List ℕ) (n s : ℕ) → AreFirsts ws firsts → n < 256 → s < slice_index ws n → place ws n s ≡ Some (slice_index firsts n + s)
placed ws firsts n s are b lt = from_first ws n s lt ∙ ap (λ first. Some (first + s)) (sym (are.each n b))
