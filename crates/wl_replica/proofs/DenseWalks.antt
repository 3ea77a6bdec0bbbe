-- A walk over the rows of one node, number by number.
use Rattle.std.proofs.Common.{◌≡◌, ℕ, zero, suc, ◌+◌, ◌-◌, ◌<◌, ◌≤◌, max, true, false, List, [], ◌∷◌, length, Option, refl, ◌∙◌, ap, subst, arith}
use Rattle.wl_lattice.specs.declared.FlatWord.{FlatWord}
use Rattle.wl_lattice.specs.declared.FlatWord.TheVariants as flat
use Rattle.wl_replica.specs.Known.{is_tick, tick_in, longest_promise, ticks_from}
use Rattle.wl_replica.specs.Dense.{row_number, edges_of_row}
use Rattle.wl_lattice.specs.Numbers.{number_word}
use Rattle.wl_replica.proofs.WaveLemmas.{IsMade}

-- past its end a row holds nothing
pub number_past : (row : List ℕ) (n : ℕ) → length row ≤ n → row_number row n ≡ 0
number_past [] n h = refl
number_past (a ∷ row) zero h = absurd (omega arith)
number_past (a ∷ row) (suc n) h = number_past row n (omega arith)

pub none_past_end : (row : List ℕ) (n : ℕ) → n ≡ length row → is_tick (edges_of_row row n) ≡ false
none_past_end row n h = ap (λ a. is_tick (number_word a)) (number_past row n (omega arith))

-- the longest of the first silences
abbrev pub promised_by : (ℕ → ℕ) → ℕ → ℕ
promised_by s zero = 0
promised_by s (suc m) = longest_promise s m

pub promised_more : (s : ℕ → ℕ) (m until : ℕ) → until ≡ promised_by s m → max (s m) until ≡ promised_by s (m + 1)
promised_more s zero until is = (let e : max (s 0) until ≡ s 0 = omega (arith, is) in e) ∙ ap (promised_by s) (let one : 1 ≡ zero + 1 = omega arith in one)
promised_more s (suc m) until is = (let e : max (s (suc m)) until ≡ max (longest_promise s m) (s (suc m)) = omega (arith, is) in e) ∙ ap (promised_by s) (let one : suc (suc m) ≡ suc m + 1 = omega arith in one)

pub promised_all : (s : ℕ → ℕ) (n count until : ℕ) → until ≡ promised_by s n → n ≡ count + 1 → until ≡ longest_promise s count
promised_all s n count until is end = is ∙ ap (promised_by s) (end ∙ (let one : count + 1 ≡ suc count = omega arith in one))

-- one tick of those that are left
pub next_left : (e : ℕ → FlatWord) (m n t : ℕ) → m < n → tick_in (e m) ≡ t → ticks_from e m (n - m) ≡ t ∷ ticks_from e (m + 1) (n - (m + 1))
next_left e m n t lt is =
    let more : n - m ≡ suc (n - suc m) = omega arith in
    let next : suc m ≡ m + 1 = omega arith in
    ap (ticks_from e m) more ∙ ((λ i. is i ∷ ticks_from e (suc m) (n - suc m)) ∙ ap (λ k. t ∷ ticks_from e k (n - k)) next)

pub none_left_over : (e : ℕ → FlatWord) (m n : ℕ) → n ≤ m → ticks_from e m (n - m) ≡ []
none_left_over e m n h = ap (ticks_from e m) (let none : n - m ≡ 0 = omega arith in none)

-- a word that is a tick is a value
pub no_tick_none : (w : FlatWord) → is_tick w ≡ true → ((t : ℕ) → w ≡ flat.Value t → ⊥) → ⊥
no_tick_none flat.Nothing h n = cc
no_tick_none (flat.Value t) h n = n t refl
no_tick_none flat.Clash h n = cc

pub one_left : (e : ℕ → FlatWord) (all : List ℕ) (h m n t : ℕ) (set : List (ℕ × ℕ)) (since : Option ℕ) → m < n → tick_in (e m) ≡ t
    → IsMade all h set since (ticks_from e m (n - m)) → IsMade all h set since (t ∷ ticks_from e (m + 1) (n - (m + 1)))
one_left e all h m n t set since lt is made = subst (IsMade all h set since) (next_left e m n t lt is) made
