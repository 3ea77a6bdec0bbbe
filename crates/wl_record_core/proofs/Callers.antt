-- What the proofs of upper crates may use: how many ticks of a list are not after a tick, whether a count is odd, and the one tick of a slot.
use Rattle.std.proofs.Common.{◌≡◌, ℕ, zero, suc, ◌+◌, ◌%◌, ◌<◌, ◌≤◌, ◌==◌, ◌⊎◌, not, inl, inr, List, length, get_or, refl, sym, ◌∙◌, ap, arith}
use Rattle.std.proofs.lemmas.Bool.{cases_lt}
use Rattle.std.proofs.lemmas.Option.{slice_get-get_or}
use Rattle.wl_record_core.specs.Truth.{count_below, odd, IsIncreasing}
use Rattle.wl_record_core.specs.TableLaws.{TableLaws}
pub use Rattle.wl_record_core.proofs.TruthProofs.{one_tick_a_slot}

-- a tick that is not after this one counts, with those before it
pub reached : TableLaws → (xs : List ℕ) (g tick : ℕ) → IsIncreasing xs → g < length xs → get_or xs g 0 ≤ tick → suc g ≤ count_below (tick + 1) xs
reached laws xs g tick inc b h =
    let e = laws.entry_is_step xs g (get_or xs g 0) inc (slice_get-get_or xs g 0 b) in
    let m = laws.count_less (suc (get_or xs g 0)) (tick + 1) xs (omega arith) in
    omega arith

-- one that is after it does not, nor those after it
pub not_reached : TableLaws → (xs : List ℕ) (g tick : ℕ) → IsIncreasing xs → g < length xs → tick < get_or xs g 0 → count_below (tick + 1) xs ≤ g
not_reached laws xs g tick inc b h =
    let e = laws.entry_is_step xs g (get_or xs g 0) inc (slice_get-get_or xs g 0 b) in
    let m = laws.count_less (tick + 1) (get_or xs g 0) xs (omega arith) in
    omega arith

-- whether a number is odd, by its remainder
halves : (n : ℕ) → ((n % 2 ≡ 0) × (suc n % 2 ≡ 1)) ⊎ ((n % 2 ≡ 1) × (suc n % 2 ≡ 0))
halves n =
    elim (cases_lt (n % 2) 1) [
      | inl none ↦ inl (omega arith, omega arith)
      | inr one ↦ inr (omega arith, omega arith)
    ]

pub odd_is : (n : ℕ) → (n % 2 == 1) ≡ odd n
odd_is zero = refl
odd_is (suc n) =
    elim (halves n) [
      | inl even ↦ ap (λ v. v == 1) even.1 ∙ ap not (sym (ap (λ v. v == 1) even.0) ∙ odd_is n)
      | inr uneven ↦ ap (λ v. v == 1) uneven.1 ∙ ap not (sym (ap (λ v. v == 1) uneven.0) ∙ odd_is n)
    ]
