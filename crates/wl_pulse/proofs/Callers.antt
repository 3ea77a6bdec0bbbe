-- What the proofs of upper crates may use: how many changes of a node are not after a tick, and for how long that stays.
use Rattle.std.proofs.Common.{◌≡◌, ℕ, ◌+◌, ◌-◌, ◌<◌, ◌≤◌, Bool, ◌&&◌, inl, inr, List, length, get_or, sym, ◌∙◌, ap, arith, nat_lt}
use Rattle.std.proofs.lemmas.Bool.{le-leb, cases_lt}
use Rattle.std.proofs.lemmas.List.Sums.{count_by-le-length}
use Rattle.wl_record_core.specs.Truth.{count_below, odd, IsIncreasing}
use Rattle.wl_record_core.specs.TableLaws.{TableLaws}
use Rattle.wl_pulse.specs.Pulses.{drove}
use Rattle.wl_record_core.proofs.Callers.{reached, not_reached}

-- the first that doesn't count is after the tick
pub after_them : TableLaws → (xs : List ℕ) (count tick : ℕ) → IsIncreasing xs → count ≡ count_below (tick + 1) xs → count < length xs → tick < get_or xs count 0
after_them table xs count tick order is b = elim (cases_lt tick (get_or xs count 0)) [
  | inl after ↦ after
  | inr come ↦ (let r = reached table xs count tick order b come in absurd (omega (arith, r, is)))
]

-- up to that one as many count
pub count_stays : TableLaws → (xs : List ℕ) (count n u : ℕ) → IsIncreasing xs → count ≡ count_below n xs → n ≤ u + 1 → (count < length xs → u < get_or xs count 0)
    → count_below (u + 1) xs ≡ count
count_stays table xs count n u order is later before =
    let least = table.count_less n (u + 1) xs later in
    elim (cases_lt count (length xs)) [
      | inl some ↦ (let most = not_reached table xs count u order some (before some) in omega (arith, least, most, is))
      | inr none ↦ (let most = count_by-le-length (λ v. nat_lt v (u + 1)) xs in omega (arith, least, most, is, none))
    ]

-- what a node drove a delay earlier stays until the next change has come
pub drove_stays : TableLaws → (xs : List ℕ) (delay count t u : ℕ) (v : Bool) → IsIncreasing xs → delay ≤ t → count ≡ count_below (t - delay + 1) xs → v ≡ odd count → t ≤ u
    → (count < length xs → u < get_or xs count 0 + delay) → drove xs delay u ≡ v
drove_stays table xs delay count t u v order begun is odd_count later before =
    ap (λ w. w && odd (count_below (u - delay + 1) xs)) (le-leb delay u (omega (arith, begun, later)))
    ∙ (ap odd (count_stays table xs count (t - delay + 1) (u - delay) order is (omega (arith, later)) (λ some. let h = before some in omega (arith, h, begun, later)))
    ∙ sym odd_count)
