-- How many changes of a node are not after a tick, read from its list of changes.
use Rattle.std.proofs.Common.{◌≡◌, ℕ, zero, suc, ◌+◌, ◌-◌, ◌<◌, ◌≤◌, false, ◌&&◌, inl, inr, List, length, get_or, sym, ◌∙◌, ap, arith, nat_lt}
use Rattle.std.proofs.lemmas.Bool.{le-leb, lt-leb, cases_lt}
use Rattle.std.proofs.lemmas.List.Sums.{count_by-le-length}
use Rattle.std.proofs.lemmas.Option.{slice_get-get_or}
use Rattle.wl_record_core.specs.Truth.{count_below, odd, IsIncreasing}
use Rattle.wl_record_core.specs.TableLaws.{TableLaws}
use Rattle.wl_pulse.specs.Pulses.{drove}
use Rattle.wl_pulse.proofs.Callers.{count_stays}

-- before a delay has passed nothing has come
pub nothing_yet : (xs : List ℕ) (delay u : ℕ) → u < delay → drove xs delay u ≡ false
nothing_yet xs delay u early = ap (λ w. w && odd (count_below (u - delay + 1) xs)) (lt-leb delay u early)

-- the same from a tick on by which as many have come, whether a delay has passed or not
pub drove_on : TableLaws → (xs : List ℕ) (delay count t u : ℕ) → IsIncreasing xs → count ≡ count_below (t + 1 - delay) xs → t ≤ u → (count < length xs → u < get_or xs count 0 + delay)
    → drove xs delay u ≡ odd count
drove_on table xs delay count t u order is later before = elim (cases_lt u delay) [
  | inl early ↦
      (let none : t + 1 - delay ≡ 0 = omega (arith, later, early) in
      nothing_yet xs delay u early ∙ sym (ap odd (is ∙ (ap (λ n. count_below n xs) none ∙ table.count_zero xs))))
  | inr late ↦
      ap (λ w. w && odd (count_below (u - delay + 1) xs)) (le-leb delay u late)
      ∙ ap odd (count_stays table xs count (t + 1 - delay) (u - delay) order is (omega (arith, later, late)) (λ some. let h = before some in omega (arith, h, late)))
]

-- one more has come with the next
pub one_comes : TableLaws → (xs : List ℕ) (delay count t : ℕ) → IsIncreasing xs → count < length xs → t ≡ get_or xs count 0 + delay → count + 1 ≡ count_below (t + 1 - delay) xs
one_comes table xs delay count t order some is =
    let step = (table.entry_is_step xs count (get_or xs count 0) order (slice_get-get_or xs count 0 some)).1 in
    let here : t + 1 - delay ≡ suc (get_or xs count 0) = omega (arith, is) in
    let there = ap (λ n. count_below n xs) here in
    omega (arith, step, there)

-- the next one has not come yet
pub next_after : TableLaws → (xs : List ℕ) (delay count t : ℕ) → IsIncreasing xs → count ≡ count_below (t + 1 - delay) xs → count < length xs → t < get_or xs count 0 + delay
next_after table xs delay count t order is some = elim (cases_lt t (get_or xs count 0 + delay)) [
  | inl after ↦ after
  | inr come ↦
      (let step = (table.entry_is_step xs count (get_or xs count 0) order (slice_get-get_or xs count 0 some)).1 in
      let more = table.count_less (suc (get_or xs count 0)) (t + 1 - delay) xs (omega (arith, come)) in
      absurd (omega (arith, step, more, is)))
]

no_sooner : TableLaws → (xs : List ℕ) (k : ℕ) → IsIncreasing xs → k < length xs → k ≤ get_or xs k 0
no_sooner table xs zero order b = omega arith
no_sooner table xs (suc k) order b =
    let f = no_sooner table xs k order (omega (arith, b)) in
    let e = table.entries_grow xs k (suc k) (get_or xs k 0) (get_or xs (suc k) 0) order (slice_get-get_or xs k 0 (omega (arith, b))) (slice_get-get_or xs (suc k) 0 b) (omega arith) in
    omega (arith, f, e)

-- no more count than there are ticks
pub few_below : TableLaws → (xs : List ℕ) (n : ℕ) → IsIncreasing xs → count_below n xs ≤ n
few_below table xs n order = elim (cases_lt n (length xs)) [
  | inl some ↦
      (let e = (table.entry_is_step xs n (get_or xs n 0) order (slice_get-get_or xs n 0 some)).0 in
      let f = table.count_less n (get_or xs n 0) xs (no_sooner table xs n order some) in
      omega (arith, e, f))
  | inr none ↦ (let most = count_by-le-length (λ v. nat_lt v n) xs in omega (arith, most, none))
]
