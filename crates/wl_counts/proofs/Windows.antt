-- How many instants that are a period apart lie in a window.
use Rattle.std.proofs.Common.{◌≡◌, ◌∙◌, ap, refl, ℕ, zero, suc, ◌+◌, ◌-◌, ◌*◌, ◌/◌, ◌<◌, ◌≤◌, ◌⊎◌, Bool, true, false, arith, inl, inr}
use Rattle.std.proofs.Math.Nat.{le-div_iff_mul-le, add-div_right}
use Rattle.std.proofs.lemmas.Bool.{cases_Bool}
use Rattle.wl_counts.specs.Counts.{one_if, picks_below, periods_in, LiesIn, LieIn, AreApart}

-- a pick below n that is as many periods into the window as there are picks before it
record Furthest (picked : ℕ → Bool) (instant : ℕ → ℕ) (n period from back : ℕ) : Type 0 where
  pub place : ℕ
  pub below : place < n
  pub is : picked place ≡ true
  pub far : from + picks_below picked n * period < instant place + period + back

picks_more : (picked : ℕ → Bool) (n : ℕ) → picked n ≡ true → picks_below picked (suc n) ≡ suc (picks_below picked n)
picks_more picked n e = ap (λ b. picks_below picked n + one_if b) e ∙ (let h : picks_below picked n + 1 ≡ suc (picks_below picked n) = omega arith in h)

picks_same : (picked : ℕ → Bool) (n : ℕ) → picked n ≡ false → picks_below picked (suc n) ≡ picks_below picked n
picks_same picked n e = ap (λ b. picks_below picked n + one_if b) e ∙ (let h : picks_below picked n + 0 ≡ picks_below picked n = omega arith in h)

module _ (picked : ℕ → Bool) (instant : ℕ → ℕ) (period from back on : ℕ) where
  furthest : (n : ℕ) → AreApart picked instant n period → LieIn picked instant n from back on → (picks_below picked n ≡ 0) ⊎ Furthest picked instant n period from back
  furthest zero apart lie = inl refl
  furthest (suc n) apart lie =
      let old : (picks_below picked n ≡ 0) ⊎ Furthest picked instant n period from back =
      furthest n (λ j k less below. apart j k less (omega arith)) (λ k below. lie k (omega arith)) in
      elim (cases_Bool (picked n)) [
        | inl hit ↦
            (let more : picks_below picked (suc n) ≡ suc (picks_below picked n) = picks_more picked n hit in
            let here : LiesIn from back on (instant n) = lie n (omega arith) hit in
            let after : from < instant n + back = here.after in
            elim old [
              | inl none ↦
                  inr record {
                    place = n;
                    below = omega arith;
                    is = hit;
                    far =
                        (let one : picks_below picked (suc n) * period ≡ period =
                        ap (λ c. c * period) (more ∙ ap suc none) ∙ (let h : 1 * period ≡ period = omega arith in h) in
                        omega arith);
                  }
              | inr last ↦
                  inr record {
                    place = n;
                    below = omega arith;
                    is = hit;
                    far =
                        (let next : instant last.place + period ≤ instant n = apart last.place n last.below (omega arith) last.is hit in
                        let far : from + picks_below picked n * period < instant last.place + period + back = last.far in
                        let one : picks_below picked (suc n) * period ≡ picks_below picked n * period + period =
                        ap (λ c. c * period) more ∙ (let h : suc (picks_below picked n) * period ≡ picks_below picked n * period + period = omega arith in h) in
                        omega arith);
                  }
            ])
        | inr miss ↦
            (let same : picks_below picked (suc n) ≡ picks_below picked n = picks_same picked n miss in
            elim old [
              | inl none ↦ inl (same ∙ none)
              | inr last ↦
                  inr record {
                    place = last.place;
                    below = (let b : last.place < n = last.below in omega arith);
                    is = last.is;
                    far =
                        (let far : from + picks_below picked n * period < instant last.place + period + back = last.far in
                        let one : picks_below picked (suc n) * period ≡ picks_below picked n * period = ap (λ c. c * period) same in
                        omega arith);
                  }
            ])
      ]

  pub few : (n : ℕ) → 0 < period → AreApart picked instant n period → LieIn picked instant n from back on → picks_below picked n ≤ periods_in (back + on) period
  few n positive apart lie = elim (furthest n apart lie) [
    | inl none ↦ omega arith
    | inr last ↦
        (let far : from + picks_below picked n * period < instant last.place + period + back = last.far in
        let there : LiesIn from back on (instant last.place) = lie last.place last.below last.is in
        let by : instant last.place ≤ from + on = there.by in
        let product : picks_below picked n * period ≤ back + on + (period - 1) = omega arith in
        (le-div_iff_mul-le {k = period} {x = picks_below picked n} {y = back + on + (period - 1)} positive).1 product)
  ]

-- a closed window is one that begins a unit sooner
closed_length : (length period : ℕ) → 0 < period → periods_in (1 + length) period ≤ length / period + 1
closed_length length period positive =
    let e : 1 + length + (period - 1) ≡ length + period = omega arith in
    let h : (1 + length + (period - 1)) / period ≡ length / period + 1 = ap (λ n. n / period) e ∙ add-div_right length positive in
    omega arith

pub closed_few : (picked : ℕ → Bool) (instant : ℕ → ℕ) (n period from length : ℕ) → 0 < period → AreApart picked instant n period → ((k : ℕ) → k < n → picked k ≡ true → (from ≤ instant k) × (instant k ≤ from + length)) → picks_below picked n ≤ length / period + 1
closed_few picked instant n period from length positive apart lie =
    let h : picks_below picked n ≤ periods_in (1 + length) period =
    few picked instant period from 1 length n positive apart (λ k below is. record { after = (let l = lie k below is in omega arith); by = (lie k below is).1 }) in
    let c = closed_length length period positive in
    omega arith
