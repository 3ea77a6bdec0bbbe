-- No burst begins before the end after one that doesn't.
use Rattle.std.proofs.Common.{◌≡◌, ◌∙◌, All, inl, inr, ℕ, zero, suc, ◌+◌, ◌<◌, ◌≤◌, Bool, List, [], ◌∷◌, ◌++◌, min, ◌%◌, if◌then◌else◌, refl, sym, ap, ap₂, subst, add-one, arith}
use Rattle.std.proofs.lemmas.Bool.{cases_lt, le-ltb, lt-ltb}
use Rattle.std.proofs.lemmas.List.{append-nil}
use Rattle.std.proofs.lemmas.List.Elements.{All-nil, All-push}
use Rattle.std.proofs.lemmas.Nat.{mod_below}
use Rattle.rand_xoshiro.specs.SplitMix64.{mix_u64}
use Rattle.wl_noise.specs.declared.noise.Noise.{Noise}
use Rattle.wl_noise.specs.declared.noise.Burst.{Burst}
use Rattle.wl_noise.specs.Noise.{IsBurst, IsNoise, burst_at, burst_place, burst_start, bursts, gap_before, gap_by, gap_start, state_before}

module _ (noise : Noise) where
  next_later : (k : ℕ) → burst_start noise k ≤ burst_start noise (suc k)
  next_later k = omega (arith)

  -- each burst begins after the one before it
  starts_grow : (k m : ℕ) → k ≤ m → burst_start noise k ≤ burst_start noise m
  starts_grow k zero within = at_most (omega arith)
    where
      at_most : k ≡ 0 → burst_start noise k ≤ burst_start noise 0
      at_most same = (let e = ap (burst_start noise) same in omega (arith, e))
  starts_grow k (suc m) within =
      elim (cases_lt k (suc m)) [
        | inl less ↦ (let h = starts_grow k m (omega arith) in let n = next_later m in omega (arith, h, n))
        | inr more ↦ (let same : k ≡ suc m = omega arith in let e = ap (burst_start noise) same in omega (arith, e))
      ]

  module _ (end : ℕ) where
    -- one more that begins at the end or later
    late_one : (k : ℕ) → end ≤ burst_start noise k → bursts noise end (suc k) ≡ bursts noise end k
    late_one k late =
        ap (λ (b : Bool). bursts noise end k ++ (if b then burst_at noise end k ∷ [] else [])) (le-ltb (burst_start noise k) end late)
        ∙ append-nil (bursts noise end k)

    -- all later ones
    pub late_all : (k m : ℕ) → k ≤ m → end ≤ burst_start noise k → bursts noise end k ≡ bursts noise end m
    late_all k zero within late = (let same : k ≡ 0 = omega arith in ap (bursts noise end) same)
    late_all k (suc m) within late =
        elim (cases_lt k (suc m)) [
          | inl less ↦ (let h = starts_grow k m (omega arith) in late_all k m (omega arith) late ∙ sym (late_one m (omega (arith, h))))
          | inr more ↦ (let same : k ≡ suc m = omega arith in ap (bursts noise end) same)
        ]

    -- one more that begins before it
    pub early_one : (k : ℕ) → burst_start noise k < end → bursts noise end k ++ burst_at noise end k ∷ [] ≡ bursts noise end (k + 1)
    early_one k early =
        sym (ap (λ (b : Bool). bursts noise end k ++ (if b then burst_at noise end k ∷ [] else [])) (lt-ltb (burst_start noise k) end early))
        ∙ ap (bursts noise end) (sym (add-one k))

    -- each burst of a list is one
    burst_is : IsNoise noise → (k : ℕ) → burst_start noise k < end → IsBurst noise end (burst_at noise end k)
    burst_is is k early =
        let lasts : 0 < noise.length = is.lasts in
        let some : 0 < noise.places = is.some_place in
        record {
          lasts = omega (arith, lasts, early);
          ends = omega arith;
          placed = mod_below (mix_u64 (mix_u64 (state_before noise k)).1).0 noise.places some;
        }

    each_is : IsNoise noise → (n : ℕ) → All (IsBurst noise end) (bursts noise end n)
    each_is is zero = All-nil (IsBurst noise end)
    each_is is (suc n) =
        elim (cases_lt (burst_start noise n) end) [
          | inl early ↦
              subst (All (IsBurst noise end)) (early_one n early ∙ ap (bursts noise end) (add-one n))
              (All-push (IsBurst noise end) (bursts noise end n) (burst_at noise end n) (each_is is n) (burst_is is n early))
          | inr late ↦ subst (All (IsBurst noise end)) (sym (late_one n late)) (each_is is n)
        ]

    pub each_of : IsNoise noise → (n : ℕ) (all : List Burst) → all ≡ bursts noise end n → All (IsBurst noise end) all
    each_of is n all made = subst (All (IsBurst noise end)) (sym made) (each_is is n)

    pub one_more : (k from to place : ℕ) (items new : List Burst) → items ≡ bursts noise end k → from ≡ burst_start noise k
        → to ≡ min (from + noise.length) end → place ≡ burst_place noise k → from < end
        → new ≡ items ++ (record { from = from; to = to; place = place }) ∷ [] → new ≡ bursts noise end (k + 1)
    one_more k from to place items new made from_is to_is place_is early pushed =
        let here : Burst = record { from = from; to = to; place = place } in
        let same : here ≡ burst_at noise end k = rw (to_is, place_is, from_is) refl in
        let starts : burst_start noise k < end = omega (arith, from_is, early) in
        pushed ∙ ap₂ (λ (xs : List Burst) (x : Burst). xs ++ x ∷ []) made same ∙ early_one k starts

  -- the start of a burst, by the state before it and the first word of two
  module _ (k state ended word next gap : ℕ) (state_is : state ≡ state_before noise k) (ended_is : ended ≡ gap_start noise k)
      (word_is : (word, next) ≡ mix_u64 state) (gap_is : gap ≡ gap_by noise word) where
    gap_here : gap ≡ gap_before noise k
    gap_here = gap_is ∙ ap (gap_by noise) (ap (λ (p : ℕ × ℕ). p.0) word_is ∙ ap (λ s. (mix_u64 s).0) state_is)

    pub start_here : ended + gap ≡ burst_start noise k
    start_here = ap₂ (λ a b. a + b) ended_is gap_here

    next_here : next ≡ (mix_u64 (state_before noise k)).1
    next_here = ap (λ (p : ℕ × ℕ). p.1) word_is ∙ ap (λ s. (mix_u64 s).1) state_is

    -- and the second word
    module _ (other last : ℕ) (other_is : (other, last) ≡ mix_u64 next) where
      pub place_here : other % noise.places ≡ burst_place noise k
      place_here = ap (λ n. n % noise.places) (ap (λ (p : ℕ × ℕ). p.0) other_is ∙ ap (λ s. (mix_u64 s).0) next_here)

      pub state_after : last ≡ state_before noise (k + 1)
      state_after = ap (λ (p : ℕ × ℕ). p.1) other_is ∙ ap (λ s. (mix_u64 s).1) next_here ∙ ap (state_before noise) (sym (add-one k))

      pub ended_after : ended + gap + noise.length ≡ gap_start noise (k + 1)
      ended_after = ap (λ n. n + noise.length) start_here ∙ ap (gap_start noise) (sym (add-one k))
