-- The least of some numbers, and whether one of some tests passes.
use Rattle.std.proofs.Common.{◌≡◌, ℕ, zero, suc, pred, ◌+◌, ◌-◌, ◌<◌, ◌≤◌, min, Bool, true, false, ◌||◌, inl, inr, refl, sym, ◌∙◌, ap, subst, arith}
use Rattle.std.proofs.lemmas.Bool.{cases_eq}
use Rattle.wl_level.specs.declared.Level.TheVariants.{Dominant, Recessive}
use Rattle.wl_level.specs.Levels.{level_of}
use Rattle.wl_topology.specs.Driven.{any_below}
use Rattle.wl_replica.specs.Known.{least_up_to}

pub least_more : (f : ℕ → ℕ) (i : ℕ) → 1 ≤ i → min (least_up_to f (i - 1)) (f i) ≡ least_up_to f ((i + 1) - 1)
least_more f zero h = absurd (omega arith)
least_more f (suc k) h =
    let before : suc k - 1 ≡ k = omega arith in
    let here : (suc k + 1) - 1 ≡ suc k = omega arith in
    ap (λ n. min (least_up_to f n) (f (suc k))) before ∙ sym (ap (least_up_to f) here)

-- what is below the least is below each
below_least : (f : ℕ → ℕ) (n i t : ℕ) → i ≤ n → t < least_up_to f n → t < f i
below_least f zero i t le lt = subst (λ k. t < f k) (let same : 0 ≡ i = omega arith in same) lt
below_least f (suc n) i t le lt = elim (cases_eq i (suc n)) [
  | inl same ↦ subst (λ k. t < f k) (sym same) (omega arith)
  | inr other ↦ below_least f n i t (omega arith) (omega arith)
]

pub below_each : (f : ℕ → ℕ) (nodes i t : ℕ) → i < nodes → t < least_up_to f (pred nodes) → t < f i
below_each f zero i t le lt = absurd (omega arith)
below_each f (suc n) i t le lt = below_least f n i t (omega arith) lt

or_true : (a : Bool) → (a || true) ≡ true
or_true true = refl
or_true false = refl

pub some_below : (test : ℕ → Bool) (n i : ℕ) → i < n → test i ≡ true → any_below n test ≡ true
some_below test zero i lt h = absurd (omega arith)
some_below test (suc n) i lt h = elim (cases_eq i n) [
  | inl same ↦ ap (λ b. any_below n test || b) (sym (ap test same) ∙ h) ∙ or_true (any_below n test)
  | inr other ↦ ap (λ b. b || test n) (some_below test n i (omega arith) h)
]

pub dominant_is : (b : Bool) → b ≡ true → Dominant ≡ level_of b
dominant_is b h = sym (ap level_of h)

pub recessive_is : (b : Bool) → b ≡ false → Recessive ≡ level_of b
recessive_is b h = sym (ap level_of h)
