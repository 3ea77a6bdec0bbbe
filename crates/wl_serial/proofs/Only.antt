-- A place at which one node alone is heard.
use Rattle.std.proofs.Common.{◌≡◌, ℕ, zero, suc, ◌+◌, ◌<◌, ◌≤◌, ◌≢◌, Bool, true, false, ◌||◌, inl, inr, List, length, get_or, refl, sym, ◌∙◌, ap, arith}
use Rattle.std.proofs.Math.Bool.{or-false}
use Rattle.std.proofs.lemmas.Bool.{cases_eq}
use Rattle.std.specs.Int.{from_bool}
use Rattle.wl_topology.specs.Delays.{delay_of}
use Rattle.wl_topology.specs.Driven.{any_below}
use Rattle.wl_topology.specs.Limits.{most_places}
use Rattle.wl_plan.specs.declared.plan.Plan.{Plan}
use Rattle.wl_plan.specs.PlanLine.{disturbed}
use Rattle.wl_serial.specs.declared.line_at.LineAt.{LineAt}
use Rattle.wl_serial.specs.declared.running_node.Running.{Running}
use Rattle.wl_pulse.specs.Pulses.{IsPulse, drove}
use Rattle.wl_serial.specs.LineAt.{passing, HearsOnly, IsAlone, IsHeard}

-- one of those that pass
one_passes : (p : ℕ → Bool) (n k : ℕ) → k < n → from_bool (p k) ≤ passing p n
one_passes p zero k b = absurd (omega (arith, b))
one_passes p (suc n) k b = elim (cases_eq k n) [
  | inl here ↦ (let e = ap (λ m. from_bool (p m)) here in omega (arith, e))
  | inr other ↦ (let f = one_passes p n k (omega (arith, b, other)) in omega (arith, f))
]

-- and two of them
two_pass : (p : ℕ → Bool) (n j k : ℕ) → j < n → k < n → k ≢ j → from_bool (p j) + from_bool (p k) ≤ passing p n
two_pass p zero j k b c other = absurd (omega (arith, b))
two_pass p (suc n) j k b c other = elim (cases_eq j n) [
  | inl last ↦ (let f = one_passes p n k (omega (arith, c, other, last)) in let e = ap (λ m. from_bool (p m)) last in omega (arith, f, e))
  | inr first ↦ elim (cases_eq k n) [
    | inl here ↦ (let f = one_passes p n j (omega (arith, b, first)) in let e = ap (λ m. from_bool (p m)) here in omega (arith, f, e))
    | inr less ↦ (let f = two_pass p n j k (omega (arith, b, first)) (omega (arith, c, less)) other in omega (arith, f))
  ]
]

nothing : (b : Bool) → from_bool b ≤ 0 → b ≡ false
nothing true few = absurd (omega (arith, few))
nothing false few = refl

-- where no more pass than that one does, no other does
pub alone_passes : (p : ℕ → Bool) (n j k : ℕ) → j < n → passing p n ≤ from_bool (p j) → k < n → k ≢ j → p k ≡ false
alone_passes p n j k b few c other = nothing (p k) (let f = two_pass p n j k b c other in omega (arith, f, few))

none_of : (f : ℕ → Bool) (n : ℕ) → ((k : ℕ) → k < n → f k ≡ false) → any_below n f ≡ false
none_of f zero none = refl
none_of f (suc n) none = ap (λ v. v || f n) (none_of f n (λ k b. none k (omega (arith, b)))) ∙ none n (omega arith)

one_of_all : (f : ℕ → Bool) (n j : ℕ) → j < n → ((k : ℕ) → k < n → k ≢ j → f k ≡ false) → any_below n f ≡ f j
one_of_all f zero j b none = absurd (omega (arith, b))
one_of_all f (suc n) j b none = elim (cases_eq j n) [
  | inl last ↦ ap (λ v. v || f n) (none_of f n (λ k c. none k (omega (arith, c)) (omega (arith, c, last)))) ∙ ap f (sym last)
  | inr less ↦
      ap (λ v. any_below n f || v) (none n (omega arith) (λ same. less (sym same)))
      ∙ (or-false (any_below n f) ∙ one_of_all f n j (omega (arith, b, less)) (λ k c other. none k (omega (arith, c)) other))
]

-- no other node is heard, and no disturbance
pub hears_only : (plan : Plan) (rs : List Running) (j i a t : ℕ) (line : LineAt) → j < length plan.nodes → length plan.nodes ≤ most_places → IsAlone (length plan.nodes) j a line.sources → t ≤ a
    → IsHeard plan rs i line → IsPulse (disturbed plan i) line.disturbance → line.disturbance.dominant ≡ false → t ≤ line.disturbance.until
    → HearsOnly plan rs j i t
hears_only plan rs j i a t line b few alone less heard disturbance calm ends d u after before =
    ap (λ v. v || disturbed plan i u) (one_of_all (λ k. drove (get_or rs k d).changes (delay_of plan.topology k i) u) (length plan.nodes) j b silent)
    ∙ (ap (λ v. drove (get_or rs j d).changes (delay_of plan.topology j i) u || v) still ∙ or-false (drove (get_or rs j d).changes (delay_of plan.topology j i) u))
  where
    silent : (k : ℕ) → k < length plan.nodes → k ≢ j → drove (get_or rs k d).changes (delay_of plan.topology k i) u ≡ false
    silent k c other =
        let f = heard.begun d in
        let n = alone.nexts k other (omega (arith, c, few)) in
        heard.sources k u d c (omega (arith, f, after)) (omega (arith, n, less, before)) ∙ alone.drives (omega (arith, less, before)) k other c

    still : disturbed plan i u ≡ false
    still = disturbance u (let f = heard.disturbance d in omega (arith, f, after)) (omega (arith, before, ends)) ∙ calm
