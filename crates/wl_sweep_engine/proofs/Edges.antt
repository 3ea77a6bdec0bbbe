-- Edges that are far apart, and frames that have none.
use Rattle.std.proofs.Common.{◌≡◌, ◌∙◌, ap, sym, refl, ℕ, ◌+◌, Bool, true, false, List, suc, arith}
use Rattle.std.specs.Prelude.{◌||◌}
use Rattle.wl_level.specs.declared.Level.{Level}
use Rattle.wl_sweep_engine.specs.Payload.{far_below, is_far}

far_next : (y : List Level) (k : ℕ) → far_below y (k + 1) ≡ (far_below y k || is_far y k)
far_next y k = ap (far_below y) {x = k + 1} {y = suc k} (omega arith)

or_true : (b : Bool) → (b || true) ≡ true
or_true true = refl
or_true false = refl

or_false : (b : Bool) → (b || false) ≡ b
or_false true = refl
or_false false = refl

pub far_here : (y : List Level) (k : ℕ) → is_far y k ≡ true → true ≡ far_below y (k + 1)
far_here y k is = sym (far_next y k ∙ ap (λ b. far_below y k || b) is ∙ or_true (far_below y k))

pub not_far_here : (y : List Level) (k : ℕ) (found : Bool) → is_far y k ≡ false → found ≡ far_below y k → found ≡ far_below y (k + 1)
not_far_here y k found is before = before ∙ sym (far_next y k ∙ ap (λ b. far_below y k || b) is ∙ or_false (far_below y k))

pub true_unless : (P : Type 0) (b : Bool) → (b ≡ false → P → ⊥) → P → b ≡ true
true_unless P true none p = refl
true_unless P false none p = absurd (none refl p)
