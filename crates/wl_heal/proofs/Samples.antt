-- One sample more: runs of equal levels, and what a judgement begins.
use Rattle.std.proofs.Common.{◌≡◌, ◌∙◌, ℕ, zero, suc, ◌+◌, ◌<◌, ◌≤◌, List, [], ◌∷◌, ◌++◌, length, Bool, true, false, cond, refl, sym, ap, subst, arith, length-append}
use Rattle.std.proofs.lemmas.Bool.{le-leb}
use Rattle.wl_level.specs.declared.Level.{Level}
use Rattle.wl_level.specs.declared.Level.TheVariants.{Dominant, Recessive}
use Rattle.wl_level.specs.Levels.{same}
use Rattle.wl_level.specs.Places.{at, before, run_at, run_before, run_at_end}
use Rattle.wl_level.proofs.Callers.{run_more, run_positive, same_self, same_equal}
use Rattle.wl_frame.specs.Stuffing.{is_stuff}
use Rattle.wl_frame.proofs.Callers.{stuff_run}
use Rattle.wl_machine.specs.Stretch.{Sort, Stretch, Judgement}
use Rattle.wl_machine.specs.Judged.{or_next}
use Rattle.wl_machine.specs.States.{stretch_by}

-- the running stretch after a sample with this judgement
abbrev pub going : Sort → List Level → Level → Judgement → Stretch
going sort own level j = or_next j.next (stretch_by sort (own ++ level ∷ []))

pub either : {A : Type 0} (P : A → Type 0) (b : Bool) (x y : A) → P x → P y → P (cond b x y)
either P true x y p q = p
either P false x y p q = q

pub longer : (own : List Level) (l : Level) → length (own ++ l ∷ []) ≡ length own + 1
longer own l = length-append own (l ∷ [])

pub run_same : (l : Level) (own : List Level) → run_at_end l (own ++ l ∷ []) ≡ suc (run_at_end l own)
run_same l own = run_more l own l ∙ ap (λ b. cond b (suc (run_at_end l own)) 0) (same_self l)

pub run_other : (own : List Level) → (run_at_end Recessive (own ++ Dominant ∷ []) ≡ 0) × (run_at_end Dominant (own ++ Recessive ∷ []) ≡ 0)
run_other own = (run_more Recessive own Dominant, run_more Dominant own Recessive)

run_of_step : (l : Level) (own : List Level) (n : ℕ) → run_before l own (suc n) ≤ run_at own (suc n) → (a b : Bool) → same (at own (suc n)) l ≡ a → same (at own n) l ≡ b
    → run_before l own (suc (suc n)) ≤ run_at own (suc (suc n))
run_of_step l own n old false b e f =
    let none : run_before l own (suc (suc n)) ≡ 0 = ap (λ c. cond c (suc (run_before l own (suc n))) 0) e in omega arith
run_of_step l own n old true true e f =
    let up : run_before l own (suc (suc n)) ≡ suc (run_before l own (suc n)) = ap (λ c. cond c (suc (run_before l own (suc n))) 0) e in
    let here : same (at own n) (at own (suc n)) ≡ true = ap (same (at own n)) (same_equal (at own (suc n)) l e) ∙ f in
    let more : run_at own (suc (suc n)) ≡ suc (run_at own (suc n)) = ap (λ c. cond c (suc (run_at own (suc n))) 1) here in
    omega arith
run_of_step l own n old true false e f =
    let up : run_before l own (suc (suc n)) ≡ suc (run_before l own (suc n)) = ap (λ c. cond c (suc (run_before l own (suc n))) 0) e in
    let none : run_before l own (suc n) ≡ 0 = ap (λ c. cond c (suc (run_before l own n)) 0) f in
    let some : 0 < run_at own (suc (suc n)) = run_positive own (suc n) in
    omega arith

-- a run of one level is a run of equal levels
pub run_of : (l : Level) (own : List Level) (n : ℕ) → run_before l own n ≤ run_at own n
run_of l own zero = omega arith
run_of l own (suc zero) = either (λ (k : ℕ). k ≤ 1) (same (at own zero) l) (suc zero) zero (omega arith) (omega arith)
run_of l own (suc (suc n)) = run_of_step l own n (run_of l own (suc n)) (same (at own (suc n)) l) (same (at own n) l) refl refl

-- a run that is not empty has the last level
pub run_last : (l : Level) (own : List Level) (n : ℕ) → 0 < run_before l own n → before own n ≡ l
run_last l own zero h = absurd (omega (arith, h))
run_last l own (suc n) h = by (same (at own n) l) refl h
  where
    by : (b : Bool) → same (at own n) l ≡ b → 0 < cond b (suc (run_before l own n)) 0 → at own n ≡ l
    by true e g = same_equal (at own n) l e
    by false e g = absurd (omega (arith, g))

-- after five of a level a stuff bit is due
pub five_due : (l : Level) (own : List Level) → 5 ≤ run_at_end l own → is_stuff own (length own) ≡ true
five_due l own h =
    let more : run_at_end l own ≤ run_at own (length own) = run_of l own (length own) in
    stuff_run own (length own) ∙ le-leb 5 (run_at own (length own)) (omega arith)

-- a run grows by one at most
pub run_up : (m l : Level) (own : List Level) → run_at_end m (own ++ l ∷ []) ≤ suc (run_at_end m own)
run_up m l own = subst (λ k. k ≤ suc (run_at_end m own)) (sym (run_more m own l)) (either (λ (k : ℕ). k ≤ suc (run_at_end m own)) (same l m) (suc (run_at_end m own)) 0 (omega arith) (omega arith))
