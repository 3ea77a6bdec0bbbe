-- How far a dominant run after a flag is from its last count: each eighth dominant sample counts.
use Rattle.std.proofs.Common.{◌≡◌, ◌∙◌, ℕ, suc, ◌-◌, ◌%◌, ◌≤◌, List, [], ◌∷◌, ◌++◌, length, true, refl, sym, ap, subst, arith, append-nil, append_assoc}
use Rattle.std.specs.Prelude.{nat_le, ◌==◌}
use Rattle.std.proofs.lemmas.Bool.{and_parts, leb-true, eqb-true}
use Rattle.wl_level.specs.declared.Level.{Level}
use Rattle.wl_level.specs.declared.Level.TheVariants.{Dominant}
use Rattle.wl_level.specs.Places.{run_at_end}
use Rattle.wl_level.proofs.Callers.{run_before_le}
use Rattle.wl_machine.specs.Stretch.{Flag}
use Rattle.wl_machine.specs.Stretch.Flag.{ActiveFlag, OverloadFlag, PassiveFlag}
use Rattle.wl_machine.specs.Flags.{is_each_eighth, long_from, dominant_run}
use Rattle.wl_heal.proofs.Samples.{run_same}

-- the dominant samples since the last count, of a run that counts first with this one
abbrev pub phase : ℕ → ℕ → ℕ
phase first run = (run - (first - 8)) % 8

pub phase_small : (first run : ℕ) → phase first run ≤ 7
phase_small first run = omega arith

-- one dominant sample more
pub phase_up : (first run : ℕ) → 8 ≤ first → phase first (suc run) ≤ suc (phase first run)
phase_up first run h = omega arith

pub phase_counts : (first run : ℕ) → 8 ≤ first → is_each_eighth first (suc run) ≡ true → (phase first run ≡ 7) × (phase first (suc run) ≡ 0)
phase_counts first run h e =
    let parts = and_parts (nat_le first (suc run)) ((suc run - first) % 8 == 0) e in
    let low : first ≤ suc run = leb-true first (suc run) parts.0 in
    let none : (suc run - first) % 8 ≡ 0 = eqb-true ((suc run - first) % 8) 0 parts.1 in
    (omega arith, omega arith)

pub eight_first : (flag : Flag) → 8 ≤ long_from flag
eight_first ActiveFlag = omega arith
eight_first OverloadFlag = omega arith
eight_first (PassiveFlag unacknowledged) = omega arith

-- the phase of a wait
abbrev pub wait_phase : Flag → List Level → List Level → ℕ
wait_phase flag flagged own = phase (long_from flag) (dominant_run flag flagged own)

run_next : (flag : Flag) (flagged own : List Level) → dominant_run flag flagged (own ++ Dominant ∷ []) ≡ suc (dominant_run flag flagged own)
run_next ActiveFlag flagged own = ap (run_at_end Dominant) (sym (append_assoc flagged own (Dominant ∷ []))) ∙ run_same Dominant (flagged ++ own)
run_next OverloadFlag flagged own = ap (run_at_end Dominant) (sym (append_assoc flagged own (Dominant ∷ []))) ∙ run_same Dominant (flagged ++ own)
run_next (PassiveFlag unacknowledged) flagged own = run_same Dominant own

pub wait_up : (flag : Flag) (flagged own : List Level) → wait_phase flag flagged (own ++ Dominant ∷ []) ≤ suc (wait_phase flag flagged own)
wait_up flag flagged own =
    subst (λ r. phase (long_from flag) r ≤ suc (wait_phase flag flagged own)) (sym (run_next flag flagged own)) (phase_up (long_from flag) (dominant_run flag flagged own) (eight_first flag))

pub wait_counts : (flag : Flag) (flagged own : List Level) → is_each_eighth (long_from flag) (dominant_run flag flagged (own ++ Dominant ∷ [])) ≡ true
    → (wait_phase flag flagged own ≡ 7) × (wait_phase flag flagged (own ++ Dominant ∷ []) ≡ 0)
wait_counts flag flagged own e =
    let next = run_next flag flagged own in
    let both = phase_counts (long_from flag) (dominant_run flag flagged own) (eight_first flag) (ap (is_each_eighth (long_from flag)) (sym next) ∙ e) in
    (both.0, ap (phase (long_from flag)) next ∙ both.1)

-- a flag's own bits count nothing yet
pub wait_first : (flag : Flag) (flagged : List Level) → length flagged ≤ 6 → wait_phase flag flagged [] ≡ 0
wait_first ActiveFlag flagged h = few (run_at_end Dominant (flagged ++ [])) (let e : run_at_end Dominant (flagged ++ []) ≡ run_at_end Dominant flagged = ap (run_at_end Dominant) (append-nil flagged) in let le = run_before_le Dominant flagged (length flagged) in omega arith)
  where
    few : (run : ℕ) → run ≤ 6 → phase 14 run ≡ 0
    few run le = omega arith
wait_first OverloadFlag flagged h = few (run_at_end Dominant (flagged ++ [])) (let e : run_at_end Dominant (flagged ++ []) ≡ run_at_end Dominant flagged = ap (run_at_end Dominant) (append-nil flagged) in let le = run_before_le Dominant flagged (length flagged) in omega arith)
  where
    few : (run : ℕ) → run ≤ 6 → phase 14 run ≡ 0
    few run le = omega arith
wait_first (PassiveFlag unacknowledged) flagged h = refl
