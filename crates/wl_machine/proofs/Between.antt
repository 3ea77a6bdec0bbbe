-- Integration and bus off, one sample later.
use Rattle.std.proofs.Common.{◌≡◌, ℕ, suc, ◌+◌, ◌<◌, ◌≤◌, ◌%◌, ◌∙◌, List, [], ◌∷◌, ◌++◌, length, Bool, true, false, cond, ◌&&◌, refl, sym, ap, arith, add-one}
use Rattle.std.specs.Prelude.{nat_lt, nat_eq}
use Rattle.std.proofs.lemmas.Bool.{eq-eqb, ne_eqb, lt-ltb}
use Rattle.wl_level.specs.declared.Level.{Level}
use Rattle.wl_level.specs.declared.Level.TheVariants.{Recessive}
use Rattle.wl_level.specs.Levels.{same, is_dominant}
use Rattle.wl_level.specs.Places.{run_before, run_at_end, count_places}
use Rattle.wl_level.proofs.Callers.{run_more, run_old, count_cong, length_more, recessive_from, dominant_from}
use Rattle.wl_confine.specs.declared.Happened.TheVariants as happens
use Rattle.wl_machine.specs.declared.progress.Progress.{Progress}
use Rattle.wl_machine.specs.declared.progress.Step.{Step}
use Rattle.wl_machine.specs.declared.state.State.TheVariants as states
use Rattle.wl_machine.specs.Stretch.{Sampled, continues, begins, free}
use Rattle.wl_machine.specs.Stretch.Sort.{Integration, OffBus}
use Rattle.wl_machine.specs.BetweenFrames.{recessive_runs}
use Rattle.wl_machine.specs.States.{IsIn, IsBusOff, Meets, stretch_by}
use Rattle.wl_machine.proofs.Steps.{says, meets_on, meets_end}

-- the recessive run one sample later
pub run_recessive : (own : List Level) (level : Level) → is_dominant level ≡ false → run_at_end Recessive (own ++ level ∷ []) ≡ suc (run_at_end Recessive own)
run_recessive own level h =
    run_more Recessive own level ∙ ap (λ l. cond (same l Recessive) (suc (run_at_end Recessive own)) 0) (recessive_from level h)

pub run_broken : (own : List Level) (level : Level) → is_dominant level ≡ true → run_at_end Recessive (own ++ level ∷ []) ≡ 0
run_broken own level h =
    run_more Recessive own level ∙ ap (λ l. cond (same l Recessive) (suc (run_at_end Recessive own)) 0) (dominant_from level h)

pub integration_on : (m : Progress) (step : Step) (own : List Level) (x : Sampled) (run : ℕ) → run_at_end Recessive (own ++ x.level ∷ []) ≡ run → run < 11
    → step ≡ says happens.Nothing → m.state ≡ states.Integrating run → Meets m step (stretch_by Integration own) x
integration_on m step own x run e below is at =
    meets_on m step _ x happens.Nothing (states.Integrating run)
    (ap (λ b. cond b (begins happens.Nothing (free x.head) []) (continues happens.Nothing)) (ne_eqb _ 11 (λ n. omega arith)))
    is at (refl, sym e, below)

pub integration_ends : (m : Progress) (step : Step) (own : List Level) (x : Sampled) → run_at_end Recessive (own ++ x.level ∷ []) ≡ 11
    → step ≡ says happens.Nothing → IsIn m (stretch_by (free x.head) []) → Meets m step (stretch_by Integration own) x
integration_ends m step own x e is p =
    meets_end m step _ x happens.Nothing (free x.head) []
    (ap (λ b. cond b (begins happens.Nothing (free x.head) []) (continues happens.Nothing)) (eq-eqb _ 11 e)) is p

abbrev pub ends_run : ℕ → Bool
ends_run run = nat_eq (run % 11) 0 && nat_lt 0 run

-- the runs of eleven, one sample later
runs_more : (own : List Level) (level : Level)
    → recessive_runs (own ++ level ∷ []) ≡ recessive_runs own + cond (ends_run (run_at_end Recessive (own ++ level ∷ []))) 1 0
runs_more own level =
    let more : length (own ++ level ∷ []) ≡ suc (length own) = length_more own level ∙ add-one (length own) in
    ap (count_places (λ n. ends_run (run_before Recessive (own ++ level ∷ []) (suc n)))) more
    ∙ ap (λ c. c + cond (ends_run (run_before Recessive (own ++ level ∷ []) (suc (length own)))) 1 0)
    (count_cong (λ n. ends_run (run_before Recessive (own ++ level ∷ []) (suc n))) (λ n. ends_run (run_before Recessive own (suc n))) (length own)
    (λ k lt. ap ends_run (run_old Recessive own level (suc k) (omega arith))))
    ∙ ap (λ k. recessive_runs own + cond (ends_run (run_before Recessive (own ++ level ∷ []) k)) 1 0) (sym more)

pub runs_same : (own : List Level) (level : Level) → ends_run (run_at_end Recessive (own ++ level ∷ [])) ≡ false → recessive_runs (own ++ level ∷ []) ≡ recessive_runs own
runs_same own level h = runs_more own level ∙ ap (λ b. recessive_runs own + cond b 1 0) h ∙ omega arith

pub runs_one : (own : List Level) (level : Level) → ends_run (run_at_end Recessive (own ++ level ∷ [])) ≡ true → recessive_runs (own ++ level ∷ []) ≡ recessive_runs own + 1
runs_one own level h = runs_more own level ∙ ap (λ b. recessive_runs own + cond b 1 0) h

off_on : (m : Progress) (step : Step) (own : List Level) (x : Sampled) (runs run : ℕ) → recessive_runs (own ++ x.level ∷ []) ≡ runs
    → run_at_end Recessive (own ++ x.level ∷ []) % 11 ≡ run → runs < 128
    → step ≡ says happens.Nothing → m.state ≡ states.BusOff runs run → Meets m step (stretch_by OffBus own) x
off_on m step own x runs run e f below is at =
    meets_on m step _ x happens.Nothing (states.BusOff runs run)
    (ap (λ b. cond b (begins happens.Recovered (free x.head) []) (continues happens.Nothing)) (ne_eqb _ 128 (λ n. omega arith)))
    is at (refl, record { runs_are = sym e; runs_small = below; run_is = sym f })

-- a dominant sample
pub off_broken : (m : Progress) (step : Step) (own : List Level) (x : Sampled) (runs run : ℕ) → IsBusOff runs run own → is_dominant x.level ≡ true
    → step ≡ says happens.Nothing → m.state ≡ states.BusOff runs 0 → Meets m step (stretch_by OffBus own) x
off_broken m step own x runs run b h is at =
    let none : run_at_end Recessive (own ++ x.level ∷ []) ≡ 0 = run_broken own x.level h in
    off_on m step own x runs 0 (runs_same own x.level (ap ends_run none) ∙ sym b.runs_are) (ap (λ r. r % 11) none) b.runs_small is at

-- a recessive one within a run of eleven
pub off_longer : (m : Progress) (step : Step) (own : List Level) (x : Sampled) (runs run : ℕ) → IsBusOff runs run own → is_dominant x.level ≡ false → run < 10
    → step ≡ says happens.Nothing → m.state ≡ states.BusOff runs (run + 1) → Meets m step (stretch_by OffBus own) x
off_longer m step own x runs run b h short is at =
    let longer : run_at_end Recessive (own ++ x.level ∷ []) ≡ suc (run_at_end Recessive own) = run_recessive own x.level h in
    let run_is : run ≡ run_at_end Recessive own % 11 = b.run_is in
    let left : run_at_end Recessive (own ++ x.level ∷ []) % 11 ≡ run + 1 = ap (λ r. r % 11) longer ∙ omega arith in
    off_on m step own x runs (run + 1)
    (runs_same own x.level (ap (λ e. e && nat_lt 0 (run_at_end Recessive (own ++ x.level ∷ []))) (ne_eqb _ 0 (λ n. omega arith))) ∙ sym b.runs_are)
    left b.runs_small is at

-- a run of eleven is complete
completes : (own : List Level) (x : Sampled) (runs run : ℕ) → IsBusOff runs run own → is_dominant x.level ≡ false → run ≡ 10
    → (recessive_runs (own ++ x.level ∷ []) ≡ runs + 1) × (run_at_end Recessive (own ++ x.level ∷ []) % 11 ≡ 0)
completes own x runs run b h ten =
    let longer : run_at_end Recessive (own ++ x.level ∷ []) ≡ suc (run_at_end Recessive own) = run_recessive own x.level h in
    let run_is : run ≡ run_at_end Recessive own % 11 = b.run_is in
    let over : run_at_end Recessive (own ++ x.level ∷ []) % 11 ≡ 0 = ap (λ r. r % 11) longer ∙ omega arith in (
      runs_one own x.level
          (ap (λ e. e && nat_lt 0 (run_at_end Recessive (own ++ x.level ∷ []))) (eq-eqb _ 0 over) ∙ lt-ltb 0 _ (omega arith))
          ∙ ap (λ n. n + 1) (sym b.runs_are),
      over,
    )

pub off_run : (m : Progress) (step : Step) (own : List Level) (x : Sampled) (runs run : ℕ) → IsBusOff runs run own → is_dominant x.level ≡ false → run ≡ 10 → runs < 127
    → step ≡ says happens.Nothing → m.state ≡ states.BusOff (runs + 1) 0 → Meets m step (stretch_by OffBus own) x
off_run m step own x runs run b h ten few is at =
    let c : (recessive_runs (own ++ x.level ∷ []) ≡ runs + 1) × (run_at_end Recessive (own ++ x.level ∷ []) % 11 ≡ 0) = completes own x runs run b h ten in
    off_on m step own x (runs + 1) 0 c.0 c.1 (omega arith) is at

-- the last of them
pub off_ends : (m : Progress) (step : Step) (own : List Level) (x : Sampled) (runs run : ℕ) → IsBusOff runs run own → is_dominant x.level ≡ false → run ≡ 10 → 127 ≤ runs
    → step ≡ says happens.Recovered → IsIn m (stretch_by (free x.head) []) → Meets m step (stretch_by OffBus own) x
off_ends m step own x runs run b h ten many is p =
    let c : (recessive_runs (own ++ x.level ∷ []) ≡ runs + 1) × (run_at_end Recessive (own ++ x.level ∷ []) % 11 ≡ 0) = completes own x runs run b h ten in
    let small : runs < 128 = b.runs_small in
    meets_end m step _ x happens.Recovered (free x.head) []
    (ap (λ t. cond t (begins happens.Recovered (free x.head) []) (continues happens.Nothing)) (eq-eqb _ 128 (omega arith))) is p
