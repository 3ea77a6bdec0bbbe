-- A machine that takes no part, one sample later.
use Rattle.std.proofs.Common.{◌≡◌, ◌∙◌, ℕ, zero, suc, ◌+◌, ◌%◌, ◌≤◌, List, [], ◌∷◌, ◌++◌, length, true, false, cond, ◌&&◌, Option, Some, None, refl, sym, ap, arith, add-one, inl, inr, ◌⊎◌}
use Rattle.std.specs.Prelude.{◌==◌, nat_lt, nat_eq}
use Rattle.std.proofs.lemmas.Bool.{ne_eqb}
use Rattle.wl_level.specs.declared.Level.{Level}
use Rattle.wl_level.specs.declared.Level.TheVariants.{Recessive}
use Rattle.wl_level.specs.Places.{run_at_end, run_before, count_places}
use Rattle.wl_level.proofs.Callers.{run_old, count_cong, length_more}
use Rattle.wl_frame.specs.Grammar.{Content}
use Rattle.wl_confine.specs.declared.Happened.TheVariants as happens
use Rattle.wl_machine.specs.Stretch.{Sort, Stretch, Sampled, Judgement, continues, begins, free}
use Rattle.wl_machine.specs.Stretch.Input.{Sample}
use Rattle.wl_machine.specs.Stretch.Sort.{Integration, Idle, Framing, Flagging, Waiting, Delimiting, Intermission, Suspension, OffBus}
use Rattle.wl_machine.specs.BetweenFrames.{recessive_runs}
use Rattle.wl_machine.specs.Judged.{judged_by, stretch_after, drive_by}
use Rattle.wl_machine.specs.States.{stretch_by}
use Rattle.wl_wire.specs.Wire.{is_between, may_be_alone}
use Rattle.wl_heal.specs.Joining.{is_apart, is_apart_by, is_no_fault}
use Rattle.wl_heal.proofs.Inside.{IsOfOutside}
use Rattle.wl_heal.proofs.Possible.{IsPossibleBy}
use Rattle.wl_heal.proofs.Samples.{going, either}

pub apart_test : IsOfOutside is_apart_by
apart_test = record {
  idle = refl;
  framing = λ head. refl;
  flagging = λ flag role. refl;
  waiting = λ flag role flagged. refl;
  delimiting = λ role. refl;
  intermission = λ role. refl;
  suspension = refl;
}

-- it drives recessive, and has no bit by itself
pub apart_drive : (sort : Sort) (own : List Level) → is_apart_by sort ≡ true → drive_by sort own ≡ Recessive
apart_drive Integration own h = refl
apart_drive OffBus own h = refl
apart_drive Idle own h = cc
apart_drive (Framing head) own h = cc
apart_drive (Flagging flag role) own h = cc
apart_drive (Waiting flag role flagged) own h = cc
apart_drive (Delimiting role) own h = cc
apart_drive (Intermission role) own h = cc
apart_drive Suspension own h = cc

pub apart_alone : (sort : Sort) (own : List Level) → is_apart_by sort ≡ true → may_be_alone (stretch_by sort own) ≡ false
apart_alone Integration own h = refl
apart_alone OffBus own h = refl
apart_alone Idle own h = cc
apart_alone (Framing head) own h = cc
apart_alone (Flagging flag role) own h = cc
apart_alone (Waiting flag role flagged) own h = cc
apart_alone (Delimiting role) own h = cc
apart_alone (Intermission role) own h = cc
apart_alone Suspension own h = cc

-- the runs of eleven, with a sample that ends none
runs_stay : (own : List Level) (l : Level) → (nat_eq (run_at_end Recessive (own ++ l ∷ []) % 11) 0 && nat_lt 0 (run_at_end Recessive (own ++ l ∷ []))) ≡ false
    → recessive_runs (own ++ l ∷ []) ≡ recessive_runs own
runs_stay own l none =
    let more : length (own ++ l ∷ []) ≡ suc (length own) = length_more own l ∙ add-one (length own) in
    ap (count_places (λ n. nat_eq (run_before Recessive (own ++ l ∷ []) (suc n) % 11) 0 && nat_lt 0 (run_before Recessive (own ++ l ∷ []) (suc n)))) more
    ∙ ap (λ c. c + cond (nat_eq (run_before Recessive (own ++ l ∷ []) (suc (length own)) % 11) 0 && nat_lt 0 (run_before Recessive (own ++ l ∷ []) (suc (length own)))) 1 0)
    (count_cong (λ n. nat_eq (run_before Recessive (own ++ l ∷ []) (suc n) % 11) 0 && nat_lt 0 (run_before Recessive (own ++ l ∷ []) (suc n)))
    (λ n. nat_eq (run_before Recessive own (suc n) % 11) 0 && nat_lt 0 (run_before Recessive own (suc n))) (length own)
    (λ k lt. ap (λ r. nat_eq (r % 11) 0 && nat_lt 0 r) (run_old Recessive own l (suc k) (omega arith))))
    ∙ ap (λ k. recessive_runs own + cond (nat_eq (run_before Recessive (own ++ l ∷ []) k % 11) 0 && nat_lt 0 (run_before Recessive (own ++ l ∷ []) k)) 1 0) (sym more)
    ∙ ap (λ b. recessive_runs own + cond b 1 0) none ∙ (let z : recessive_runs own + 0 ≡ recessive_runs own = omega arith in z)

no_run : (own : List Level) (l : Level) → run_at_end Recessive (own ++ l ∷ []) ≤ 10
    → (nat_eq (run_at_end Recessive (own ++ l ∷ []) % 11) 0 && nat_lt 0 (run_at_end Recessive (own ++ l ∷ []))) ≡ false
no_run own l few = by (run_at_end Recessive (own ++ l ∷ [])) few
  where
    by : (r : ℕ) → r ≤ 10 → (nat_eq (r % 11) 0 && nat_lt 0 r) ≡ false
    by zero le = refl
    by (suc r) le = ap (λ b. b && nat_lt 0 (suc r)) (ne_eqb (suc r % 11) 0 (λ e. omega arith))

-- it goes on to take no part until it has eleven recessive bits in a row
pub record StaysApart (s : Stretch) (x : Sampled) : Type 0 where
  pub still : is_apart (stretch_after s (Sample x)) ≡ true
  pub run : run_at_end Recessive (stretch_after s (Sample x)).own ≡ run_at_end Recessive (s.own ++ x.level ∷ [])

goes_on : (sort : Sort) (own : List Level) (x : Sampled) → is_apart_by sort ≡ true → judged_by sort own x ≡ continues happens.Nothing → StaysApart (stretch_by sort own) x
goes_on sort own x h e = record {
  still = ap (λ j. is_apart (going sort own x.level j)) e ∙ h;
  run = ap (λ j. run_at_end Recessive (going sort own x.level j).own) e;
}

pub stays_apart : (sort : Sort) (own : List Level) (x : Sampled) → IsPossibleBy sort own → is_apart_by sort ≡ true → run_at_end Recessive (own ++ x.level ∷ []) ≤ 10 → StaysApart (stretch_by sort own) x
stays_apart Integration own x p h few =
    goes_on Integration own x refl
    (ap (λ b. cond b (begins happens.Nothing (free x.head) []) (continues happens.Nothing)) (ne_eqb (run_at_end Recessive (own ++ x.level ∷ [])) 11 (λ e. omega arith)))
stays_apart OffBus own x p h few =
    goes_on OffBus own x refl
    (ap (λ b. cond b (begins happens.Recovered (free x.head) []) (continues happens.Nothing))
    (ne_eqb (recessive_runs (own ++ x.level ∷ [])) 128 (λ e. p (sym (runs_stay own x.level (no_run own x.level few)) ∙ e))))
stays_apart Idle own x p h few = cc
stays_apart (Framing head) own x p h few = cc
stays_apart (Flagging flag role) own x p h few = cc
stays_apart (Waiting flag role flagged) own x p h few = cc
stays_apart (Delimiting role) own x p h few = cc
stays_apart (Intermission role) own x p h few = cc
stays_apart Suspension own x p h few = cc

-- in any case it takes no part after it, or is between frames
freed : (head : Option Content) → is_between (stretch_by (free head) []) ≡ true
freed None = refl
freed (Some c) = refl

pub apart_or_between : (sort : Sort) (own : List Level) (x : Sampled) → is_apart_by sort ≡ true
    → (is_apart (stretch_after (stretch_by sort own) (Sample x)) ≡ true) ⊎ (is_between (stretch_after (stretch_by sort own) (Sample x)) ≡ true)
apart_or_between Integration own x h =
    either (λ j. (is_apart (going Integration own x.level j) ≡ true) ⊎ (is_between (going Integration own x.level j) ≡ true))
    (run_at_end Recessive (own ++ x.level ∷ []) == 11) (begins happens.Nothing (free x.head) []) (continues happens.Nothing) (inr (freed x.head)) (inl refl)
apart_or_between OffBus own x h =
    either (λ j. (is_apart (going OffBus own x.level j) ≡ true) ⊎ (is_between (going OffBus own x.level j) ≡ true))
    (recessive_runs (own ++ x.level ∷ []) == 128) (begins happens.Recovered (free x.head) []) (continues happens.Nothing) (inr (freed x.head)) (inl refl)
apart_or_between Idle own x h = cc
apart_or_between (Framing head) own x h = cc
apart_or_between (Flagging flag role) own x h = cc
apart_or_between (Waiting flag role flagged) own x h = cc
apart_or_between (Delimiting role) own x h = cc
apart_or_between (Intermission role) own x h = cc
apart_or_between Suspension own x h = cc

-- and finds no error
pub apart_no_fault : (sort : Sort) (own : List Level) (x : Sampled) → is_apart_by sort ≡ true → is_no_fault (judged_by sort own x).happened ≡ true
apart_no_fault Integration own x h =
    either (λ (j : Judgement). is_no_fault j.happened ≡ true) (run_at_end Recessive (own ++ x.level ∷ []) == 11) (begins happens.Nothing (free x.head) []) (continues happens.Nothing) refl refl
apart_no_fault OffBus own x h =
    either (λ (j : Judgement). is_no_fault j.happened ≡ true) (recessive_runs (own ++ x.level ∷ []) == 128) (begins happens.Recovered (free x.head) []) (continues happens.Nothing) refl refl
apart_no_fault Idle own x h = cc
apart_no_fault (Framing head) own x h = cc
apart_no_fault (Flagging flag role) own x h = cc
apart_no_fault (Waiting flag role flagged) own x h = cc
apart_no_fault (Delimiting role) own x h = cc
apart_no_fault (Intermission role) own x h = cc
apart_no_fault Suspension own x h = cc
