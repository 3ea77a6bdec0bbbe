-- Flags and the wait after them, one sample later.
use Rattle.std.proofs.Common.{◌≡◌, ◌≢◌, ℕ, suc, ◌+◌, ◌-◌, ◌<◌, ◌≤◌, ◌%◌, ◌∙◌, List, [], ◌∷◌, ◌++◌, length, Bool, true, false, not, cond, ◌&&◌, ◌||◌, refl, sym, ap, subst, arith, append-nil, append_assoc, inl, inr}
use Rattle.std.specs.Prelude.{nat_eq}
use Rattle.std.specs.List.{list_any}
use Rattle.std.proofs.lemmas.List.Folds.{list_any-append}
use Rattle.std.proofs.lemmas.Bool.{eq-eqb, ne_eqb, lt-ltb, le-ltb, le-leb, lt-leb, cases_lt}
use Rattle.wl_level.specs.declared.Level.{Level}
use Rattle.wl_level.specs.declared.Level.TheVariants.{Dominant, Recessive}
use Rattle.wl_level.specs.Levels.{same, is_dominant, opposite}
use Rattle.wl_level.specs.Places.{run_at_end}
use Rattle.wl_level.proofs.Callers.{run_more, length_more, dominant_from, recessive_from}
use Rattle.wl_confine.specs.declared.Happened.{Happened}
use Rattle.wl_confine.specs.declared.Happened.TheVariants as happens
use Rattle.wl_machine.specs.declared.progress.Progress.{Progress}
use Rattle.wl_machine.specs.declared.progress.Step.{Step}
use Rattle.wl_machine.specs.declared.state.Cause.{Cause}
use Rattle.wl_machine.specs.declared.state.Cause.TheVariants.{Error, Overload}
use Rattle.wl_machine.specs.declared.state.Role.{Role}
use Rattle.wl_machine.specs.declared.state.Role.TheVariants.{Tx, Rx}
use Rattle.wl_machine.specs.declared.state.State.TheVariants as states
use Rattle.wl_machine.specs.Stretch.{Flag, Sampled, Judgement, continues, begins}
use Rattle.wl_machine.specs.Stretch.Flag.{ActiveFlag, OverloadFlag, PassiveFlag}
use Rattle.wl_machine.specs.Stretch.Sort.{Flagging, Waiting, Delimiting}
use Rattle.wl_machine.specs.Flags.{flag_bit_of, long_of, flagging, dominant_flag, waiting, long_from, dominant_run, is_after_flag, is_each_eighth}
use Rattle.wl_machine.specs.States.{IsAtState, IsPassive, IsWait, Meets, stretch_by, flag_of, until_long}
use Rattle.wl_machine.proofs.Steps.{says, meets_on, meets_end}

-- the dominant run one sample later
pub dominant_longer : (own : List Level) (level : Level) → is_dominant level ≡ true → run_at_end Dominant (own ++ level ∷ []) ≡ suc (run_at_end Dominant own)
dominant_longer own level h =
    run_more Dominant own level ∙ ap (λ l. cond (same l Dominant) (suc (run_at_end Dominant own)) 0) (dominant_from level h)

pub dominant_broken : (own : List Level) (level : Level) → is_dominant level ≡ false → run_at_end Dominant (own ++ level ∷ []) ≡ 0
dominant_broken own level h =
    run_more Dominant own level ∙ ap (λ l. cond (same l Dominant) (suc (run_at_end Dominant own)) 0) (recessive_from level h)

flagging_is : (cause : Cause) (role : Role) (own : List Level) (x : Sampled) → flagging (flag_of cause) role own x ≡ dominant_flag (flag_of cause) role own x
flagging_is Error role own x = refl
flagging_is Overload role own x = refl

long_from_is : (cause : Cause) → long_from (flag_of cause) ≡ 14
long_from_is Error = refl
long_from_is Overload = refl

dominant_run_is : (cause : Cause) (flagged own : List Level) → dominant_run (flag_of cause) flagged own ≡ run_at_end Dominant (flagged ++ own)
dominant_run_is Error flagged own = refl
dominant_run_is Overload flagged own = refl

-- a dominant flag goes on
pub flag_on : (m : Progress) (step : Step) (cause : Cause) (role : Role) (own : List Level) (x : Sampled) (count run : ℕ) (happened : Happened)
    → count ≡ length own → count < 5 → run_at_end Dominant (own ++ x.level ∷ []) ≡ run
    → happened ≡ cond (is_dominant x.level) happens.Nothing (flag_bit_of role) → step ≡ says happened
    → m.state ≡ states.Flag cause role (count + 1) run → Meets m step (stretch_by (Flagging (flag_of cause) role) own) x
flag_on m step cause role own x count run happened e below r h is at =
    meets_on m step _ x happened (states.Flag cause role (count + 1) run)
    (flagging_is cause role own x
    ∙ ap (λ b. cond b (begins (cond (is_dominant x.level) happens.Nothing (flag_bit_of role)) (Waiting (flag_of cause) role (own ++ x.level ∷ [])) [])
    (continues (cond (is_dominant x.level) happens.Nothing (flag_bit_of role)))) (ne_eqb (length own) 5 (λ n. omega arith))
    ∙ ap continues (sym h))
    is at (refl, record { is_length = omega (arith, length_more own x.level); below = omega arith }, sym r)

wait_left : (cause : Cause) (flagged : List Level) (run : ℕ) → run_at_end Dominant flagged ≡ run → run ≤ 6
    → 14 - run ≡ until_long (long_from (flag_of cause)) (dominant_run (flag_of cause) flagged [])
wait_left cause flagged run r small =
    ap (λ b. cond b (14 - run) (8 - (run - 14) % 8)) (sym (lt-ltb run 14 (omega arith)))
    ∙ ap (until_long 14) (sym r ∙ ap (run_at_end Dominant) (sym (append-nil flagged)) ∙ sym (dominant_run_is cause flagged []))
    ∙ ap (λ f. until_long f (dominant_run (flag_of cause) flagged [])) (sym (long_from_is cause))

-- a dominant flag ends with its sixth bit
pub flag_ends : (m : Progress) (step : Step) (cause : Cause) (role : Role) (own : List Level) (x : Sampled) (count run : ℕ) (late : Bool) (happened : Happened)
    → count ≡ length own → count ≡ 5 → run_at_end Dominant (own ++ x.level ∷ []) ≡ run → run ≤ 6
    → late ≡ is_after_flag (flag_of cause) role []
    → happened ≡ cond (is_dominant x.level) happens.Nothing (flag_bit_of role) → step ≡ says happened
    → m.state ≡ states.Wait role late (14 - run) → Meets m step (stretch_by (Flagging (flag_of cause) role) own) x
flag_ends m step cause role own x count run late happened e five r small l h is at =
    let flagged : List Level = own ++ x.level ∷ [] in
    meets_end m step _ x happened (Waiting (flag_of cause) role flagged) []
    (flagging_is cause role own x
    ∙ ap (λ b. cond b (begins (cond (is_dominant x.level) happens.Nothing (flag_bit_of role)) (Waiting (flag_of cause) role (own ++ x.level ∷ [])) [])
    (continues (cond (is_dominant x.level) happens.Nothing (flag_bit_of role)))) (eq-eqb (length own) 5 (omega arith))
    ∙ ap (λ a. begins a (Waiting (flag_of cause) role flagged) []) (sym h))
    is
    (subst (λ st. IsAtState st m.bits.items m.sent.items (Waiting (flag_of cause) role flagged) []) (sym at)
    (flag_of cause, flagged, refl, record { late_is = l; left_is = wait_left cause flagged run r small }))

-- the run of equal samples in a passive flag
pub passive_run : (level last : Level) (own : List Level) (run : ℕ) → run ≡ run_at_end last own → run_at_end (opposite last) own ≡ 0
    → run_at_end level (own ++ level ∷ []) ≡ cond (same level last) (run + 1) 1
passive_run Dominant Dominant own run e z = run_more Dominant own Dominant ∙ omega arith
passive_run Dominant Recessive own run e z = run_more Dominant own Dominant ∙ ap suc z
passive_run Recessive Dominant own run e z = run_more Recessive own Recessive ∙ ap suc z
passive_run Recessive Recessive own run e z = run_more Recessive own Recessive ∙ omega arith

other_run : (level : Level) (own : List Level) → run_at_end (opposite level) (own ++ level ∷ []) ≡ 0
other_run Dominant own = run_more Recessive own Dominant
other_run Recessive own = run_more Dominant own Recessive

owed_next : (unacknowledged had now : Bool) → ((unacknowledged && not had) && not now) ≡ (unacknowledged && not (had || (now || false)))
owed_next true true true = refl
owed_next true true false = refl
owed_next true false true = refl
owed_next true false false = refl
owed_next false had now = refl

counts_same : (unacknowledged had now : Bool) → ((unacknowledged && not had) && now) ≡ (unacknowledged && now && not had)
counts_same true true true = refl
counts_same true true false = refl
counts_same true false true = refl
counts_same true false false = refl
counts_same false had now = refl

abbrev pub acknowledged : Bool → Happened
acknowledged counts = cond counts happens.PassiveAck happens.Nothing

passive_happens : (unacknowledged owed : Bool) (own : List Level) (level : Level) (happened : Happened) → owed ≡ (unacknowledged && not (list_any is_dominant own))
    → happened ≡ acknowledged (owed && is_dominant level) → acknowledged (unacknowledged && is_dominant level && not (list_any is_dominant own)) ≡ happened
passive_happens unacknowledged owed own level happened o h =
    ap acknowledged (sym (counts_same unacknowledged (list_any is_dominant own) (is_dominant level)) ∙ ap (λ b. b && is_dominant level) (sym o)) ∙ sym h

-- a passive flag goes on
pub passive_on : (m : Progress) (step : Step) (role : Role) (own : List Level) (x : Sampled) (owed unacknowledged : Bool) (last : Level) (run next : ℕ) (still : Bool) (happened : Happened)
    → IsPassive owed unacknowledged last run own → next ≡ cond (same x.level last) (run + 1) 1 → next < 6
    → still ≡ (owed && not (is_dominant x.level)) → happened ≡ acknowledged (owed && is_dominant x.level) → step ≡ says happened
    → m.state ≡ states.PassiveFlag role still x.level next → Meets m step (stretch_by (Flagging (PassiveFlag unacknowledged) role) own) x
passive_on m step role own x owed unacknowledged last run next still happened p n below s h is at =
    let run_now : run_at_end x.level (own ++ x.level ∷ []) ≡ next = passive_run x.level last own run p.run_is p.alone ∙ sym n in
    let says_so : acknowledged (unacknowledged && is_dominant x.level && not (list_any is_dominant own)) ≡ happened = passive_happens unacknowledged owed own x.level happened p.owed_is h in
    meets_on m step _ x happened (states.PassiveFlag role still x.level next)
    (ap (λ b. cond b
    (begins (acknowledged (unacknowledged && is_dominant x.level && not (list_any is_dominant own))) (Waiting (PassiveFlag unacknowledged) role (own ++ x.level ∷ [])) [])
    (continues (acknowledged (unacknowledged && is_dominant x.level && not (list_any is_dominant own))))) (ne_eqb _ 6 (λ six. omega arith))
    ∙ ap continues says_so)
    is at (
      unacknowledged,
      refl,
      record {
        owed_is =
            s ∙ ap (λ b. b && not (is_dominant x.level)) p.owed_is ∙ owed_next unacknowledged (list_any is_dominant own) (is_dominant x.level)
            ∙ ap (λ b. unacknowledged && not b) (sym (list_any-append is_dominant own (x.level ∷ [])));
        run_is = sym run_now;
        alone = other_run x.level own;
        run_small = below;
      },
    )

late_passive : (unacknowledged : Bool) (role : Role) → is_after_flag ActiveFlag role [] ≡ is_after_flag (PassiveFlag unacknowledged) role []
late_passive unacknowledged Tx = refl
late_passive unacknowledged Rx = refl

-- a passive flag ends with six equal samples
pub passive_ends : (m : Progress) (step : Step) (role : Role) (own : List Level) (x : Sampled) (owed unacknowledged : Bool) (last : Level) (run : ℕ) (late : Bool) (happened : Happened)
    → IsPassive owed unacknowledged last run own → 6 ≡ cond (same x.level last) (run + 1) 1
    → late ≡ is_after_flag ActiveFlag role [] → happened ≡ acknowledged (owed && is_dominant x.level) → step ≡ says happened
    → m.state ≡ states.Wait role late 8 → Meets m step (stretch_by (Flagging (PassiveFlag unacknowledged) role) own) x
passive_ends m step role own x owed unacknowledged last run late happened p n l h is at =
    let flagged : List Level = own ++ x.level ∷ [] in
    let run_now : run_at_end x.level (own ++ x.level ∷ []) ≡ 6 = passive_run x.level last own run p.run_is p.alone ∙ sym n in
    let says_so : acknowledged (unacknowledged && is_dominant x.level && not (list_any is_dominant own)) ≡ happened = passive_happens unacknowledged owed own x.level happened p.owed_is h in
    meets_end m step _ x happened (Waiting (PassiveFlag unacknowledged) role flagged) []
    (ap (λ b. cond b
    (begins (acknowledged (unacknowledged && is_dominant x.level && not (list_any is_dominant own))) (Waiting (PassiveFlag unacknowledged) role (own ++ x.level ∷ [])) [])
    (continues (acknowledged (unacknowledged && is_dominant x.level && not (list_any is_dominant own))))) (eq-eqb _ 6 run_now)
    ∙ ap (λ a. begins a (Waiting (PassiveFlag unacknowledged) role flagged) []) says_so)
    is
    (subst (λ st. IsAtState st m.bits.items m.sent.items (Waiting (PassiveFlag unacknowledged) role flagged) []) (sym at)
    (PassiveFlag unacknowledged, flagged, refl, record { late_is = l ∙ late_passive unacknowledged role; left_is = refl }))

-- how many dominant samples are left, one dominant sample later
pub record IsNextLong (first run : ℕ) (now : Bool) (left : ℕ) : Type 0 where
  pub now_is : is_each_eighth first (suc run) ≡ now
  pub left_is : until_long first (suc run) ≡ left

until_below : (first run : ℕ) → run < first → until_long first run ≡ first - run
until_below first run h = ap (λ b. cond b (first - run) (8 - (run - first) % 8)) (lt-ltb run first h)

until_above : (first run : ℕ) → first ≤ run → until_long first run ≡ 8 - (run - first) % 8
until_above first run h = ap (λ b. cond b (first - run) (8 - (run - first) % 8)) (le-ltb run first h)

pub long_now : (first run : ℕ) → until_long first run ≡ 1 → IsNextLong first run true 8
long_now first run one = elim (cases_lt run first) [
  | inl below ↦
      (let here : first ≡ suc run = (let e : until_long first run ≡ first - run = until_below first run below in omega arith) in
      record {
        now_is = ap (λ b. b && nat_eq ((suc run - first) % 8) 0) (le-leb first (suc run) (omega arith)) ∙ eq-eqb ((suc run - first) % 8) 0 (omega arith);
        left_is = until_above first (suc run) (omega arith) ∙ omega arith;
      })
  | inr above ↦
      (let e : until_long first run ≡ 8 - (run - first) % 8 = until_above first run above in
      record {
        now_is = ap (λ b. b && nat_eq ((suc run - first) % 8) 0) (le-leb first (suc run) (omega arith)) ∙ eq-eqb ((suc run - first) % 8) 0 (omega arith);
        left_is = until_above first (suc run) (omega arith) ∙ omega arith;
      })
]

pub long_later : (first run : ℕ) → (until_long first run ≡ 1 → ⊥) → IsNextLong first run false (until_long first run - 1)
long_later first run more = elim (cases_lt run first) [
  | inl below ↦
      (let e : until_long first run ≡ first - run = until_below first run below in
      let ne : first - run ≢ 1 = (λ one. more (e ∙ one)) in
      let later : suc run < first = omega arith in
      record {
        now_is = ap (λ b. b && nat_eq ((suc run - first) % 8) 0) (lt-leb first (suc run) later);
        left_is = until_below first (suc run) later ∙ omega arith;
      })
  | inr above ↦
      (let e : until_long first run ≡ 8 - (run - first) % 8 = until_above first run above in
      let ne : 8 - (run - first) % 8 ≢ 1 = (λ one. more (e ∙ one)) in
      record {
        now_is = ap (λ b. b && nat_eq ((suc run - first) % 8) 0) (le-leb first (suc run) (omega arith)) ∙ ne_eqb ((suc run - first) % 8) 0 (λ z. omega arith);
        left_is = until_above first (suc run) (omega arith) ∙ omega arith;
      })
]

pub until_positive : (first run : ℕ) → 0 < until_long first run
until_positive first run = elim (cases_lt run first) [
  | inl below ↦ (let e : until_long first run ≡ first - run = until_below first run below in omega arith)
  | inr above ↦ (let e : until_long first run ≡ 8 - (run - first) % 8 = until_above first run above in omega arith)
]

-- the dominant run of a wait, one dominant sample later
dominant_joined : (flagged own : List Level) (level : Level) → is_dominant level ≡ true → run_at_end Dominant (flagged ++ (own ++ level ∷ [])) ≡ suc (run_at_end Dominant (flagged ++ own))
dominant_joined flagged own level h =
    ap (run_at_end Dominant) (sym (append_assoc flagged own (level ∷ []))) ∙ dominant_longer (flagged ++ own) level h

dominant_more : (flag : Flag) (flagged own : List Level) (level : Level) → is_dominant level ≡ true → dominant_run flag flagged (own ++ level ∷ []) ≡ suc (dominant_run flag flagged own)
dominant_more ActiveFlag flagged own level h = dominant_joined flagged own level h
dominant_more OverloadFlag flagged own level h = dominant_joined flagged own level h
dominant_more (PassiveFlag unacknowledged) flagged own level h =
    dominant_longer own level h

-- only the first sample of a wait is late
late_over : (flag : Flag) (role : Role) (own : List Level) (level : Level) → is_after_flag flag role (own ++ level ∷ []) ≡ false
late_over ActiveFlag Rx [] level = refl
late_over ActiveFlag Rx (a ∷ own) level = refl
late_over ActiveFlag Tx own level = refl
late_over OverloadFlag role own level = refl
late_over (PassiveFlag unacknowledged) Rx [] level = refl
late_over (PassiveFlag unacknowledged) Rx (a ∷ own) level = refl
late_over (PassiveFlag unacknowledged) Tx own level = refl

-- what happens at a dominant sample of a wait
abbrev pub wait_happens : Bool → Bool → Role → Happened
wait_happens late now role = cond late happens.RxAfterFlag (cond now (long_of role) happens.Nothing)

abbrev wait_cond : Role → Judgement → Bool → Bool → Bool → Judgement
wait_cond role over dominant late now = cond (not dominant) over (cond late (continues happens.RxAfterFlag) (cond now (continues (long_of role)) (continues happens.Nothing)))

wait_cases : (role : Role) (over : Judgement) (late now : Bool) → wait_cond role over true late now ≡ continues (wait_happens late now role)
wait_cases role over true now = refl
wait_cases role over false true = refl
wait_cases role over false false = refl

wait_judged : (flag : Flag) (role : Role) (flagged own : List Level) (x : Sampled) (late now : Bool) → is_dominant x.level ≡ true
    → late ≡ is_after_flag flag role own → is_each_eighth (long_from flag) (dominant_run flag flagged (own ++ x.level ∷ [])) ≡ now
    → waiting flag role flagged own x ≡ continues (wait_happens late now role)
wait_judged flag role flagged own x late now d l n =
    let over : Judgement = begins happens.Nothing (Delimiting role) (x.level ∷ []) in
    let long : Bool = is_each_eighth (long_from flag) (dominant_run flag flagged (own ++ x.level ∷ [])) in
    ap (λ b. wait_cond role over b (is_after_flag flag role own) long) d
    ∙ ap (λ b. wait_cond role over true b long) (sym l)
    ∙ ap (wait_cond role over true late) n
    ∙ wait_cases role over late now

-- a dominant sample of a wait
pub wait_on : (m : Progress) (step : Step) (flag : Flag) (role : Role) (flagged own : List Level) (x : Sampled) (late now : Bool) (left next : ℕ) (happened : Happened)
    → is_dominant x.level ≡ true → IsWait late left flag role flagged own → IsNextLong (long_from flag) (dominant_run flag flagged own) now next
    → happened ≡ wait_happens late now role → step ≡ says happened → m.state ≡ states.Wait role false next
    → Meets m step (stretch_by (Waiting flag role flagged) own) x
wait_on m step flag role flagged own x late now left next happened d w n h is at =
    let more : dominant_run flag flagged (own ++ x.level ∷ []) ≡ suc (dominant_run flag flagged own) = dominant_more flag flagged own x.level d in
    meets_on m step _ x happened (states.Wait role false next)
    (wait_judged flag role flagged own x late now d w.late_is (ap (is_each_eighth (long_from flag)) more ∙ n.now_is) ∙ ap continues (sym h))
    is at
    (flag, flagged, refl, record { late_is = sym (late_over flag role own x.level); left_is = sym (ap (until_long (long_from flag)) more ∙ n.left_is) })

-- the one that makes the run too long, and another
pub wait_one : (m : Progress) (step : Step) (flag : Flag) (role : Role) (flagged own : List Level) (x : Sampled) (late : Bool) (left next : ℕ) (happened : Happened)
    → is_dominant x.level ≡ true → IsWait late left flag role flagged own → left ≡ 1 → next ≡ 8
    → happened ≡ wait_happens late true role → step ≡ says happened → m.state ≡ states.Wait role false next
    → Meets m step (stretch_by (Waiting flag role flagged) own) x
wait_one m step flag role flagged own x late left next happened d w one n h is at =
    wait_on m step flag role flagged own x late true left 8 happened d w
    (long_now (long_from flag) (dominant_run flag flagged own) (sym w.left_is ∙ one)) h is (at ∙ ap (states.Wait role false) n)

pub wait_more : (m : Progress) (step : Step) (flag : Flag) (role : Role) (flagged own : List Level) (x : Sampled) (late : Bool) (left next : ℕ) (happened : Happened)
    → is_dominant x.level ≡ true → IsWait late left flag role flagged own → (left ≡ 1 → ⊥) → next ≡ left - 1
    → happened ≡ wait_happens late false role → step ≡ says happened → m.state ≡ states.Wait role false next
    → Meets m step (stretch_by (Waiting flag role flagged) own) x
wait_more m step flag role flagged own x late left next happened d w more n h is at =
    wait_on m step flag role flagged own x late false left (until_long (long_from flag) (dominant_run flag flagged own) - 1) happened d w
    (long_later (long_from flag) (dominant_run flag flagged own) (λ one. more (w.left_is ∙ one))) h is
    (at ∙ ap (states.Wait role false) (n ∙ ap (λ k. k - 1) w.left_is))
