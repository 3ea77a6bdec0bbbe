-- A machine keeps its silence, sample by sample.
use Rattle.std.proofs.Common.{◌≡◌, ◌∙◌, ℕ, suc, ◌+◌, ◌-◌, ◌*◌, ◌%◌, ◌<◌, ◌≤◌, List, [], ◌∷◌, ◌++◌, length, Bool, true, false, not, cond, ◌&&◌, Option, Some, None, refl, sym, ap, subst, arith, append-nil, length-append, min, max}
use Rattle.std.specs.Prelude.{nat_lt, nat_eq, ◌==◌, if◌then◌else◌}
use Rattle.std.specs.List.{list_any}
use Rattle.std.proofs.lemmas.Bool.{lt-leb, lt-ltb, ne_eqb, eqb-true, eqb-false, and_parts, cond_both}
use Rattle.wl_level.specs.declared.Level.{Level}
use Rattle.wl_level.specs.declared.Level.TheVariants.{Dominant, Recessive}
use Rattle.wl_level.specs.Levels.{same, is_dominant}
use Rattle.wl_level.specs.Places.{before, or_at, run_at, run_at_end}
use Rattle.wl_level.proofs.Callers.{run_more}
use Rattle.wl_frame.specs.Stuffing.{is_stuff, destuffed_bits}
use Rattle.wl_frame.specs.Grammar.{Content, is_whole, bits_left}
use Rattle.wl_frame.proofs.Callers.{left_least, left_more, left_whole, stuff_run, destuffed_more, run_more as equal_more}
use Rattle.wl_confine.specs.declared.ErrorKind.TheVariants.{Stuff}
use Rattle.wl_confine.specs.declared.Happened.{Happened}
use Rattle.wl_confine.specs.declared.Happened.TheVariants as happens
use Rattle.wl_machine.specs.declared.state.Role.{Role}
use Rattle.wl_machine.specs.declared.state.Role.TheVariants.{Tx, Rx}
use Rattle.wl_machine.specs.Stretch.{Flag, Sort, Stretch, Sampled, Judgement, continues, begins, free}
use Rattle.wl_machine.specs.Stretch.Flag.{ActiveFlag, OverloadFlag, PassiveFlag}
use Rattle.wl_machine.specs.Stretch.Sort.{Integration, Idle, Framing, Flagging, Waiting, Delimiting, Intermission, Suspension, OffBus}
use Rattle.wl_machine.specs.Stretch.Input.{Sample}
use Rattle.wl_machine.specs.Flags.{fails, long_from, dominant_run, is_after_flag, is_each_eighth}
use Rattle.wl_machine.specs.Frames.{stuffed_end, frame_role, frame_drive, drive_up_to, stuffed_drive, tail_drive}
use Rattle.wl_machine.specs.BetweenFrames.{recessive_runs, idle_on}
use Rattle.wl_machine.specs.Judged.{judged, or_next, stretch_after, drive_of}
use Rattle.wl_machine.specs.Silence.{silence_in_frame, silence_by, silence_of}
use Rattle.wl_machine.specs.States.{stretch_by}
use Rattle.wl_machine.proofs.Between.{ends_run, run_recessive, run_broken, runs_same, runs_one}
use Rattle.wl_machine.proofs.Framed.{end_more, role_receives}
use Rattle.wl_machine.proofs.FrameSteps.{receiving_is}

-- a stretch wants recessive, for some samples more too
record IsSilent (heads : Bool) (n : ℕ) (s : Stretch) : Type 0 where
  drive : drive_of s ≡ Recessive
  left : n ≤ silence_of heads s

by_judgement : (heads : Bool) (n : ℕ) (s : Stretch) (x : Sampled) (j : Judgement) → judged s x ≡ j → IsSilent heads n (or_next j.next (stretch_by s.sort (s.own ++ x.level ∷ []))) → IsSilent heads n (stretch_after s (Sample x))
by_judgement heads n s x j e h = subst (λ (k : Judgement). IsSilent heads n (or_next k.next (stretch_by s.sort (s.own ++ x.level ∷ [])))) (sym e) h

-- integration

run_few : (b : Bool) (r : ℕ) → cond b (suc r) 0 ≤ suc r
run_few true r = omega arith
run_few false r = omega arith

recessive_few : (own : List Level) (level : Level) → run_at_end Recessive (own ++ level ∷ []) ≤ suc (run_at_end Recessive own)
recessive_few own level =
    (let e = run_more Recessive own level in let f = run_few (same level Recessive) (run_at_end Recessive own) in omega arith)

integrates : (heads : Bool) (own : List Level) (x : Sampled) (n : ℕ) → suc n ≤ 10 - run_at_end Recessive own → IsSilent heads n (stretch_after (stretch_by Integration own) (Sample x))
integrates heads own x n h =
    let few = recessive_few own x.level in
    by_judgement heads n (stretch_by Integration own) x (continues happens.Nothing)
    (ap (λ b. cond b (begins happens.Nothing (free x.head) []) (continues happens.Nothing)) (ne_eqb (run_at_end Recessive (own ++ x.level ∷ [])) 11 (λ e. omega arith)))
    (record { drive = refl; left = omega arith })

-- waits

waits : (heads : Bool) (flag : Flag) (role : Role) (flagged own : List Level) (x : Sampled) (n : ℕ) → suc n ≤ 1 → IsSilent heads n (stretch_after (stretch_by (Waiting flag role flagged) own) (Sample x))
waits heads flag role flagged own x n h = record {
  drive =
      cond_both (not (is_dominant x.level)) _ _ P (λ e. refl)
      (λ e. cond_both (is_after_flag flag role own) _ _ P (λ e. refl)
      (λ e. cond_both (is_each_eighth (long_from flag) (dominant_run flag flagged (own ++ x.level ∷ []))) _ _ P (λ e. refl) (λ e. refl)));
  left = omega arith;
}
  where
    P : Judgement → Type 0
    P j = drive_of (or_next j.next (stretch_by (Waiting flag role flagged) (own ++ x.level ∷ []))) ≡ Recessive

-- bus off

offs_by : (heads : Bool) (own : List Level) (x : Sampled) (n runs run : ℕ) → recessive_runs (own ++ x.level ∷ []) ≡ runs → run_at_end Recessive (own ++ x.level ∷ []) % 11 ≡ run
    → n ≤ (128 - runs) * 11 - suc run → runs < 128 → IsSilent heads n (stretch_after (stretch_by OffBus own) (Sample x))
offs_by heads own x n runs run e f h below =
    by_judgement heads n (stretch_by OffBus own) x (continues happens.Nothing)
    (ap (λ b. cond b (begins happens.Recovered (free x.head) []) (continues happens.Nothing)) (ne_eqb (recessive_runs (own ++ x.level ∷ [])) 128 (λ g. omega arith)))
    (record { drive = refl; left = (let g : (128 - recessive_runs (own ++ x.level ∷ [])) * 11 ≡ (128 - runs) * 11 = ap (λ k. (128 - k) * 11) e in omega arith) })

offs : (heads : Bool) (own : List Level) (x : Sampled) (n : ℕ) → suc n ≤ (128 - recessive_runs own) * 11 - suc (run_at_end Recessive own % 11) → IsSilent heads n (stretch_after (stretch_by OffBus own) (Sample x))
offs heads own x n h = by_level (is_dominant x.level) refl
  where
    by_run : is_dominant x.level ≡ false → (b : Bool) → nat_eq (run_at_end Recessive (own ++ x.level ∷ []) % 11) 0 ≡ b → IsSilent heads n (stretch_after (stretch_by OffBus own) (Sample x))
    by_run d true e =
        let longer = run_recessive own x.level d in
        let zero_now = eqb-true (run_at_end Recessive (own ++ x.level ∷ []) % 11) 0 e in
        let ten : run_at_end Recessive own % 11 ≡ 10 = (let f : suc (run_at_end Recessive own) % 11 ≡ 0 = sym (ap (λ r. r % 11) longer) ∙ zero_now in omega arith) in
        offs_by heads own x n (recessive_runs own + 1) 0
        (runs_one own x.level (ap (λ t. t && nat_lt 0 (run_at_end Recessive (own ++ x.level ∷ []))) e ∙ lt-ltb 0 (run_at_end Recessive (own ++ x.level ∷ [])) (omega arith)))
        zero_now (omega arith) (omega arith)
    by_run d false e =
        let longer = run_recessive own x.level d in
        let some_now = eqb-false (run_at_end Recessive (own ++ x.level ∷ []) % 11) 0 e in
        let one_more : run_at_end Recessive (own ++ x.level ∷ []) % 11 ≡ run_at_end Recessive own % 11 + 1 =
        (let f : run_at_end Recessive (own ++ x.level ∷ []) % 11 ≡ suc (run_at_end Recessive own) % 11 = ap (λ r. r % 11) longer in omega arith) in
        offs_by heads own x n (recessive_runs own) (run_at_end Recessive own % 11 + 1)
        (runs_same own x.level (ap (λ t. t && nat_lt 0 (run_at_end Recessive (own ++ x.level ∷ []))) e))
        one_more (omega arith) (omega arith)

    by_level : (d : Bool) → is_dominant x.level ≡ d → IsSilent heads n (stretch_after (stretch_by OffBus own) (Sample x))
    by_level true d =
        let none = run_broken own x.level d in
        offs_by heads own x n (recessive_runs own) 0 (runs_same own x.level (ap ends_run none)) (ap (λ r. r % 11) none) (omega arith) (omega arith)
    by_level false d = by_run d (nat_eq (run_at_end Recessive (own ++ x.level ∷ []) % 11) 0) refl

-- frames

equal_few : (b : Bool) (r : ℕ) → cond b (suc r) 1 ≤ suc r
equal_few true r = omega arith
equal_few false r = omega arith

-- a sample takes one of the bits that are left at most
left_kept : (bits : List Level) (s : Bool) (level : Level) → bits_left bits ≤ suc (bits_left (bits ++ cond s [] (level ∷ [])))
left_kept bits true level = (let e : bits_left (bits ++ []) ≡ bits_left bits = ap bits_left (append-nil bits) in omega arith)
left_kept bits false level = left_more bits level

module _ (heads : Bool) (head : Option Content) (own : List Level) (x : Sampled) (n : ℕ) where
  abbrev grown : List Level
  grown = own ++ x.level ∷ []

  equal_grown : run_at grown (length grown) ≤ suc (run_at own (length own))
  equal_grown = (let e = equal_more own x.level in let f = equal_few (same (before own (length own)) x.level) (run_at own (length own)) in omega arith)

  left_grown : bits_left (destuffed_bits own (length own)) ≤ suc (bits_left (destuffed_bits grown (length grown)))
  left_grown =
      let e : bits_left (destuffed_bits grown (length grown)) ≡ bits_left (destuffed_bits own (length own) ++ cond (is_stuff own (length own)) [] (x.level ∷ [])) =
      ap bits_left (destuffed_more own x.level) in
      let f = left_kept (destuffed_bits own (length own)) (is_stuff own (length own)) x.level in
      omega arith

  goes_in : frame_role head grown ≡ Rx → stuffed_end grown ≡ None → suc n ≤ min (5 - run_at own (length own)) (bits_left (destuffed_bits own (length own))) → IsSilent heads n (stretch_by (Framing head) grown)
  goes_in role end h = record {
    drive = ap (λ e. drive_up_to e head grown) end ∙ ap (λ r. stuffed_drive r head grown) role;
    left =
        (let e : silence_by heads (Framing head) grown ≡ min (5 - run_at grown (length grown)) (bits_left (destuffed_bits grown (length grown))) =
        ap (λ o. silence_in_frame (frame_role head grown) o grown) end ∙ ap (λ r. silence_in_frame r None grown) role in
        let f = equal_grown in
        let g = left_grown in
        omega arith);
  }

  ends : frame_role head grown ≡ Rx → stuffed_end grown ≡ Some (length grown) → is_whole (destuffed_bits grown (length grown)) ≡ true
      → suc n ≤ min (5 - run_at own (length own)) (bits_left (destuffed_bits own (length own))) → IsSilent heads n (stretch_by (Framing head) grown)
  ends role end whole h = record {
    drive =
        ap (λ e. drive_up_to e head grown) end ∙ ap (λ r. tail_drive r (destuffed_bits grown (length grown)) (length grown - length grown)) role
        ∙ ap (tail_drive Rx (destuffed_bits grown (length grown))) (let e : length grown - length grown ≡ 0 = omega arith in e);
    left = (let f = left_whole (destuffed_bits grown (length grown)) whole in let g = left_grown in omega arith);
  }

  receives : frame_role head own ≡ Rx → stuffed_end own ≡ None → suc n ≤ min (5 - run_at own (length own)) (bits_left (destuffed_bits own (length own)))
      → IsSilent heads n (stretch_after (stretch_by (Framing head) own) (Sample x))
  receives role going h =
      by_judgement heads n (stretch_by (Framing head) own) x (continues happens.Nothing)
      (receiving_is head own x role going
      ∙ ap (λ s. cond (s && same x.level (before own (length own))) (fails Rx x.mode Stuff) (continues happens.Nothing))
      (stuff_run own (length own) ∙ lt-leb 5 (run_at own (length own)) (omega arith)))
      (behind (is_whole (destuffed_bits grown (length grown)) && not (is_stuff grown (length grown))) refl)
    where
      behind : (b : Bool) → (is_whole (destuffed_bits grown (length grown)) && not (is_stuff grown (length grown))) ≡ b → IsSilent heads n (stretch_by (Framing head) grown)
      behind true e =
          ends (role_receives head own x.level role)
          (end_more own x.level ∙ ap (λ o. or_at o (is_whole (destuffed_bits grown (length grown)) && not (is_stuff grown (length grown))) (length grown)) going ∙ ap (λ t. or_at None t (length grown)) e)
          (and_parts (is_whole (destuffed_bits grown (length grown))) (not (is_stuff grown (length grown))) e).0 h
      behind false e =
          goes_in (role_receives head own x.level role)
          (end_more own x.level ∙ ap (λ o. or_at o (is_whole (destuffed_bits grown (length grown)) && not (is_stuff grown (length grown))) (length grown)) going ∙ ap (λ t. or_at None t (length grown)) e) h

  frames : (r : Role) (o : Option ℕ) → frame_role head own ≡ r → stuffed_end own ≡ o → suc n ≤ silence_in_frame r o own → IsSilent heads n (stretch_after (stretch_by (Framing head) own) (Sample x))
  frames Rx None role going h = receives role going h
  frames Rx (Some end) role going h = absurd (omega arith)
  frames Tx o role going h = absurd (omega arith)

-- passive flags

runs_most : (own : List Level) (level : Level)
    → max (run_at_end Dominant (own ++ level ∷ [])) (run_at_end Recessive (own ++ level ∷ [])) ≤ suc (max (run_at_end Dominant own) (run_at_end Recessive own))
runs_most own level =
    (let e = run_more Dominant own level in
    let f = run_few (same level Dominant) (run_at_end Dominant own) in
    let g = recessive_few own level in
    omega arith)

-- a run of six ends after a run of five
run_long : (own : List Level) (level : Level) → run_at_end level (own ++ level ∷ []) ≡ 6 → 5 ≤ max (run_at_end Dominant own) (run_at_end Recessive own)
run_long own Dominant h = (let e = run_more Dominant own Dominant in omega arith)
run_long own Recessive h = (let e = run_more Recessive own Recessive in omega arith)

flags : (heads : Bool) (unacknowledged : Bool) (role : Role) (own : List Level) (x : Sampled) (n : ℕ) → suc n ≤ 7 - max (run_at_end Dominant own) (run_at_end Recessive own)
    → IsSilent heads n (stretch_after (stretch_by (Flagging (PassiveFlag unacknowledged) role) own) (Sample x))
flags heads unacknowledged role own x n h = by_run (run_at_end x.level (own ++ x.level ∷ []) == 6) refl
  where
    happened : Happened
    happened = if unacknowledged && is_dominant x.level && not (list_any is_dominant own) then happens.PassiveAck else happens.Nothing

    by_run : (b : Bool) → (run_at_end x.level (own ++ x.level ∷ []) == 6) ≡ b → IsSilent heads n (stretch_after (stretch_by (Flagging (PassiveFlag unacknowledged) role) own) (Sample x))
    by_run true e =
        by_judgement heads n (stretch_by (Flagging (PassiveFlag unacknowledged) role) own) x (begins happened (Waiting (PassiveFlag unacknowledged) role (own ++ x.level ∷ [])) [])
        (ap (λ b. cond b (begins happened (Waiting (PassiveFlag unacknowledged) role (own ++ x.level ∷ [])) []) (continues happened)) e)
        (record { drive = refl; left = (let f = run_long own x.level (eqb-true (run_at_end x.level (own ++ x.level ∷ [])) 6 e) in omega arith) })
    by_run false e =
        by_judgement heads n (stretch_by (Flagging (PassiveFlag unacknowledged) role) own) x (continues happened)
        (ap (λ b. cond b (begins happened (Waiting (PassiveFlag unacknowledged) role (own ++ x.level ∷ [])) []) (continues happened)) e)
        (record { drive = refl; left = (let f = runs_most own x.level in omega arith) })

-- suspensions, and the idle bus

-- after a start of frame
started : (heads : Bool) (n : ℕ) (level : Level) → n ≤ 4 → IsSilent heads n (stretch_by (Framing None) (level ∷ []))
started heads n level h = record { drive = refl; left = (let l = left_least (level ∷ []) in omega arith) }

abbrev suspended : Sampled → List Level → Judgement
suspended x own = cond (length own == 7) (begins happens.Nothing (free x.head) []) (continues happens.Nothing)

suspends_dominant : (heads : Bool) (own : List Level) (x : Sampled) (n : ℕ) → is_dominant x.level ≡ true → n ≤ 4 → IsSilent heads n (stretch_after (stretch_by Suspension own) (Sample x))
suspends_dominant heads own x n d h =
    by_judgement heads n (stretch_by Suspension own) x (begins happens.Nothing (Framing None) (x.level ∷ []))
    (ap (λ b. cond b (begins happens.Nothing (Framing None) (x.level ∷ [])) (suspended x own)) d) (started heads n x.level h)

suspends : (heads : Bool) (own : List Level) (x : Sampled) (n : ℕ) → (heads ≡ false → x.head ≡ None) → suc n ≤ silence_by heads Suspension own
    → (d : Bool) → is_dominant x.level ≡ d → IsSilent heads n (stretch_after (stretch_by Suspension own) (Sample x))
suspends true own x n e h true d = suspends_dominant true own x n d (omega arith)
suspends true own x n e h false d =
    by_judgement true n (stretch_by Suspension own) x (continues happens.Nothing)
    (ap (λ b. cond b (begins happens.Nothing (Framing None) (x.level ∷ [])) (suspended x own)) d
    ∙ ap (λ b. cond b (begins happens.Nothing (free x.head) []) (continues happens.Nothing)) (ne_eqb (length own) 7 (λ e. omega arith)))
    (record { drive = refl; left = omega (arith, length-append own (x.level ∷ [])) })
suspends false own x n e h true d = suspends_dominant false own x n d (omega arith)
suspends false own x n e h false d = ends_or_not (length own == 7) refl
  where
    ends_or_not : (b : Bool) → (length own == 7) ≡ b → IsSilent false n (stretch_after (stretch_by Suspension own) (Sample x))
    ends_or_not true f =
        by_judgement false n (stretch_by Suspension own) x (begins happens.Nothing Idle [])
        (ap (λ b. cond b (begins happens.Nothing (Framing None) (x.level ∷ [])) (suspended x own)) d
        ∙ ap (λ b. cond b (begins happens.Nothing (free x.head) []) (continues happens.Nothing)) f ∙ ap (λ o. begins happens.Nothing (free o) []) (e refl))
        (record { drive = refl; left = omega arith })
    ends_or_not false f =
        by_judgement false n (stretch_by Suspension own) x (continues happens.Nothing)
        (ap (λ b. cond b (begins happens.Nothing (Framing None) (x.level ∷ [])) (suspended x own)) d
        ∙ ap (λ b. cond b (begins happens.Nothing (free x.head) []) (continues happens.Nothing)) f)
        (record { drive = refl; left = omega arith })

idles : (heads : Bool) (own : List Level) (x : Sampled) (n : ℕ) → (heads ≡ false → x.head ≡ None) → suc n ≤ silence_by heads Idle own
    → (d : Bool) → is_dominant x.level ≡ d → IsSilent heads n (stretch_after (stretch_by Idle own) (Sample x))
idles true own x n e h b d = absurd (omega arith)
idles false own x n e h true d =
    by_judgement false n (stretch_by Idle own) x (begins happens.Nothing (Framing None) (x.level ∷ []))
    (ap (λ b. cond b (begins happens.Nothing (Framing None) (x.level ∷ [])) (idle_on x.head)) d) (started false n x.level (omega arith))
idles false own x n e h false d =
    by_judgement false n (stretch_by Idle own) x (continues happens.Nothing)
    (ap (λ b. cond b (begins happens.Nothing (Framing None) (x.level ∷ [])) (idle_on x.head)) d ∙ ap idle_on (e refl))
    (record { drive = refl; left = omega arith })

silent_by : (heads : Bool) (sort : Sort) (own : List Level) (x : Sampled) (n : ℕ) → (heads ≡ false → x.head ≡ None) → suc n ≤ silence_by heads sort own
    → IsSilent heads n (stretch_after (stretch_by sort own) (Sample x))
silent_by heads Integration own x n e h = integrates heads own x n h
silent_by heads (Framing head) own x n e h = frames heads head own x n (frame_role head own) (stuffed_end own) refl refl h
silent_by heads (Waiting flag role flagged) own x n e h = waits heads flag role flagged own x n h
silent_by heads OffBus own x n e h = offs heads own x n h
silent_by heads Idle own x n e h = idles heads own x n e h (is_dominant x.level) refl
silent_by heads (Flagging (PassiveFlag unacknowledged) role) own x n e h = flags heads unacknowledged role own x n h
silent_by heads (Flagging ActiveFlag role) own x n e h = absurd (omega arith)
silent_by heads (Flagging OverloadFlag role) own x n e h = absurd (omega arith)
silent_by heads (Delimiting role) own x n e h = absurd (omega arith)
silent_by heads (Intermission role) own x n e h = absurd (omega arith)
silent_by heads Suspension own x n e h = suspends heads own x n e h (is_dominant x.level) refl

pub silent_next : (heads : Bool) (s : Stretch) (x : Sampled) (n : ℕ) → (heads ≡ false → x.head ≡ None) → suc n ≤ silence_of heads s
    → drive_of (stretch_after s (Sample x)) ≡ Recessive
silent_next heads s x n e h = (silent_by heads s.sort s.own x n e h).drive

pub silent_left : (heads : Bool) (s : Stretch) (x : Sampled) (n : ℕ) → (heads ≡ false → x.head ≡ None) → suc n ≤ silence_of heads s
    → n ≤ silence_of heads (stretch_after s (Sample x))
silent_left heads s x n e h = (silent_by heads s.sort s.own x n e h).left

frame_now : (head : Option Content) (own : List Level) (n : ℕ) (r : Role) (o : Option ℕ) → frame_role head own ≡ r → stuffed_end own ≡ o → suc n ≤ silence_in_frame r o own → frame_drive head own ≡ Recessive
frame_now head own n Rx None role going h = ap (λ e. drive_up_to e head own) going ∙ ap (λ r. stuffed_drive r head own) role
frame_now head own n Rx (Some end) role going h = absurd (omega arith)
frame_now head own n Tx o role going h = absurd (omega arith)

now_by : (heads : Bool) (sort : Sort) (own : List Level) (n : ℕ) → suc n ≤ silence_by heads sort own → drive_of (stretch_by sort own) ≡ Recessive
now_by heads (Framing head) own n h = frame_now head own n (frame_role head own) (stuffed_end own) refl refl h
now_by heads Integration own n h = refl
now_by heads (Waiting flag role flagged) own n h = refl
now_by heads OffBus own n h = refl
now_by heads Idle own n h = refl
now_by heads (Flagging (PassiveFlag unacknowledged) role) own n h = refl
now_by heads (Flagging ActiveFlag role) own n h = absurd (omega arith)
now_by heads (Flagging OverloadFlag role) own n h = absurd (omega arith)
now_by heads (Delimiting role) own n h = refl
now_by heads (Intermission role) own n h = refl
now_by heads Suspension own n h = refl

pub silent_now : (heads : Bool) (s : Stretch) (n : ℕ) → suc n ≤ silence_of heads s → drive_of s ≡ Recessive
silent_now heads s n h = now_by heads s.sort s.own n h

in_frame_few : (r : Role) (o : Option ℕ) (own : List Level) → silence_in_frame r o own ≤ 1407
in_frame_few Rx None own = omega arith
in_frame_few Rx (Some end) own = omega arith
in_frame_few Tx o own = omega arith

few_by : (heads : Bool) (sort : Sort) (own : List Level) → silence_by heads sort own ≤ 1407
few_by heads Integration own = omega arith
few_by heads (Framing head) own = in_frame_few (frame_role head own) (stuffed_end own) own
few_by heads (Waiting flag role flagged) own = omega arith
few_by heads OffBus own = omega arith
few_by true Idle own = omega arith
few_by false Idle own = omega arith
few_by heads (Flagging (PassiveFlag unacknowledged) role) own = omega arith
few_by heads (Flagging ActiveFlag role) own = omega arith
few_by heads (Flagging OverloadFlag role) own = omega arith
few_by heads (Delimiting role) own = omega arith
few_by heads (Intermission role) own = omega arith
few_by true Suspension own = omega arith
few_by false Suspension own = omega arith

pub silent_few : (heads : Bool) (s : Stretch) → silence_of heads s ≤ 1407
silent_few heads s = few_by heads s.sort s.own

none_by : (sort : Sort) (own : List Level) → silence_by true sort own ≤ silence_by false sort own
none_by Integration own = omega arith
none_by (Framing head) own = omega arith
none_by (Waiting flag role flagged) own = omega arith
none_by OffBus own = omega arith
none_by Idle own = omega arith
none_by (Flagging (PassiveFlag unacknowledged) role) own = omega arith
none_by (Flagging ActiveFlag role) own = omega arith
none_by (Flagging OverloadFlag role) own = omega arith
none_by (Delimiting role) own = omega arith
none_by (Intermission role) own = omega arith
none_by Suspension own = omega arith

pub silent_none : (s : Stretch) → silence_of true s ≤ silence_of false s
silent_none s = none_by s.sort s.own
