-- A machine keeps its rest, recessive sample by recessive sample.
use Rattle.std.proofs.Common.{◌≡◌, ◌∙◌, ℕ, suc, ◌+◌, ◌-◌, ◌*◌, ◌%◌, ◌<◌, ◌≤◌, List, [], ◌∷◌, ◌++◌, length, map, Bool, true, false, not, cond, ◌&&◌, Option, Some, None, ◌⊎◌, inl, inr, refl, sym, ap, subst, arith, length-append}
use Rattle.std.specs.Prelude.{nat_lt, nat_le, nat_eq, fold, ◌==◌}
use Rattle.std.specs.List.{All}
use Rattle.std.proofs.lemmas.List.Sums.{fold-append}
use Rattle.std.proofs.lemmas.Bool.{lt-ltb, le-leb, leb-true, ne_eqb, eqb-true, eqb-false, and_parts, cond_both}
use Rattle.wl_level.specs.declared.Level.{Level}
use Rattle.wl_level.specs.declared.Level.TheVariants.{Dominant, Recessive}
use Rattle.wl_level.specs.Places.{run_at_end}
use Rattle.wl_frame.specs.Stuffing.{destuffed_bits}
use Rattle.wl_frame.specs.Grammar.{Content, is_crc_right}
use Rattle.wl_confine.specs.declared.Mode.{Mode}
use Rattle.wl_confine.specs.declared.Mode.TheVariants.{Active, Passive, Off}
use Rattle.wl_confine.specs.declared.Happened.TheVariants as happens
use Rattle.wl_machine.specs.declared.state.Role.{Role}
use Rattle.wl_machine.specs.declared.state.Role.TheVariants.{Tx, Rx}
use Rattle.wl_machine.specs.Stretch.{Sort, Stretch, Sampled, Input, Judgement, continues, free}
use Rattle.wl_machine.specs.Stretch.Flag.{ActiveFlag, OverloadFlag, PassiveFlag}
use Rattle.wl_machine.specs.Stretch.Sort.{Integration, Idle, Framing, Flagging, Waiting, Delimiting, Intermission, Suspension, OffBus}
use Rattle.wl_machine.specs.Stretch.Input.{Sample, SwitchedOff}
use Rattle.wl_machine.specs.Frames.{stuffed_end, frame_role, frame_drive, drive_up_to, tail_drive, framing, sent_tail, received_tail}
use Rattle.wl_machine.specs.BetweenFrames.{recessive_runs, after_intermission, idle_on}
use Rattle.wl_machine.specs.Judged.{judged, or_next, stretch_after, stretch_of, drive_of}
use Rattle.wl_machine.specs.Silence.{silence_in_frame, silence_of}
use Rattle.wl_machine.specs.RecessiveStay.{RestsFor, IsRecessive, rest_at, rest_in_frame, rest_by, rest_of}
use Rattle.wl_machine.specs.States.{IsTail, sample_of, stretch_by}
use Rattle.wl_machine.proofs.Between.{run_recessive, runs_same, runs_one}
use Rattle.wl_machine.proofs.Framed.{role_receives, tail_next, tail_bits, tail_sends}
use Rattle.wl_machine.proofs.FrameSteps.{sent_tail_is, received_tail_is, sent_next, received_now, received_next, last_is}

-- a rest that goes on: by one sample of it, or with no frame handed
abbrev May : ℕ → ℕ → Option Content → Type 0
May n rest head = (suc n ≤ rest) ⊎ ((n ≡ 0) × (head ≡ None))

abbrev Goes : ℕ → Option ℕ → Option Content → Type 0
Goes n None head = ⊥
Goes n (Some rest) head = May n rest head

few : (n rest : ℕ) (head : Option Content) → May n rest head → n ≤ rest - 1
few n rest head (inl h) = omega arith
few n rest head (inr h) = (let e = h.0 in omega arith)

unhanded : (n rest : ℕ) (head : Option Content) → May n rest head → rest ≡ 0 → (n ≡ 0) × (head ≡ None)
unhanded n rest head (inl h) e = absurd (omega arith)
unhanded n rest head (inr h) e = h

freed : (n : ℕ) (head : Option Content) → (n ≡ 0) × (head ≡ None) → RestsFor n (rest_of (stretch_by (free head) []))
freed n None h = (let e = h.0 in omega arith)
freed n (Some frame) h = (let e = h.1 in cc)

behind_intermission : (n : ℕ) (role : Role) (mode : Mode) (head : Option Content) → (n ≡ 0) × (head ≡ None) → RestsFor n (rest_of (stretch_by (after_intermission role mode head) []))
behind_intermission n Tx Passive head h = (let e = h.0 in omega arith)
behind_intermission n Tx Active head h = freed n head h
behind_intermission n Tx Off head h = freed n head h
behind_intermission n Rx mode head h = freed n head h

module _ (n : ℕ) (head : Option Content) (mode : Mode) where
  abbrev x : Sampled
  x = sample_of Recessive head mode

  abbrev Rests : Sort → List Level → Judgement → Type 0
  Rests sort own j = RestsFor n (rest_of (or_next j.next (stretch_by sort (own ++ Recessive ∷ []))))

  by_judgement : (sort : Sort) (own : List Level) (j : Judgement) → judged (stretch_by sort own) x ≡ j → Rests sort own j → Rests sort own (judged (stretch_by sort own) x)
  by_judgement sort own j e h = subst (Rests sort own) (sym e) h

  longer : (own : List Level) → length (own ++ Recessive ∷ []) ≡ length own + 1
  longer own = length-append own (Recessive ∷ [])

  run_longer : (own : List Level) → run_at_end Recessive (own ++ Recessive ∷ []) ≡ suc (run_at_end Recessive own)
  run_longer own = run_recessive own Recessive refl

  integrates : (own : List Level) → May n (10 - run_at_end Recessive own) head → Rests Integration own (judged (stretch_by Integration own) x)
  integrates own h =
      let run = run_longer own in
      let less = few n (10 - run_at_end Recessive own) head h in
      cond_both (run_at_end Recessive (own ++ Recessive ∷ []) == 11) _ _ (Rests Integration own)
      (λ e. freed n head (unhanded n (10 - run_at_end Recessive own) head h (let f = eqb-true (run_at_end Recessive (own ++ Recessive ∷ [])) 11 e in omega arith)))
      (λ e. omega arith)

  intermits : (role : Role) (own : List Level) → May n (2 - length own) head → Rests (Intermission role) own (judged (stretch_by (Intermission role) own) x)
  intermits role own h =
      let more = longer own in
      let less = few n (2 - length own) head h in
      cond_both (length own == 2) _ _ (Rests (Intermission role) own)
      (λ e. behind_intermission n role mode head (unhanded n (2 - length own) head h (let f = eqb-true (length own) 2 e in omega arith)))
      (λ e. omega arith)

  suspends : (own : List Level) → May n (7 - length own) head → Rests Suspension own (judged (stretch_by Suspension own) x)
  suspends own h =
      let more = longer own in
      let less = few n (7 - length own) head h in
      cond_both (length own == 7) _ _ (Rests Suspension own)
      (λ e. freed n head (unhanded n (7 - length own) head h (let f = eqb-true (length own) 7 e in omega arith)))
      (λ e. omega arith)

  delimits : (role : Role) (own : List Level) → May n (10 - length own) head → Rests (Delimiting role) own (judged (stretch_by (Delimiting role) own) x)
  delimits role own h =
      let more = longer own in
      let less = few n (10 - length own) head h in
      cond_both (length own == 7) _ _ (Rests (Delimiting role) own)
      (λ e. let f = eqb-true (length own) 7 e in omega arith)
      (λ e. omega arith)

  flags : (unacknowledged : Bool) (role : Role) (own : List Level) → May n (16 - run_at_end Recessive own) head
      → Rests (Flagging (PassiveFlag unacknowledged) role) own (judged (stretch_by (Flagging (PassiveFlag unacknowledged) role) own) x)
  flags unacknowledged role own h =
      let run = run_longer own in
      let less = few n (16 - run_at_end Recessive own) head h in
      cond_both (run_at_end Recessive (own ++ Recessive ∷ []) == 6) _ _ (Rests (Flagging (PassiveFlag unacknowledged) role) own)
      (λ e. let f = eqb-true (run_at_end Recessive (own ++ Recessive ∷ [])) 6 e in omega arith)
      (λ e. omega arith)

  idles : (own : List Level) → May n 0 head → Rests Idle own (judged (stretch_by Idle own) x)
  idles own h =
      let none = unhanded n 0 head h refl in
      by_judgement Idle own (continues happens.Nothing) (ap idle_on none.1) (let e = none.0 in omega arith)

  -- bus off

  abbrev left : List Level → ℕ
  left own = (128 - recessive_runs own) * 11 - suc (run_at_end Recessive own % 11)

  offs_by : (own : List Level) (runs run : ℕ) → recessive_runs (own ++ Recessive ∷ []) ≡ runs → run_at_end Recessive (own ++ Recessive ∷ []) % 11 ≡ run
      → n ≤ (128 - runs) * 11 - suc run → (runs ≡ 128 → (n ≡ 0) × (head ≡ None)) → Rests OffBus own (judged (stretch_by OffBus own) x)
  offs_by own runs run e f less none =
      cond_both (recessive_runs (own ++ Recessive ∷ []) == 128) _ _ (Rests OffBus own)
      (λ g. freed n head (none (sym e ∙ eqb-true (recessive_runs (own ++ Recessive ∷ [])) 128 g)))
      (λ g. let k : (128 - recessive_runs (own ++ Recessive ∷ [])) * 11 ≡ (128 - runs) * 11 = ap (λ k. (128 - k) * 11) e in omega arith)

  offs : (own : List Level) → May n (left own) head → Rests OffBus own (judged (stretch_by OffBus own) x)
  offs own h = by_run (nat_eq (run_at_end Recessive (own ++ Recessive ∷ []) % 11) 0) refl
    where
      by_run : (b : Bool) → nat_eq (run_at_end Recessive (own ++ Recessive ∷ []) % 11) 0 ≡ b → Rests OffBus own (judged (stretch_by OffBus own) x)
      by_run true e =
          let run = run_longer own in
          let less = few n (left own) head h in
          let zero_now = eqb-true (run_at_end Recessive (own ++ Recessive ∷ []) % 11) 0 e in
          let ten : run_at_end Recessive own % 11 ≡ 10 = (let f : suc (run_at_end Recessive own) % 11 ≡ 0 = sym (ap (λ r. r % 11) run) ∙ zero_now in omega arith) in
          offs_by own (recessive_runs own + 1) 0
          (runs_one own Recessive (ap (λ t. t && nat_lt 0 (run_at_end Recessive (own ++ Recessive ∷ []))) e ∙ lt-ltb 0 (run_at_end Recessive (own ++ Recessive ∷ [])) (omega arith)))
          zero_now (omega arith) (λ g. unhanded n (left own) head h (omega arith))
      by_run false e =
          let run = run_longer own in
          let less = few n (left own) head h in
          let some_now = eqb-false (run_at_end Recessive (own ++ Recessive ∷ []) % 11) 0 e in
          let one_more : run_at_end Recessive (own ++ Recessive ∷ []) % 11 ≡ run_at_end Recessive own % 11 + 1 =
          (let f : run_at_end Recessive (own ++ Recessive ∷ []) % 11 ≡ suc (run_at_end Recessive own) % 11 = ap (λ r. r % 11) run in omega arith) in
          offs_by own (recessive_runs own) (run_at_end Recessive own % 11 + 1)
          (runs_same own Recessive (ap (λ t. t && nat_lt 0 (run_at_end Recessive (own ++ Recessive ∷ []))) e))
          one_more (omega arith) (λ g. unhanded n (left own) head h (omega arith))

  -- frames

  at_is : (place : ℕ) → 2 ≤ place → place ≤ 9 → rest_at place ≡ Some (12 - place)
  at_is place low high = ap (λ b. cond (b && nat_le place 9) (Some (12 - place)) None) (le-leb 2 place low) ∙ ap (λ b. cond b (Some (12 - place)) None) (le-leb place 9 high)

  -- a rest is at one of these places
  record IsPlace (place : ℕ) : Type 0 where
    low : 2 ≤ place
    high : place ≤ 9
    less : n ≤ 11 - place

  placed : (place : ℕ) → Goes n (rest_at place) head → IsPlace place
  placed place h = by (nat_le 2 place && nat_le place 9) refl h
    where
      by : (b : Bool) → (nat_le 2 place && nat_le place 9) ≡ b → Goes n (cond b (Some (12 - place)) None) head → IsPlace place
      by false e g = absurd g
      by true e g = record {
        low = leb-true 2 place (and_parts (nat_le 2 place) (nat_le place 9) e).0;
        high = leb-true place 9 (and_parts (nat_le 2 place) (nat_le place 9) e).1;
        less = (let less = few n (12 - place) head g in omega arith);
      }

  tail_of : (own : List Level) (end : ℕ) → stuffed_end own ≡ Some end → IsPlace (length own - end) → IsTail (length own - end) end own
  tail_of own end found p = record { found = found; place_is = (let low = p.low in omega arith); below = (let high = p.high in omega arith) }

  -- one place further
  next_place : (own : List Level) (place end : ℕ) → IsPlace place → IsTail (place + 1) end (own ++ Recessive ∷ []) → RestsFor n (rest_at (length (own ++ Recessive ∷ []) - end))
  next_place own place end p t =
      let low = p.low in
      let high = p.high in
      let less = p.less in
      let below = t.below in
      let place_is = t.place_is in
      subst (RestsFor n) (sym (at_is (length (own ++ Recessive ∷ []) - end) (omega arith) (omega arith))) (omega arith)

  -- the last place
  over : (place : ℕ) → IsPlace place → place ≡ 9 → n ≤ 2
  over place p e = (let less = p.less in omega arith)

  sends : (frame : Content) (own : List Level) (end : ℕ) → frame_role (Some frame) own ≡ Tx → stuffed_end own ≡ Some end → IsPlace (length own - end)
      → Rests (Framing (Some frame)) own (judged (stretch_by (Framing (Some frame)) own) x)
  sends frame own end role found p = by (length own - end == 9) refl
    where
      t : IsTail (length own - end) end own
      t = tail_of own end found p

      asked : framing (Some frame) own x ≡ sent_tail frame (length own - end) x
      asked = sent_tail_is frame own x (length own - end) end role t

      by : (b : Bool) → (length own - end == 9) ≡ b → Rests (Framing (Some frame)) own (judged (stretch_by (Framing (Some frame)) own) x)
      by true e =
          let nine = eqb-true (length own - end) 9 e in
          subst (Rests (Framing (Some frame)) own) (sym (asked ∙ ap (λ k. sent_tail frame k x) nine)) (over (length own - end) p nine)
      by false e =
          let low = p.low in
          let high = p.high in
          let nine = eqb-false (length own - end) 9 e in
          let next = tail_next (length own - end) end own Recessive t (omega arith) in
          by_judgement (Framing (Some frame)) own (continues happens.Nothing) (asked ∙ sent_next frame (length own - end) x (λ k. omega arith) refl nine)
          (subst (RestsFor n) (sym (ap (λ r. rest_in_frame r (stuffed_end (own ++ Recessive ∷ [])) (own ++ Recessive ∷ [])) (tail_sends frame (length own - end) end own Recessive t role)
          ∙ ap (λ o. rest_in_frame Tx o (own ++ Recessive ∷ [])) next.found)) (next_place own (length own - end) end p next))

  receives : (frame : Option Content) (own : List Level) (end : ℕ) → frame_role frame own ≡ Rx → stuffed_end own ≡ Some end → is_crc_right (destuffed_bits own end) ≡ true → IsPlace (length own - end)
      → Rests (Framing frame) own (judged (stretch_by (Framing frame) own) x)
  receives frame own end role found right p = by (length own - end == 9) refl
    where
      t : IsTail (length own - end) end own
      t = tail_of own end found p

      asked : framing frame own x ≡ received_tail (destuffed_bits own end) (length own - end) x
      asked = received_tail_is frame own x (length own - end) end role t

      on : length own - end < 9 → RestsFor n (rest_of (stretch_by (Framing frame) (own ++ Recessive ∷ [])))
      on below =
          let next = tail_next (length own - end) end own Recessive t below in
          subst (RestsFor n) (sym (ap (λ r. rest_in_frame r (stuffed_end (own ++ Recessive ∷ [])) (own ++ Recessive ∷ [])) (role_receives frame own Recessive role)
          ∙ ap (λ o. rest_in_frame Rx o (own ++ Recessive ∷ [])) next.found
          ∙ ap (λ k. cond (is_crc_right k) (rest_at (length (own ++ Recessive ∷ []) - end)) None) (tail_bits (length own - end) end own Recessive t)
          ∙ ap (λ b. cond b (rest_at (length (own ++ Recessive ∷ []) - end)) None) right)) (next_place own (length own - end) end p next)

      right_here : (nat_eq (length own - end) 2 && not (is_crc_right (destuffed_bits own end))) ≡ false
      right_here = ap (λ b. nat_eq (length own - end) 2 && not b) right ∙ and_no (nat_eq (length own - end) 2)
        where
          and_no : (b : Bool) → (b && false) ≡ false
          and_no true = refl
          and_no false = refl

      by : (b : Bool) → (length own - end == 9) ≡ b → Rests (Framing frame) own (judged (stretch_by (Framing frame) own) x)
      by true e =
          let nine = eqb-true (length own - end) 9 e in
          subst (Rests (Framing frame) own) (sym (asked ∙ last_is (destuffed_bits own end) (length own - end) x nine)) (over (length own - end) p nine)
      by false e = at_eight (length own - end == 8) refl
        where
          nine : length own - end ≡ 9 → ⊥
          nine = eqb-false (length own - end) 9 e

          below : length own - end ≤ 9 → (length own - end ≡ 9 → ⊥) → length own - end < 9
          below high n = omega (arith, high, n)

          at_eight : (b : Bool) → (length own - end == 8) ≡ b → Rests (Framing frame) own (judged (stretch_by (Framing frame) own) x)
          at_eight true f =
              let eight = eqb-true (length own - end) 8 f in
              subst (Rests (Framing frame) own) (sym (asked ∙ received_now (destuffed_bits own end) (length own - end) x refl eight)) (on (omega arith))
          at_eight false f =
              let low = p.low in
              let high = p.high in
              subst (Rests (Framing frame) own)
              (sym (asked ∙ received_next (destuffed_bits own end) (length own - end) x (λ k. omega arith) nine refl right_here (eqb-false (length own - end) 8 f)))
              (on (below high nine))

  frames : (frame : Option Content) (own : List Level) (r : Role) (o : Option ℕ) → frame_role frame own ≡ r → stuffed_end own ≡ o → Goes n (rest_in_frame r o own) head
      → Rests (Framing frame) own (judged (stretch_by (Framing frame) own) x)
  frames frame own r None role found h = absurd h
  frames (Some frame) own Tx (Some end) role found h = sends frame own end role found (placed (length own - end) h)
  frames None own Tx (Some end) role found h = cc
  frames frame own Rx (Some end) role found h = by (is_crc_right (destuffed_bits own end)) refl h
    where
      by : (b : Bool) → is_crc_right (destuffed_bits own end) ≡ b → Goes n (cond b (rest_at (length own - end)) None) head → Rests (Framing frame) own (judged (stretch_by (Framing frame) own) x)
      by true e g = receives frame own end role found e (placed (length own - end) g)
      by false e g = absurd g

  rests_by : (sort : Sort) (own : List Level) → Goes n (rest_by sort own) head → Rests sort own (judged (stretch_by sort own) x)
  rests_by Integration own h = integrates own h
  rests_by Idle own h = idles own h
  rests_by (Framing frame) own h = frames frame own (frame_role frame own) (stuffed_end own) refl refl h
  rests_by (Flagging (PassiveFlag unacknowledged) role) own h = flags unacknowledged role own h
  rests_by (Flagging ActiveFlag role) own h = absurd h
  rests_by (Flagging OverloadFlag role) own h = absurd h
  rests_by (Waiting flag role flagged) own h = (let less = few n 10 head h in omega arith)
  rests_by (Delimiting role) own h = delimits role own h
  rests_by (Intermission role) own h = intermits role own h
  rests_by Suspension own h = suspends own h
  rests_by OffBus own h = offs own h

-- a recessive sample is one of these
sampled : (x : Sampled) → IsRecessive x → sample_of Recessive x.head x.mode ≡ x
sampled x e i = record { level = sym e i; head = x.head; mode = x.mode }

goes : (s : Stretch) (x : Sampled) (n : ℕ) → IsRecessive x → Goes n (rest_of s) x.head → RestsFor n (rest_of (stretch_after s (Sample x)))
goes s x n e h = subst (λ y. RestsFor n (rest_of (stretch_after s (Sample y)))) (sampled x e) (rests_by n x.head x.mode s.sort s.own h)

pub rest_left : (s : Stretch) (x : Sampled) (n : ℕ) → IsRecessive x → RestsFor (suc n) (rest_of s) → RestsFor n (rest_of (stretch_after s (Sample x)))
rest_left s x n e h = goes s x n e (by (rest_of s) h)
  where
    by : (o : Option ℕ) → RestsFor (suc n) o → Goes n o x.head
    by None g = g
    by (Some rest) g = inl g

pub rest_none : (s : Stretch) (x : Sampled) → IsRecessive x → x.head ≡ None → RestsFor 0 (rest_of s) → RestsFor 0 (rest_of (stretch_after s (Sample x)))
rest_none s x e none h = goes s x 0 e (by (rest_of s) h)
  where
    by : (o : Option ℕ) → RestsFor 0 o → Goes 0 o x.head
    by None g = g
    by (Some rest) g = inr (refl, none)

-- what is driven at rest

at_drive : (role : Role) (bits : List Level) (place : ℕ) → RestsFor 0 (rest_at place) → tail_drive role bits place ≡ Recessive
at_drive Tx bits place h = refl
at_drive Rx bits place h = by (nat_le 2 place && nat_le place 9) refl h
  where
    by : (b : Bool) → (nat_le 2 place && nat_le place 9) ≡ b → RestsFor 0 (cond b (Some (12 - place)) None) → tail_drive Rx bits place ≡ Recessive
    by false e g = absurd g
    by true e g =
        let low = leb-true 2 place (and_parts (nat_le 2 place) (nat_le place 9) e).0 in
        ap (λ b. cond (b && is_crc_right bits) Dominant Recessive) (ne_eqb place 1 (λ k. omega arith))

frame_now : (head : Option Content) (own : List Level) (r : Role) (o : Option ℕ) → frame_role head own ≡ r → stuffed_end own ≡ o → RestsFor 0 (rest_in_frame r o own) → frame_drive head own ≡ Recessive
frame_now head own r None role found h = absurd h
frame_now head own r (Some end) role found h =
    ap (λ e. drive_up_to e head own) found ∙ ap (λ r. tail_drive r (destuffed_bits own end) (length own - end)) role ∙ at_drive r (destuffed_bits own end) (length own - end) (by r h)
  where
    by : (r : Role) → RestsFor 0 (rest_in_frame r (Some end) own) → RestsFor 0 (rest_at (length own - end))
    by Tx g = g
    by Rx g = right (is_crc_right (destuffed_bits own end)) g
      where
        right : (b : Bool) → RestsFor 0 (cond b (rest_at (length own - end)) None) → RestsFor 0 (rest_at (length own - end))
        right true k = k
        right false k = absurd k

now_by : (sort : Sort) (own : List Level) → RestsFor 0 (rest_by sort own) → drive_of (stretch_by sort own) ≡ Recessive
now_by (Framing head) own h = frame_now head own (frame_role head own) (stuffed_end own) refl refl h
now_by Integration own h = refl
now_by Idle own h = refl
now_by (Flagging (PassiveFlag unacknowledged) role) own h = refl
now_by (Flagging ActiveFlag role) own h = absurd h
now_by (Flagging OverloadFlag role) own h = absurd h
now_by (Waiting flag role flagged) own h = refl
now_by (Delimiting role) own h = refl
now_by (Intermission role) own h = refl
now_by Suspension own h = refl
now_by OffBus own h = refl

pub rest_now : (s : Stretch) → RestsFor 0 (rest_of s) → drive_of s ≡ Recessive
rest_now s h = now_by s.sort s.own h

-- the longest rest, and the silence, which is none in a frame that rests

at_few : (place n : ℕ) → RestsFor n (rest_at place) → n ≤ 1407
at_few place n h = by (nat_le 2 place && nat_le place 9) h
  where
    by : (b : Bool) → RestsFor n (cond b (Some (12 - place)) None) → n ≤ 1407
    by false g = absurd g
    by true g = omega arith

in_frame_few : (r : Role) (o : Option ℕ) (own : List Level) (n : ℕ) → RestsFor n (rest_in_frame r o own) → n ≤ 1407
in_frame_few r None own n h = absurd h
in_frame_few Tx (Some end) own n h = at_few (length own - end) n h
in_frame_few Rx (Some end) own n h = by (is_crc_right (destuffed_bits own end)) h
  where
    by : (b : Bool) → RestsFor n (cond b (rest_at (length own - end)) None) → n ≤ 1407
    by false g = absurd g
    by true g = at_few (length own - end) n g

few_by : (sort : Sort) (own : List Level) (n : ℕ) → RestsFor n (rest_by sort own) → n ≤ 1407
few_by Integration own n h = omega arith
few_by Idle own n h = omega arith
few_by (Framing head) own n h = in_frame_few (frame_role head own) (stuffed_end own) own n h
few_by (Flagging (PassiveFlag unacknowledged) role) own n h = omega arith
few_by (Flagging ActiveFlag role) own n h = absurd h
few_by (Flagging OverloadFlag role) own n h = absurd h
few_by (Waiting flag role flagged) own n h = omega arith
few_by (Delimiting role) own n h = omega arith
few_by (Intermission role) own n h = omega arith
few_by Suspension own n h = omega arith
few_by OffBus own n h = omega arith

pub rest_off : (s : Stretch) (n : ℕ) → RestsFor n (rest_of s) → RestsFor n (rest_of (stretch_after s SwitchedOff))
rest_off s n h = few_by s.sort s.own n h

in_frame_silence : (r : Role) (o : Option ℕ) (own : List Level) → RestsFor 0 (rest_in_frame r o own) → RestsFor (silence_in_frame r o own) (rest_in_frame r o own)
in_frame_silence r None own h = absurd h
in_frame_silence Tx (Some end) own h = h
in_frame_silence Rx (Some end) own h = h

silence_within : (sort : Sort) (own : List Level) → RestsFor 0 (rest_by sort own) → RestsFor (silence_of true (stretch_by sort own)) (rest_by sort own)
silence_within Integration own h = omega arith
silence_within Idle own h = omega arith
silence_within (Framing head) own h = in_frame_silence (frame_role head own) (stuffed_end own) own h
silence_within (Flagging (PassiveFlag unacknowledged) role) own h = omega arith
silence_within (Flagging ActiveFlag role) own h = absurd h
silence_within (Flagging OverloadFlag role) own h = absurd h
silence_within (Waiting flag role flagged) own h = omega arith
silence_within (Delimiting role) own h = omega arith
silence_within (Intermission role) own h = omega arith
silence_within Suspension own h = omega arith
silence_within OffBus own h = omega arith

pub rest_silence : (s : Stretch) → RestsFor 0 (rest_of s) → RestsFor (silence_of true s) (rest_of s)
rest_silence s h = silence_within s.sort s.own h

-- so recessive samples leave it so, as many as it rests for
run_rests : (more : List Sampled) (s : Stretch) → All IsRecessive more → RestsFor (length more) (rest_of s) → drive_of (fold stretch_after s (map Sample more)) ≡ Recessive
run_rests [] s all h = rest_now s h
run_rests (x ∷ more) s all h = run_rests more (stretch_after s (Sample x)) (λ k d below. all (suc k) d (omega arith)) (rest_left s x (length more) (all 0 x (omega arith)) h)

pub rest_stands : (past : List Input) (more : List Sampled) (n : ℕ) → All IsRecessive more → rest_of (stretch_of past) ≡ Some n → length more ≤ n
    → drive_of (stretch_of (past ++ map Sample more)) ≡ Recessive
rest_stands past more n all e below =
    ap drive_of (fold-append stretch_after (stretch_by Integration []) past (map Sample more))
    ∙ run_rests more (stretch_of past) all (subst (RestsFor (length more)) (sym e) below)
