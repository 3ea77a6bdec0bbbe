-- More recessive samples leave a machine on an idle bus, if it drives recessive all along.
use Rattle.std.proofs.Common.{◌≡◌, ℕ, zero, suc, ◌+◌, ◌-◌, ◌<◌, ◌≤◌, ◌⊎◌, inl, inr, List, [], ◌∷◌, ◌++◌, length, true, false, Option, Some, None, refl, sym, ap, subst, arith}
use Rattle.std.specs.Prelude.{◌==◌}
use Rattle.std.proofs.lemmas.Bool.{both_ways, cond_both}
use Rattle.wl_level.specs.declared.Level.{Level}
use Rattle.wl_level.specs.declared.Level.TheVariants.{Recessive}
use Rattle.wl_frame.specs.Grammar.{Content}
use Rattle.wl_confine.specs.declared.Mode.{Mode}
use Rattle.wl_confine.specs.declared.Mode.TheVariants.{Active, Passive, Off}
use Rattle.wl_confine.specs.declared.Happened.TheVariants as happens
use Rattle.wl_machine.specs.declared.state.Role.{Role}
use Rattle.wl_machine.specs.declared.state.Role.TheVariants.{Tx, Rx}
use Rattle.wl_machine.specs.Stretch.{Sort, Stretch, Sampled, Input, begins, continues, free}
use Rattle.wl_machine.specs.Stretch.Sort.{Integration, Idle, Framing, Flagging, Waiting, Delimiting, Intermission, Suspension, OffBus}
use Rattle.wl_machine.specs.Stretch.Input.{Sample}
use Rattle.wl_machine.specs.BetweenFrames.{after_intermission, idle_on}
use Rattle.wl_machine.specs.Judged.{drive_by, drive_of, judged_by, stretch_after, stretch_of}
use Rattle.wl_machine.specs.States.{sample_of, stretch_by}
use Rattle.wl_wire.specs.Wire.{is_between, is_between_by}
use Rattle.wl_heal.specs.Silence.{IsSilence, idle_bits, is_off, is_off_by, silent_bits, stretch_on}
use Rattle.wl_heal.proofs.Possible.{IsPossible, IsPossibleBy, possible, possible_next}
use Rattle.wl_heal.proofs.Inside.{inside_next, off_test}
use Rattle.wl_heal.proofs.Samples.{going, longer}
use Rattle.wl_heal.proofs.Silent.{IsNear, between_stays, far, first_dominant, left_of, nearer, there, two_levels}

-- how many recessive samples leave a machine between frames on an idle bus
abbrev pub wait_by : Sort → List Level → ℕ
wait_by Suspension own = 8 - length own
wait_by (Intermission role) own = 9
wait_by sort own = 0

abbrev pub wait_of : Stretch → ℕ
wait_of s = wait_by s.sort s.own

few_waits : (sort : Sort) (own : List Level) → wait_by sort own ≤ 9
few_waits Integration own = omega arith
few_waits Idle own = omega arith
few_waits (Framing head) own = omega arith
few_waits (Flagging flag role) own = omega arith
few_waits (Waiting flag role flagged) own = omega arith
few_waits (Delimiting role) own = omega arith
few_waits (Intermission role) own = omega arith
few_waits Suspension own = omega arith
few_waits OffBus own = omega arith

free_waits : (n : ℕ) (head : Option Content) → wait_by (free head) [] ≤ n
free_waits n None = omega arith
free_waits n (Some c) = omega arith

after_waits : (n : ℕ) (role : Role) (mode : Mode) (head : Option Content) → 8 ≤ n → wait_by (after_intermission role mode head) [] ≤ n
after_waits n Tx Passive head h = h
after_waits n Tx Active head h = free_waits n head
after_waits n Tx Off head h = free_waits n head
after_waits n Rx mode head h = free_waits n head

module _ (head : Option Content) (mode : Mode) (n : ℕ) where
  abbrev x : Sampled
  x = sample_of Recessive head mode

  waits_less : (sort : Sort) (own : List Level) → is_between_by sort own ≡ true → drive_by sort own ≡ Recessive → wait_by sort own ≤ suc n → wait_of (going sort own Recessive (judged_by sort own x)) ≤ n
  waits_less Idle own b d h = by head
    where
      by : (o : Option Content) → wait_of (going Idle own Recessive (idle_on o)) ≤ n
      by None = omega arith
      by (Some c) = omega arith
  waits_less Suspension own b d h =
      let more = longer own Recessive in
      cond_both (length own == 7) (begins happens.Nothing (free head) []) (continues happens.Nothing) (λ j. wait_of (going Suspension own Recessive j) ≤ n) (λ e. free_waits n head) (λ e. omega arith)
  waits_less (Intermission role) own b d h =
      cond_both (length own == 2) (begins happens.Nothing (after_intermission role mode head) []) (continues happens.Nothing) (λ j. wait_of (going (Intermission role) own Recessive j) ≤ n)
      (λ e. after_waits n role mode head (omega arith)) (λ e. absurd (both_ways (length own == 2) e b))
  waits_less (Framing (Some c)) [] b d h = absurd (two_levels (drive_by (Framing (Some c)) []) (first_dominant c) d)
  waits_less (Framing (Some c)) (l ∷ own) b d h = cc
  waits_less (Framing None) own b d h = cc
  waits_less Integration own b d h = cc
  waits_less (Flagging flag role) own b d h = cc
  waits_less (Waiting flag role flagged) own b d h = cc
  waits_less (Delimiting role) own b d h = cc
  waits_less OffBus own b d h = cc

-- a machine that waits no more, and drives recessive
idle_then : (sort : Sort) (own : List Level) → IsPossibleBy sort own → is_between_by sort own ≡ true → drive_by sort own ≡ Recessive → wait_by sort own ≤ 0 → sort ≡ Idle
idle_then Idle own p b d h = refl
idle_then Suspension own p b d h = absurd (omega (arith, h, p))
idle_then (Intermission role) own p b d h = absurd (omega (arith, h))
idle_then (Framing (Some c)) [] p b d h = absurd (two_levels (drive_by (Framing (Some c)) []) (first_dominant c) d)
idle_then (Framing (Some c)) (l ∷ own) p b d h = cc
idle_then (Framing None) own p b d h = cc
idle_then Integration own p b d h = cc
idle_then (Flagging flag role) own p b d h = cc
idle_then (Waiting flag role flagged) own p b d h = cc
idle_then (Delimiting role) own p b d h = cc
idle_then OffBus own p b d h = cc

-- so many samples before it is between frames, or waits there
record ComesNear (n : ℕ) (s : Stretch) : Type 0 where
  more : ℕ
  few : more + 9 ≤ n
  left : left_of s ≤ more

record IsThere (n : ℕ) (s : Stretch) : Type 0 where
  between : is_between s ≡ true
  waits : wait_of s ≤ n

abbrev Comes : ℕ → Stretch → Type 0
Comes n s = IsThere n s ⊎ ComesNear n s

module _ (x : Sampled) (x_is : x ≡ sample_of Recessive x.head x.mode) (n : ℕ) (s : Stretch) (p : IsPossible s) (off : is_off s ≡ false) (d : drive_of s ≡ Recessive) where
  abbrev x' : Sampled
  x' = sample_of Recessive x.head x.mode

  from_there : IsThere (suc n) s → IsThere n (stretch_after s (Sample x'))
  from_there h = record {
    between = between_stays s x.head x.mode p off h.between d;
    waits = waits_less x.head x.mode n s.sort s.own h.between d h.waits;
  }

  from_near : (m : ℕ) → m + 9 ≤ suc n → left_of s ≤ m → Comes n (stretch_after s (Sample x'))
  from_near zero few left =
      let w = few_waits s.sort s.own in
      inl (from_there (record { between = there s.sort s.own p off left; waits = omega arith }))
  from_near (suc m) few left = elim (nearer x.head x.mode m s.sort s.own p off d (inr left)) [
    | inl b ↦ (let w = few_waits (stretch_after s (Sample x')).sort (stretch_after s (Sample x')).own in inl (record { between = b; waits = omega arith }))
    | inr less ↦ inr (record { more = m; few = omega arith; left = less })
  ]

  comes_on : Comes (suc n) s → Comes n (stretch_after s (Sample x))
  comes_on (inl h) = subst (λ y. Comes n (stretch_after s (Sample y))) (sym x_is) (inl (from_there h))
  comes_on (inr h) = subst (λ y. Comes n (stretch_after s (Sample y))) (sym x_is) (from_near h.more h.few h.left)

idle_on_silence : (xs : List Sampled) (s : Stretch) → IsPossible s → is_off s ≡ false → Comes (length xs) s → IsSilence s xs → drive_of (stretch_on s xs) ≡ Recessive → (stretch_on s xs).sort ≡ Idle
idle_on_silence [] s p off (inl h) q d = idle_then s.sort s.own p h.between d h.waits
idle_on_silence [] s p off (inr h) q d = (let few = h.few in absurd (omega (arith, few)))
idle_on_silence (x ∷ xs) s p off c q d =
    let x_is : x ≡ sample_of Recessive x.head x.mode = ap (λ l. sample_of l x.head x.mode) q.0 in
    idle_on_silence xs (stretch_after s (Sample x)) (possible_next s (Sample x) p) (inside_next is_off_by off_test s x off) (comes_on x x_is (length xs) s p off q.1 c) q.2 d

pub silence_idles : (past : List Input) (xs : List Sampled) → is_off (stretch_of past) ≡ false → idle_bits ≤ length xs → IsSilence (stretch_of past) xs
    → drive_of (stretch_on (stretch_of past) xs) ≡ Recessive → (stretch_on (stretch_of past) xs).sort ≡ Idle
silence_idles past xs off long q d =
    idle_on_silence xs (stretch_of past) (possible past) off (inr (record { more = silent_bits; few = omega arith; left = far (stretch_of past).sort (stretch_of past).own silent_bits (omega arith) })) q d
