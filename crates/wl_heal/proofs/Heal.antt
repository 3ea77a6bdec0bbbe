-- Error active machines come in step, whatever they did before.
use Rattle.std.proofs.Common.{◌≡◌, ◌∙◌, ℕ, zero, suc, ◌+◌, ◌-◌, ◌<◌, ◌≤◌, List, [], ◌∷◌, ◌++◌, length, Bool, true, false, not, cond, Option, Some, None, inl, inr, ◌⊎◌, refl, sym, ap, subst, arith}
use Rattle.std.specs.Prelude.{slice_get}
use Rattle.std.proofs.lemmas.Bool.{ne_eqb, not-true}
use Rattle.wl_level.specs.declared.Level.{Level}
use Rattle.wl_level.specs.declared.Level.TheVariants.{Dominant, Recessive}
use Rattle.wl_level.specs.Levels.{is_dominant}
use Rattle.wl_level.specs.Places.{first_place, or_at, IsFirstPlace}
use Rattle.wl_level.proofs.Callers.{first_is, first_none}
use Rattle.wl_frame.specs.Grammar.{Content}
use Rattle.wl_frame.specs.Stuffing.{destuffed_bits}
use Rattle.wl_confine.specs.declared.Mode.TheVariants.{Active}
use Rattle.wl_confine.specs.declared.Happened.TheVariants as happens
use Rattle.wl_machine.specs.declared.state.Role.{Role}
use Rattle.wl_machine.specs.Stretch.{Flag, Sort, Stretch, Sampled, continues, begins}
use Rattle.wl_machine.specs.Stretch.Flag.{ActiveFlag, OverloadFlag, PassiveFlag}
use Rattle.wl_machine.specs.Stretch.Input.{Sample}
use Rattle.wl_machine.specs.Stretch.Sort.{Integration, Idle, Framing, Flagging, Waiting, Delimiting, Intermission, Suspension, OffBus}
use Rattle.wl_machine.specs.Flags.{flag_bit_of}
use Rattle.wl_machine.specs.Frames.{stuffed_end, frame_role, drive_up_to}
use Rattle.wl_machine.specs.Judged.{stretch_after, drive_of, drive_by}
use Rattle.wl_machine.specs.States.{sample_of, stretch_by}
use Rattle.wl_machine.proofs.Callers.{end_more, end_stays, ends_at}
use Rattle.wl_wire.specs.Wire.{Wire, Handed, Event, Bit, bus, sampled, stretch_at, is_between, next_wire, wire_after}
use Rattle.wl_wire.specs.Heads.{OwnHeads}
use Rattle.wl_wire.specs.InStep.{AreBetween}
use Rattle.wl_heal.specs.Healing.{bits_after, AreActive, AllTakePart, IsDominantFor, HealWithin}
use Rattle.wl_heal.proofs.Errors.{errs, may_err, one_error, none_without_flag}
use Rattle.wl_heal.proofs.Flagged.{Heals, later, longer_within as longer_by, may_at, finds, take_part_next, six_may}
use Rattle.wl_heal.proofs.Leftover.{Leftover, leftover_next, drives_frame, drives_slot}
use Rattle.wl_heal.proofs.Lengths.{short_frame}
use Rattle.wl_heal.proofs.Possible.{possible}
use Rattle.wl_heal.proofs.Samples.{going, longer}
use Rattle.wl_heal.proofs.Settle.{is_new_flag, is_new_flag_by, Settles, settle_most, settled, settles_next, tail_breaks, intermission_breaks, near_breaks, IsEarly, early_on, TailOn, late_on}
use Rattle.wl_heal.proofs.Settle.TailOn.{on, over}
use Rattle.wl_heal.proofs.Steps.{rests_on}
use Rattle.wl_heal.proofs.Wires.{Drives, bus_dominant, bus_recessive, bus_driven, level_cases}

-- a flag of six dominant bits, while it goes on
pub record IsDominantFlag (flag : Flag) : Type 0 where
  pub drive : (role : Role) (own : List Level) → drive_by (Flagging flag role) own ≡ Dominant
  pub goes : (role : Role) (own : List Level) (x : Sampled) → length own < 5 → stretch_after (stretch_by (Flagging flag role) own) (Sample x) ≡ stretch_by (Flagging flag role) (own ++ x.level ∷ [])

active_dominant : IsDominantFlag ActiveFlag
active_dominant = record {
  drive = λ role own. refl;
  goes = λ role own x h. ap (λ b. going (Flagging ActiveFlag role) own x.level (cond b (begins (cond (is_dominant x.level) happens.Nothing (flag_bit_of role)) (Waiting ActiveFlag role (own ++ x.level ∷ [])) []) (continues (cond (is_dominant x.level) happens.Nothing (flag_bit_of role))))) (ne_eqb (length own) 5 (λ e. omega arith));
}

overload_dominant : IsDominantFlag OverloadFlag
overload_dominant = record {
  drive = λ role own. refl;
  goes = λ role own x h. ap (λ b. going (Flagging OverloadFlag role) own x.level (cond b (begins (cond (is_dominant x.level) happens.Nothing (flag_bit_of role)) (Waiting OverloadFlag role (own ++ x.level ∷ [])) []) (continues (cond (is_dominant x.level) happens.Nothing (flag_bit_of role))))) (ne_eqb (length own) 5 (λ e. omega arith));
}

pub record IsNewFlag (s : Stretch) : Type 0 where
  pub flag : Flag
  pub dominant : IsDominantFlag flag
  pub role : Role
  pub is : s ≡ stretch_by (Flagging flag role) []

pub new_flag : (sort : Sort) (own : List Level) → is_new_flag_by sort own ≡ true → IsNewFlag (stretch_by sort own)
new_flag (Flagging ActiveFlag role) [] h = record { flag = ActiveFlag; dominant = active_dominant; role = role; is = refl }
new_flag (Flagging OverloadFlag role) [] h = record { flag = OverloadFlag; dominant = overload_dominant; role = role; is = refl }
new_flag (Flagging ActiveFlag role) (l ∷ own) h = cc
new_flag (Flagging OverloadFlag role) (l ∷ own) h = cc
new_flag (Flagging (PassiveFlag unacknowledged) role) own h = cc
new_flag (Waiting flag role flagged) own h = cc
new_flag (Framing frame) own h = cc
new_flag (Delimiting role) own h = cc
new_flag Integration own h = cc
new_flag Idle own h = cc
new_flag (Intermission role) own h = cc
new_flag Suspension own h = cc
new_flag OffBus own h = cc

pub dominant_bus : (w : Wire) (k : ℕ) → k < w.count → drive_of (stretch_at w k) ≡ Dominant → bus w ≡ Dominant
dominant_bus w k lt d = elim (level_cases (bus w)) [ inl e ↦ e | inr e ↦ absurd (bus_driven w k lt d e) ]

flag_runs : (n : ℕ) (w : Wire) (handed : ℕ → ℕ → Handed) (k : ℕ) → k < w.count → (flag : Flag) → IsDominantFlag flag → (role : Role) (own : List Level)
    → stretch_at w k ≡ stretch_by (Flagging flag role) own → length own + n ≡ 6 → IsDominantFor n w handed
flag_runs zero w handed k lt flag f role own e few i it = absurd (omega (arith, it))
flag_runs (suc n) w handed k lt flag f role own e few zero it = dominant_bus w k lt (ap drive_of e ∙ f.drive role own)
flag_runs (suc zero) w handed k lt flag f role own e few (suc i) it = absurd (omega (arith, it))
flag_runs (suc (suc n)) w handed k lt flag f role own e few (suc i) it =
    flag_runs (suc n) (next_wire w (Bit (handed 0))) (λ i. handed (suc i)) k lt flag f role (own ++ bus w ∷ [])
    (finds w (handed 0) k (bus w) refl ∙ ap (λ s. stretch_after s (Sample (sample_of (bus w) (slice_get (w.frames k) (handed 0 k).which) (handed 0 k).mode))) e
    ∙ f.goes role own (sample_of (bus w) (slice_get (w.frames k) (handed 0 k).which) (handed 0 k).mode) (omega arith))
    (let m = longer own (bus w) in omega arith) i (omega arith)

-- whether some machine begins a flag
record BeginsFlag (w : Wire) : Type 0 where
  machine : ℕ
  inside : machine < w.count
  begun : is_new_flag (stretch_at w machine) ≡ true

abbrev NoneBegins : Wire → Type 0
NoneBegins w = (k : ℕ) → k < w.count → is_new_flag (stretch_at w k) ≡ false

decide : (w : Wire) → BeginsFlag w ⊎ NoneBegins w
decide w = by (first_place (λ k. is_new_flag (stretch_at w k)) w.count) refl
  where
    by : (o : Option ℕ) → first_place (λ k. is_new_flag (stretch_at w k)) w.count ≡ o → BeginsFlag w ⊎ NoneBegins w
    by None e = inr (λ k lt. first_none (λ k. is_new_flag (stretch_at w k)) w.count e k lt)
    by (Some k) e =
        let first : IsFirstPlace (λ k. is_new_flag (stretch_at w k)) w.count k = first_is (λ k. is_new_flag (stretch_at w k)) w.count k e in
        inl (record { machine = k; inside = first.inside; begun = first.passes })

abbrev one_each : ℕ → ℕ
one_each k = 1

longer_within : (m n : ℕ) (w : Wire) (handed : ℕ → ℕ → Handed) → m ≤ n → HealWithin m w handed → HealWithin n w handed
longer_within m n w handed le h = (h.0, (let few = h.1 in omega arith), h.2, h.3)

flag_heals : (w : Wire) (handed : ℕ → ℕ → Handed) → AreActive handed → AllTakePart w → BeginsFlag w → Heals (may_at w) 20 w handed
flag_heals w handed active part f =
    let is : IsNewFlag (stretch_at w f.machine) = new_flag (stretch_at w f.machine).sort (stretch_at w f.machine).own f.begun in
    six_may w handed active part (flag_runs 6 w handed f.machine f.inside is.flag is.dominant is.role [] is.is refl)

module _ (w : Wire) (handed : ℕ → ℕ → Handed) (active : AreActive handed) (part : AllTakePart w) where
  abbrev next : Wire
  next = next_wire w (Bit (handed 0))

  abbrev rest : ℕ → ℕ → Handed
  rest i = handed (suc i)

  abbrev head : ℕ → Option Content
  head k = slice_get (w.frames k) (handed 0 k).which

  rest_active : AreActive rest
  rest_active i k = active (suc i) k

  next_part : AllTakePart next
  next_part = take_part_next w (handed 0) part

  found : (k : ℕ) (l : Level) → bus w ≡ l → stretch_at next k ≡ stretch_after (stretch_at w k) (Sample (sample_of l (head k) Active))
  found k l e = finds w (handed 0) k l e ∙ ap (λ m. stretch_after (stretch_at w k) (Sample (sample_of l (head k) m))) (active 0 k)

  flag_next : (most : ℕ) → 20 ≤ most → BeginsFlag next → HealWithin (suc most) w handed
  flag_next most few f =
      later one_each (may_at next) most w handed one_now (longer_by (may_at next) 20 most next rest few (flag_heals next rest rest_active next_part f))
    where
      one_now : (k : ℕ) → k < w.count → errs (stretch_at w k) (sampled (bus w) (w.frames k) (handed 0 k)) + may_at next k ≤ 1
      one_now k lt =
          subst (λ m. errs (stretch_at w k) (sample_of (bus w) (head k) m) + may_at next k ≤ 1) (sym (active 0 k))
          (subst (λ (s : Stretch). errs (stretch_at w k) (sample_of (bus w) (head k) Active) + may_err s.sort ≤ 1) (sym (found k (bus w) refl)) (one_error (stretch_at w k) (bus w) (head k)))

  -- no error without one
  later_none : NoneBegins next → (most : ℕ) → HealWithin most next rest → HealWithin (suc most) w handed
  later_none none most h = later one_each one_each most w handed none_now h
    where
      none_now : (k : ℕ) → k < w.count → errs (stretch_at w k) (sampled (bus w) (w.frames k) (handed 0 k)) + 1 ≤ 1
      none_now k lt =
          let fine : errs (stretch_at w k) (sampled (bus w) (w.frames k) (handed 0 k)) ≡ 0 =
          ap (λ m. errs (stretch_at w k) (sample_of (bus w) (head k) m)) (active 0 k)
          ∙ none_without_flag (stretch_at w k) (bus w) (head k) (ap is_new_flag (sym (found k (bus w) refl)) ∙ none k lt) in
          omega arith

  unless_flag : (most : ℕ) → 20 ≤ most → (NoneBegins next → HealWithin (suc most) w handed) → HealWithin (suc most) w handed
  unless_flag most few go = elim (decide next) [ inl f ↦ flag_next most few f | inr none ↦ go none ]

  near_next : (n : ℕ) → bus w ≡ Recessive → NoneBegins next → ((k : ℕ) → k < w.count → Settles (suc n) (stretch_at w k)) → (k : ℕ) → k < w.count → Settles n (stretch_at next k)
  near_next n r none near k lt =
      subst (Settles n) (sym (found k Recessive r))
      (settles_next (head k) n (stretch_at w k).sort (stretch_at w k).own (possible (w.past k)) (part k lt) (bus_recessive w r k lt) (near k lt) (ap is_new_flag (sym (found k Recessive r)) ∙ none k lt))

  breaks : (k : ℕ) → k < w.count → bus w ≡ Dominant → is_new_flag (stretch_after (stretch_at w k) (Sample (sample_of Dominant (head k) Active))) ≡ true → BeginsFlag next
  breaks k lt d b = record { machine = k; inside = lt; begun = ap is_new_flag (found k Dominant d) ∙ b }

  left_next : (n : ℕ) → NoneBegins next → ((k : ℕ) → k < w.count → Leftover (suc n) (stretch_at w k).sort (stretch_at w k).own) → (k : ℕ) → k < w.count → Leftover n (stretch_at next k).sort (stretch_at next k).own
  left_next n none left k lt =
      subst (λ (s : Stretch). Leftover n s.sort s.own) (sym (found k (bus w) refl))
      (leftover_next n (sample_of (bus w) (head k) Active) (stretch_at w k).sort (stretch_at w k).own (left k lt) (ap is_new_flag (sym (found k (bus w) refl)) ∙ none k lt))

  -- all between frames, or one isn't
  some_not : ((k : ℕ) → k < w.count → Settles 6 (stretch_at w k)) → bus w ≡ Dominant → AreBetween w ⊎ BeginsFlag next
  some_not near d = by (first_place (λ k. not (is_between (stretch_at w k))) w.count) refl
    where
      yes : (b : Bool) → not b ≡ false → b ≡ true
      yes true e = refl
      yes false e = cc

      by : (o : Option ℕ) → first_place (λ k. not (is_between (stretch_at w k))) w.count ≡ o → AreBetween w ⊎ BeginsFlag next
      by None e = inl (λ k lt. yes (is_between (stretch_at w k)) (first_none (λ k. not (is_between (stretch_at w k))) w.count e k lt))
      by (Some k) e =
          let first : IsFirstPlace (λ k. not (is_between (stretch_at w k))) w.count k = first_is (λ k. not (is_between (stretch_at w k))) w.count k e in
          inr (breaks k first.inside d (near_breaks (head k) (stretch_at w k).sort (stretch_at w k).own (possible (w.past k)) (part k first.inside) (near k first.inside) (not-true (is_between (stretch_at w k)) first.passes)))

-- the last six recessive bits
near_all : (w : Wire) (m n : ℕ) → m ≤ n → ((k : ℕ) → k < w.count → Settles m (stretch_at w k)) → (k : ℕ) → k < w.count → Settles n (stretch_at w k)
near_all w m n le near k lt = elim (near k lt) [ inl b ↦ inl b | inr h ↦ inr (omega arith) ]

settle : (n : ℕ) → n ≤ 6 → (w : Wire) (handed : ℕ → ℕ → Handed) → AreActive handed → AllTakePart w → ((k : ℕ) → k < w.count → Settles n (stretch_at w k)) → HealWithin (n + 21) w handed
settle zero few w handed active part near = (0, omega arith, inl (λ k lt. settled (stretch_at w k).sort (stretch_at w k).own (possible (w.past k)) (part k lt) (near k lt)), λ k lt. omega arith)
settle (suc n) few w handed active part near = longer_within (suc (n + 21)) (suc n + 21) w handed (omega arith) (elim (level_cases (bus w)) [
  | inr r ↦ unless_flag w handed active part (n + 21) (omega arith) (λ none.
      later_none w handed active part none (n + 21) (settle n (omega arith) (next_wire w (Bit (handed 0))) (λ i. handed (suc i)) (rest_active w handed active part) (next_part w handed active part) (near_next w handed active part n r none near)))
  | inl d ↦ elim (some_not w handed active part (near_all w (suc n) 6 few near) d) [
    | inl b ↦ (0, omega arith, inl b, λ k lt. omega arith)
    | inr f ↦ flag_next w handed active part (n + 21) (omega arith) f
  ]
])

-- a machine in an intermission
resting : (n : ℕ) (w : Wire) (handed : ℕ → ℕ → Handed) → AreActive handed → AllTakePart w → (b : ℕ) → b < w.count → (role : Role) (own : List Level)
    → stretch_at w b ≡ stretch_by (Intermission role) own → length own + n ≡ 2 → ((k : ℕ) → k < w.count → Settles (6 + n) (stretch_at w k)) → HealWithin (n + 27) w handed
resting zero w handed active part b lt role own e few near = settle 6 (omega arith) w handed active part (near_all w (6 + 0) 6 (omega arith) near)
resting (suc n) w handed active part b lt role own e few near = longer_within (suc (n + 27)) (suc n + 27) w handed (omega arith) (elim (level_cases (bus w)) [
  | inl d ↦ flag_next w handed active part (n + 27) (omega arith) (breaks w handed active part b lt d
      (ap (λ s. is_new_flag (stretch_after s (Sample (sample_of Dominant (head w handed active part b) Active)))) e ∙ intermission_breaks (head w handed active part b) role own (ne_eqb (length own) 2 (λ f. omega arith))))
  | inr r ↦ unless_flag w handed active part (n + 27) (omega arith) (λ none.
      later_none w handed active part none (n + 27) (resting n (next_wire w (Bit (handed 0))) (λ i. handed (suc i)) (rest_active w handed active part) (next_part w handed active part) b lt role (own ++ Recessive ∷ [])
      (found w handed active part b Recessive r ∙ ap (λ s. stretch_after s (Sample (sample_of Recessive (head w handed active part b) Active))) e ∙ rests_on role own (head w handed active part b) Active (omega arith))
      (let m = longer own Recessive in omega arith) (near_next w handed active part (6 + n) r none (near_all w (6 + suc n) (suc (6 + n)) (omega arith) near))))
])

-- a machine in the tail of a frame
went : (w : Wire) (handed : ℕ → ℕ → Handed) (active : AreActive handed) (part : AllTakePart w) (b : ℕ) → b < w.count → (frame : Option Content) (own : List Level) (end : ℕ)
    → stretch_at w b ≡ stretch_by (Framing frame) own → stuffed_end own ≡ Some end → 2 ≤ length own - end → bus w ≡ Recessive → NoneBegins (next_wire w (Bit (handed 0)))
    → TailOn frame own (length own - end) (stretch_at (next_wire w (Bit (handed 0))) b)
went w handed active part b lt frame own end e found_end far r none =
    let is : stretch_at (next_wire w (Bit (handed 0))) b ≡ stretch_after (stretch_by (Framing frame) own) (Sample (sample_of Recessive (head w handed active part b) Active)) =
    found w handed active part b Recessive r ∙ ap (λ s. stretch_after s (Sample (sample_of Recessive (head w handed active part b) Active))) e in
    subst (TailOn frame own (length own - end)) (sym is)
    (late_on (head w handed active part b) (frame_role frame own) frame own end found_end far (ap is_new_flag (sym is) ∙ none b lt))

tail_broken : (w : Wire) (handed : ℕ → ℕ → Handed) (active : AreActive handed) (part : AllTakePart w) (b : ℕ) → b < w.count → (frame : Option Content) (own : List Level) (end : ℕ)
    → stretch_at w b ≡ stretch_by (Framing frame) own → stuffed_end own ≡ Some end → 2 ≤ length own - end → bus w ≡ Dominant → HealWithin 30 w handed
tail_broken w handed active part b lt frame own end e found_end far d =
    flag_next w handed active part 29 (omega arith) (breaks w handed active part b lt d
    (ap (λ s. is_new_flag (stretch_after s (Sample (sample_of Dominant (head w handed active part b) Active)))) e
    ∙ tail_breaks (head w handed active part b) (frame_role frame own) frame own end found_end (λ one. omega (arith, one, far))))

ending : (n : ℕ) (w : Wire) (handed : ℕ → ℕ → Handed) → AreActive handed → AllTakePart w → (b : ℕ) → b < w.count → (frame : Option Content) (own : List Level) (end : ℕ)
    → stretch_at w b ≡ stretch_by (Framing frame) own → stuffed_end own ≡ Some end → (length own - end) + n ≡ 9 → n ≤ 7
    → ((k : ℕ) → k < w.count → Settles (9 + n) (stretch_at w k)) → HealWithin (n + 30) w handed
ending zero w handed active part b lt frame own end e found_end place few near = elim (level_cases (bus w)) [
  | inl d ↦ tail_broken w handed active part b lt frame own end e found_end (omega arith) d
  | inr r ↦ unless_flag w handed active part 29 (omega arith) (λ none. last r none (went w handed active part b lt frame own end e found_end (omega arith) r none))
]
  where
    last : bus w ≡ Recessive → NoneBegins (next_wire w (Bit (handed 0))) → TailOn frame own (length own - end) (stretch_at (next_wire w (Bit (handed 0))) b) → HealWithin 30 w handed
    last r none (on early is) = absurd (early (omega arith))
    last r none (over nine role is) =
        later_none w handed active part none 29 (resting 2 (next_wire w (Bit (handed 0))) (λ i. handed (suc i)) (rest_active w handed active part) (next_part w handed active part) b lt role [] is refl
        (near_next w handed active part 8 r none (near_all w (9 + 0) 9 (omega arith) near)))
ending (suc n) w handed active part b lt frame own end e found_end place few near = elim (level_cases (bus w)) [
  | inl d ↦ longer_within 30 (suc n + 30) w handed (omega arith) (tail_broken w handed active part b lt frame own end e found_end (omega arith) d)
  | inr r ↦ longer_within (suc (n + 30)) (suc n + 30) w handed (omega arith) (unless_flag w handed active part (n + 30) (omega arith) (λ none.
      elim (went w handed active part b lt frame own end e found_end (omega arith) r none) [
        | on early is ↦ (let m = longer own Recessive in later_none w handed active part none (n + 30)
            (ending n (next_wire w (Bit (handed 0))) (λ i. handed (suc i)) (rest_active w handed active part) (next_part w handed active part) b lt frame (own ++ Recessive ∷ []) end is
            (end_stays own Recessive end found_end) (omega arith) (omega arith) (near_next w handed active part (9 + n) r none (near_all w (9 + suc n) (suc (9 + n)) (omega arith) near))))
        | over nine role is ↦ absurd (omega arith)
      ]))
]

-- a machine in a frame, up to its ACK slot
abbrev next_frame : (w : Wire) (handed : ℕ → ℕ → Handed) (b : ℕ) (frame : Option Content) (own : List Level) → Type 0
next_frame w handed b frame own = stretch_at (next_wire w (Bit (handed 0))) b ≡ stretch_by (Framing frame) (own ++ bus w ∷ [])

goes : (w : Wire) (handed : ℕ → ℕ → Handed) (active : AreActive handed) (part : AllTakePart w) (b : ℕ) → b < w.count → (frame : Option Content) (own : List Level)
    → stretch_at w b ≡ stretch_by (Framing frame) own → IsEarly (stuffed_end own) own → NoneBegins (next_wire w (Bit (handed 0))) → next_frame w handed b frame own
goes w handed active part b lt frame own e early none =
    let is : stretch_at (next_wire w (Bit (handed 0))) b ≡ stretch_after (stretch_by (Framing frame) own) (Sample (sample_of (bus w) (head w handed active part b) Active)) =
    found w handed active part b (bus w) refl ∙ ap (λ s. stretch_after s (Sample (sample_of (bus w) (head w handed active part b) Active))) e in
    is ∙ early_on (head w handed active part b) (bus w) (frame_role frame own) frame own early (ap is_new_flag (sym is) ∙ none b lt)

slots : (n : ℕ) (w : Wire) (handed : ℕ → ℕ → Handed) → AreActive handed → AllTakePart w → (b : ℕ) → b < w.count → (frame : Option Content) (own : List Level) (end : ℕ)
    → stretch_at w b ≡ stretch_by (Framing frame) own → stuffed_end own ≡ Some end → end ≤ length own → (length own - end) + n ≡ 2 → HealWithin (n + 37) w handed
slots zero w handed active part b lt frame own end e found_end low place =
    ending 7 w handed active part b lt frame own end e found_end (omega arith) (omega arith) (λ k kt. inr (settle_most (stretch_at w k).sort (stretch_at w k).own))
slots (suc n) w handed active part b lt frame own end e found_end low place = longer_within (suc (n + 37)) (suc n + 37) w handed (omega arith) (unless_flag w handed active part (n + 37) (omega arith) (λ none.
    later_none w handed active part none (n + 37) (slots n (next_wire w (Bit (handed 0))) (λ i. handed (suc i)) (rest_active w handed active part) (next_part w handed active part) b lt frame (own ++ bus w ∷ []) end
    (goes w handed active part b lt frame own e (subst (λ o. IsEarly o own) (sym found_end) (omega arith)) none)
    (end_stays own (bus w) end found_end) (let m = longer own (bus w) in omega arith) (let m = longer own (bus w) in omega arith))))

pub ends_now : (own : List Level) (l : Level) (end : ℕ) → stuffed_end own ≡ None → stuffed_end (own ++ l ∷ []) ≡ Some end → end ≡ length (own ++ l ∷ [])
ends_now own l end e g =
    by (ends_at (own ++ l ∷ []) (length (own ++ l ∷ [])))
    (sym (end_more own l ∙ ap (λ o. or_at o (ends_at (own ++ l ∷ []) (length (own ++ l ∷ []))) (length (own ++ l ∷ []))) e) ∙ g)
  where
    by : (b : Bool) → or_at None b (length (own ++ l ∷ [])) ≡ Some end → end ≡ length (own ++ l ∷ [])
    by true h = cc
    by false h = cc

framing_on : (n : ℕ) (w : Wire) (handed : ℕ → ℕ → Handed) → AreActive handed → AllTakePart w → (b : ℕ) → b < w.count → (frame : Option Content) (own : List Level)
    → stretch_at w b ≡ stretch_by (Framing frame) own → stuffed_end own ≡ None → length own + n ≡ 148 → HealWithin (n + 39) w handed
framing_on zero w handed active part b lt frame own e none_yet long = let few = short_frame (w.past b) frame own e none_yet in absurd (omega arith)
framing_on (suc n) w handed active part b lt frame own e none_yet long = longer_within (suc (n + 39)) (suc n + 39) w handed (omega arith) (unless_flag w handed active part (n + 39) (omega arith) (λ none.
    let is = goes w handed active part b lt frame own e (subst (λ o. IsEarly o own) (sym none_yet) tt) none in
    later_none w handed active part none (n + 39) (by_end (stuffed_end (own ++ bus w ∷ [])) refl is
    (λ still. framing_on n (next_wire w (Bit (handed 0))) (λ i. handed (suc i)) (rest_active w handed active part) (next_part w handed active part) b lt frame (own ++ bus w ∷ []) is still
    (let m = longer own (bus w) in omega arith)))))
  where
    by_end : (o : Option ℕ) → stuffed_end (own ++ bus w ∷ []) ≡ o → next_frame w handed b frame own
        → (stuffed_end (own ++ bus w ∷ []) ≡ None → HealWithin (n + 39) (next_wire w (Bit (handed 0))) (λ i. handed (suc i)))
        → HealWithin (n + 39) (next_wire w (Bit (handed 0))) (λ i. handed (suc i))
    by_end None f is still = still f
    by_end (Some end) f is still =
        let here = ends_now own (bus w) end none_yet f in
        longer_within 39 (n + 39) (next_wire w (Bit (handed 0))) (λ i. handed (suc i)) (omega arith)
        (slots 2 (next_wire w (Bit (handed 0))) (λ i. handed (suc i)) (rest_active w handed active part) (next_part w handed active part) b lt frame (own ++ bus w ∷ []) end is f (omega arith) (omega arith))

-- nobody in a flag: the bus rests, or a machine in a frame drives it
quiet : (n : ℕ) (w : Wire) (handed : ℕ → ℕ → Handed) → AreActive handed → AllTakePart w → ((k : ℕ) → k < w.count → Settles n (stretch_at w k))
    → ((k : ℕ) → k < w.count → Leftover 0 (stretch_at w k).sort (stretch_at w k).own) → HealWithin (n + 187) w handed
quiet zero w handed active part near left = (0, omega arith, inl (λ k lt. settled (stretch_at w k).sort (stretch_at w k).own (possible (w.past k)) (part k lt) (near k lt)), λ k lt. omega arith)
quiet (suc n) w handed active part near left = elim (level_cases (bus w)) [
  | inr r ↦ longer_within (suc (n + 187)) (suc n + 187) w handed (omega arith) (unless_flag w handed active part (n + 187) (omega arith) (λ none.
      later_none w handed active part none (n + 187) (quiet n (next_wire w (Bit (handed 0))) (λ i. handed (suc i)) (rest_active w handed active part) (next_part w handed active part) (near_next w handed active part n r none near)
      (left_next w handed active part 0 none (λ k lt e. let six = left k lt e in omega arith)))))
  | inl d ↦ longer_within 187 (suc n + 187) w handed (omega arith) (driven d)
]
  where
    in_frame : (k : ℕ) → k < w.count → (frame : Option Content) (own : List Level) → stretch_at w k ≡ stretch_by (Framing frame) own → (o : Option ℕ) → stuffed_end own ≡ o → drive_up_to o frame own ≡ Dominant
        → HealWithin 187 w handed
    in_frame k lt frame own e None f d =
        let few = short_frame (w.past k) frame own e f in
        longer_within ((148 - length own) + 39) 187 w handed (omega arith) (framing_on (148 - length own) w handed active part k lt frame own e f (omega arith))
    in_frame k lt frame own e (Some end) f d =
        let one = drives_slot (frame_role frame own) (destuffed_bits own end) (length own - end) d in
        longer_within 38 187 w handed (omega arith) (slots 1 w handed active part k lt frame own end e f (omega arith) (omega arith))

    driven : bus w ≡ Dominant → HealWithin 187 w handed
    driven d =
        let driver : Drives w = bus_dominant w d in
        let is = drives_frame (stretch_at w driver.machine).sort (stretch_at w driver.machine).own (possible (w.past driver.machine)) (left driver.machine driver.inside) driver.dominant in
        let there : stretch_at w driver.machine ≡ stretch_by (Framing is.0) (stretch_at w driver.machine).own = ap (λ s. stretch_by s (stretch_at w driver.machine).own) is.1 in
        in_frame driver.machine driver.inside is.0 (stretch_at w driver.machine).own there (stuffed_end (stretch_at w driver.machine).own) refl (ap drive_of (sym there) ∙ driver.dominant)

-- flags under way end
ended : (n : ℕ) (w : Wire) (handed : ℕ → ℕ → Handed) → AreActive handed → AllTakePart w
    → ((k : ℕ) → k < w.count → Leftover n (stretch_at w k).sort (stretch_at w k).own) → HealWithin (n + 203) w handed
ended zero w handed active part left = quiet 16 w handed active part (λ k lt. inr (settle_most (stretch_at w k).sort (stretch_at w k).own)) left
ended (suc n) w handed active part left = longer_within (suc (n + 203)) (suc n + 203) w handed (omega arith) (unless_flag w handed active part (n + 203) (omega arith) (λ none.
    later_none w handed active part none (n + 203) (ended n (next_wire w (Bit (handed 0))) (λ i. handed (suc i)) (rest_active w handed active part) (next_part w handed active part) (left_next w handed active part n none left))))

pub heal : (w : Wire) (handed : ℕ → ℕ → Handed) → AreActive handed → AllTakePart w → HealWithin 209 w handed
heal w handed active part = ended 6 w handed active part (λ k lt e. omega arith)

-- and what machines are sending is theirs
pub heads_after : ((w : Wire) (events : List Event) → OwnHeads w → OwnHeads (wire_after w events)) → (n : ℕ) (w : Wire) (handed : ℕ → ℕ → Handed) → OwnHeads w → OwnHeads (bits_after w handed n)
heads_after law zero w handed heads = heads
heads_after law (suc n) w handed heads = heads_after law n (next_wire w (Bit (handed 0))) (λ i. handed (suc i)) (law w (Bit (handed 0) ∷ []) heads)

pub count_stays : (n : ℕ) (w : Wire) (handed : ℕ → ℕ → Handed) → (bits_after w handed n).count ≡ w.count
count_stays zero w handed = refl
count_stays (suc n) w handed = count_stays n (next_wire w (Bit (handed 0))) (λ i. handed (suc i))

pub frames_stay : (n : ℕ) (w : Wire) (handed : ℕ → ℕ → Handed) → (bits_after w handed n).frames ≡ w.frames
frames_stay zero w handed = refl
frames_stay (suc n) w handed = frames_stay n (next_wire w (Bit (handed 0))) (λ i. handed (suc i))
