-- The stuffed part of a frame ends: a bit more comes at each place but those of stuff bits, and no two of these are next to each other.
use Rattle.std.proofs.Common.{◌≡◌, ◌∙◌, ◌⊎◌, inl, inr, refl, sym, ap, subst, ℕ, zero, suc, ◌+◌, ◌*◌, ◌<◌, ◌≤◌, ◌&&◌, not, cond, Bool, true, false, List, [], ◌∷◌, ◌++◌, length, Option, Some, None, arith, append-nil}
use Rattle.std.specs.Prelude.{nat_le}
use Rattle.std.proofs.lemmas.Bool.{cases_Bool, cases_lt, le-leb}
use Rattle.wl_level.specs.declared.Level.{Level}
use Rattle.wl_level.specs.declared.Level.TheVariants.{Dominant, Recessive}
use Rattle.wl_level.specs.Levels.{is_dominant, level_of, opposite, same}
use Rattle.wl_level.specs.Places.{at, before, or_at, run_at}
use Rattle.wl_level.proofs.Callers.{first_none}
use Rattle.wl_confine.specs.declared.ErrorKind.TheVariants.{Bit, Stuff}
use Rattle.wl_confine.specs.declared.Happened.TheVariants as happens
use Rattle.wl_frame.specs.Crc.{crc_length}
use Rattle.wl_frame.specs.Stuffing.{destuffed_bits, destuffed_list, is_stuff}
use Rattle.wl_frame.specs.Grammar.{Content, bits_of, covered_length, is_arbitration, is_front, is_whole, layout_of}
use Rattle.wl_frame.specs.Limits.{most_frame_bits}
use Rattle.wl_frame.proofs.Callers.{destuffed_more, front_more, front_room, length_more, run_more, stuff_run}
use Rattle.wl_machine.specs.declared.state.Role.{Role}
use Rattle.wl_machine.specs.declared.state.Role.TheVariants.{Rx, Tx}
use Rattle.wl_machine.specs.Stretch.{Judgement, Sampled, Stretch, begins, continues}
use Rattle.wl_machine.specs.Stretch.Sort.{Flagging, Framing}
use Rattle.wl_machine.specs.Flags.{error_flag, fails}
use Rattle.wl_machine.specs.Frames.{frame_role, framing_by, framing_received, framing_sent, sent_at, stuffed_end}
use Rattle.wl_machine.specs.Judged.{judged, stretch_of}
use Rattle.wl_machine.specs.States.{stretch_by}
use Rattle.wl_machine.proofs.Callers.{end_more, ends_at}
use Rattle.wl_wire.specs.InStep.{is_fine}
use Rattle.wl_wire.specs.Wire.{sampled}
use Rattle.wl_wire.proofs.Callers.{end_is}
use Rattle.wl_buses.specs.OneFrame.Stations.{AreStations, HaveRoom, Stations}
use Rattle.wl_buses.specs.OneFrame.Course.{bus_bit}
use Rattle.wl_buses.specs.OneFrame.Machines.{bus_levels}
use Rattle.wl_buses.specs.OneFrame.Expected.{IsOutset, Outset, expected_bits, past_at, wants}
use Rattle.wl_buses.proofs.OneFrame.Expecting.{drives_are}
use Rattle.wl_buses.proofs.OneFrame.Ideal.{fine, framing}
use Rattle.wl_buses.proofs.OneFrame.Machines.{FindNoErrors, LeastWins, SendStuffed, SixOrFront, StayInStep, TenHaveEdge, none_before, levels_length}

not_turned : (was x : Level) → same (opposite was) x ≡ true → same x was ≡ false
not_turned Dominant Dominant e = cc
not_turned Dominant Recessive e = refl
not_turned Recessive Dominant e = refl
not_turned Recessive Recessive e = cc

same_turned : (a b : Level) → same a b ≡ same b a
same_turned Dominant Dominant = refl
same_turned Dominant Recessive = refl
same_turned Recessive Dominant = refl
same_turned Recessive Recessive = refl

-- a sample of the stuffed part that is fine ends no six equal bits
six_differing : (as_sent dominant due early arbitration : Bool) (was x : Level) (error free : Judgement) → is_fine error.happened ≡ false → is_fine free.happened ≡ false
    → (due ≡ true → as_sent ≡ true → same x was ≡ false)
    → is_fine (cond as_sent (continues happens.Nothing) (cond dominant error (cond due (cond early free error) (cond arbitration (continues happens.Nothing) error)))).happened ≡ true
    → (due && same x was) ≡ false
six_differing as_sent dominant false early arbitration was x error free e f turned fine = refl
six_differing true dominant true early arbitration was x error free e f turned fine = turned refl refl
six_differing false true true early arbitration was x error free e f turned fine = cc
six_differing false false true true arbitration was x error free e f turned fine = cc
six_differing false false true false arbitration was x error free e f turned fine = cc

six_sent : (h : Content) (own : List Level) (x : Sampled) → is_fine (framing_sent h own None x).happened ≡ true → (is_stuff own (length own) && same x.level (before own (length own))) ≡ false
six_sent h own x fine =
    six_differing (same (sent_at h own (length own)) x.level) (is_dominant (sent_at h own (length own))) (is_stuff own (length own))
    (nat_le (length (destuffed_bits own (length own))) (layout_of (bits_of h)).rtr) (is_arbitration (bits_of h) (length (destuffed_bits own (length own)))) (before own (length own)) x.level
    (fails Tx x.mode Bit) (begins happens.TxFree (Flagging (error_flag x.mode) Tx) []) refl refl
    (λ due as_sent. not_turned (before own (length own)) x.level
    (sym (ap (λ b. same (cond b (opposite (before own (length own))) (at (bits_of h) (length (destuffed_bits own (length own))))) x.level) due) ∙ as_sent))
    fine

six_cases : (six : Bool) (error : Judgement) → is_fine error.happened ≡ false → is_fine (cond six error (continues happens.Nothing)).happened ≡ true → six ≡ false
six_cases true error e fine = cc
six_cases false error e fine = refl

six_received : (own : List Level) (x : Sampled) → is_fine (framing_received own None x).happened ≡ true → (is_stuff own (length own) && same x.level (before own (length own))) ≡ false
six_received own x fine = six_cases (is_stuff own (length own) && same x.level (before own (length own))) (fails Rx x.mode Stuff) refl fine

six_by : (role : Role) (head : Option Content) (own : List Level) (x : Sampled) → stuffed_end own ≡ None → is_fine (framing_by role head own x).happened ≡ true
    → (is_stuff own (length own) && same x.level (before own (length own))) ≡ false
six_by Tx (Some h) own x e fine = six_sent h own x (subst (λ o. is_fine (framing_sent h own o x).happened ≡ true) e fine)
six_by Tx None own x e fine = six_received own x (subst (λ o. is_fine (framing_received own o x).happened ≡ true) e fine)
six_by Rx head own x e fine = six_received own x (subst (λ o. is_fine (framing_received own o x).happened ≡ true) e fine)

ends_no_six : (s : Stretch) (x : Sampled) (head : Option Content) (own : List Level) → s ≡ stretch_by (Framing head) own → stuffed_end own ≡ None → is_fine (judged s x).happened ≡ true
    → (is_stuff own (length own) && same x.level (before own (length own))) ≡ false
ends_no_six s x head own e none fine = six_by (frame_role head own) head own x none (sym (ap (λ t. is_fine (judged t x).happened) e) ∙ fine)

not_whole : (whole due : Bool) → (whole && not due) ≡ false → due ≡ false → whole ≡ false
not_whole true due e f = (let g : not due ≡ true = ap not f in cc)
not_whole false due e f = refl

module _ (steps : StayInStep) (errors : FindNoErrors) (winner : LeastWins) (stuffed : SendStuffed) (six : SixOrFront) (ten : TenHaveEdge)
    (s : Stations) (are : AreStations s) (room : HaveRoom s) (o : Outset) (is : IsOutset s o) where
  abbrev own : ℕ → List Level
  own n = bus_levels s (expected_bits s o) n

  abbrev bit : ℕ → Level
  bit n = level_of (bus_bit s (expected_bits s o) n)

  abbrev Goes : ℕ → Type 0
  Goes n = stuffed_end (own n) ≡ None

  abbrev due : ℕ → Bool
  due n = is_stuff (own n) (length (own n))

  abbrev kept : ℕ → List Level
  kept n = destuffed_list (own n)

  same_drives : (n k : ℕ) → (expected_bits s o n).drives k ≡ wants s o n k
  same_drives = drives_are steps errors winner stuffed six ten s are room o is

  six_at : (n : ℕ) → Goes n → (due n && same (bit n) (before (own n) (length (own n)))) ≡ false
  six_at zero none = refl
  six_at (suc n) none =
      let k = is.some.0 in
      let inside = is.some.1 in
      let f = framing steps errors winner stuffed six ten s o is (expected_bits s o) same_drives (λ k. refl) n k (none_before (own n) (bit n) none) inside in
      ends_no_six (stretch_of (past_at s o (suc n) k)) (sampled (bit (suc n)) (o.frames k) (o.handed 0 k)) f.0 (own (suc n)) f.1 none
      (fine steps errors winner stuffed six ten s o is (expected_bits s o) same_drives (λ k. refl) (suc n) k (o.handed 0 k) none inside)

  free_after : (n : ℕ) → Goes n → due n ≡ true → due (suc n) ≡ false
  free_after n none e =
      let differs : same (bit n) (before (own n) (length (own n))) ≡ false = sym (ap (λ b. b && same (bit n) (before (own n) (length (own n)))) e) ∙ six_at n none in
      stuff_run (own (suc n)) (length (own (suc n)))
      ∙ ap (nat_le 5)
      (run_more (own n) (bit n)
      ∙ ap (λ c. cond c (suc (run_at (own n) (length (own n)))) 1) (same_turned (before (own n) (length (own n))) (bit n) ∙ differs))

  unfinished : (n : ℕ) → Goes n → due n ≡ false → is_whole (kept n) ≡ false
  unfinished n none e = not_whole (is_whole (kept n)) (due n) (first_none (ends_at (own n)) (suc (length (own n))) none (length (own n)) (omega arith)) e

  record Counts (n : ℕ) : Type 0 where
    front : is_front (kept n) ≡ true
    free : due n ≡ false → n ≤ 2 * length (kept n)
    held : due n ≡ true → suc n ≤ 2 * length (kept n)

  counts_on : (n : ℕ) → Goes n → Counts n → (b : Bool) → due n ≡ b → Counts (suc n)
  counts_on n none c true e =
      (let more : kept (suc n) ≡ kept n = destuffed_more (own n) (bit n) ∙ ap (λ d. kept n ++ cond d [] (bit n ∷ [])) e ∙ append-nil (kept n) in
      let l : length (kept (suc n)) ≡ length (kept n) = ap length more in
      let before = c.held e in
      record {
        front = ap is_front more ∙ c.front;
        free = λ f. omega arith;
        held = λ f. (let g = free_after n none e in cc);
      })
  counts_on n none c false e =
      (let more : kept (suc n) ≡ kept n ++ bit n ∷ [] = destuffed_more (own n) (bit n) ∙ ap (λ d. kept n ++ cond d [] (bit n ∷ [])) e in
      let l : length (kept (suc n)) ≡ suc (length (kept n)) = ap length more ∙ length_more (kept n) (bit n) in
      let before = c.free e in
      record {
        front = ap is_front more ∙ front_more (kept n) (bit n) c.front (unfinished n none e);
        free = λ f. omega arith;
        held = λ f. omega arith;
      })

  counts : (n : ℕ) → ((m : ℕ) → m < n → Goes m) → Counts n
  counts zero h = record { front = le-leb 0 (covered_length [] + crc_length) (omega arith); free = λ f. omega arith; held = λ f. cc }
  counts (suc n) h = counts_on n (h n (omega arith)) (counts n (λ m less. h m (omega arith))) (due n) refl

  -- so many bits at most go on
  few_bits : (n : ℕ) → ((m : ℕ) → m ≤ n → Goes m) → due n ≡ false → n < 2 * most_frame_bits
  few_bits n h e =
      let c = counts n (λ m less. h m (omega arith)) in
      let room = front_room (kept n) c.front (unfinished n (h n (omega arith)) e) in
      let f = c.free e in
      omega arith

  abbrev enough : ℕ
  enough = 2 * most_frame_bits

  ends_by : ((m : ℕ) → m ≤ suc enough → Goes m) → ⊥
  ends_by h = elim (cases_Bool (due enough)) [
    | inl held ↦ (let f = few_bits (suc enough) h (free_after enough (h enough (omega arith)) held) in omega arith)
    | inr free ↦ (let f = few_bits enough (λ m less. h m (omega arith)) free in omega arith)
  ]

  pub record Ends : Type 0 where
    pub bits : ℕ
    pub some : 0 < bits
    pub going : (m : ℕ) → m < bits → Goes m
    pub over : stuffed_end (own bits) ≡ Some bits

  one_more : (n : ℕ) → ((m : ℕ) → m ≤ n → Goes m) → (c : Option ℕ) → stuffed_end (own (suc n)) ≡ c → ((m : ℕ) → m ≤ suc n → Goes m) ⊎ Ends
  one_more n h None e =
      inl (λ m less. elim (cases_lt m (suc n)) [
        | inl below ↦ h m (omega arith)
        | inr last ↦ (let same : suc n ≡ m = omega arith in subst Goes same e)
      ])
  one_more n h (Some place) e =
      (let at_end : or_at None (ends_at (own (suc n)) (length (own (suc n)))) (length (own (suc n))) ≡ Some place =
      sym (end_more (own n) (bit n) ∙ ap (λ x. or_at x (ends_at (own (suc n)) (length (own (suc n)))) (length (own (suc n)))) (h n (omega arith))) ∙ e in
      let same : place ≡ suc n = sym (end_is (ends_at (own (suc n)) (length (own (suc n)))) (length (own (suc n))) place at_end) ∙ levels_length s (expected_bits s o) (suc n) in
      inr (record { bits = suc n; some = omega arith; going = λ m less. h m (omega arith); over = e ∙ ap Some same }))

  ends_or_goes : (n : ℕ) → ((m : ℕ) → m ≤ n → Goes m) ⊎ Ends
  ends_or_goes zero = inl (λ m less. (let same : zero ≡ m = omega arith in subst Goes same refl))
  ends_or_goes (suc n) = elim (ends_or_goes n) [
    | inl goes ↦ one_more n goes (stuffed_end (own (suc n))) refl
    | inr ends ↦ inr ends
  ]

  pub part_ends : Ends
  part_ends = elim (ends_or_goes (suc enough)) [ inl goes ↦ absurd (ends_by goes) | inr ends ↦ ends ]
