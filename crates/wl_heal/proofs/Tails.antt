-- Who has a frame at its end: who found the last but one bit recessive, and its sender if it finds the last one so.
use Rattle.std.proofs.Common.{◌≡◌, ◌≢◌, ◌∙◌, ℕ, ◌+◌, ◌-◌, ◌<◌, List, [], ◌∷◌, ◌++◌, length, Bool, true, false, cond, Option, Some, None, inl, inr, refl, sym, ap, subst, arith}
use Rattle.std.specs.Prelude.{◌↔◌, slice_get}
use Rattle.wl_level.specs.declared.Level.{Level}
use Rattle.wl_level.specs.declared.Level.TheVariants.{Dominant, Recessive}
use Rattle.wl_frame.specs.Stuffing.{destuffed_bits}
use Rattle.wl_frame.specs.Grammar.{Content, IsContent, content_of, bits_of}
use Rattle.wl_confine.specs.declared.Mode.TheVariants.{Active}
use Rattle.wl_machine.specs.declared.state.Role.{Role}
use Rattle.wl_machine.specs.declared.state.Role.TheVariants.{Tx, Rx}
use Rattle.wl_machine.specs.Stretch.{Sampled}
use Rattle.wl_machine.specs.Stretch.Ended.{NoFrame, Sent, Received}
use Rattle.wl_machine.specs.Stretch.Input.{Sample}
use Rattle.wl_machine.specs.Stretch.Sort.{Framing}
use Rattle.wl_machine.specs.Frames.{stuffed_end, frame_role, framing_by, framing_sent, framing_received, drive_up_to, tail_drive, sent_tail, received_tail}
use Rattle.wl_machine.specs.Judged.{judged, stretch_after, drive_of, head_of}
use Rattle.wl_machine.specs.Laws.{HeadLaws, FoundSent}
use Rattle.wl_machine.specs.States.{sample_of, stretch_by}
use Rattle.wl_machine.proofs.Callers.{end_stays, kept_is_all, tail_sends}
use Rattle.wl_wire.specs.Wire.{Wire, bus, stretch_at}
use Rattle.wl_wire.specs.Heads.{OwnHeads}
use Rattle.wl_wire.specs.InStep.{AreSoundFrames, IsSender, or_all}
use Rattle.wl_wire.proofs.Callers.{role_cases}
use Rattle.wl_heal.specs.Disturbed.{Course, sample_found, wire_at, stretch_before, judged_at, AreActiveIn, AreNearEnd, NobodyHit}
use Rattle.wl_heal.proofs.Disturbance.{level_at, head_at, next_stretch, heard}
use Rattle.wl_heal.proofs.Flagged.{silent}
use Rattle.wl_heal.proofs.Heal.{IsNewFlag, new_flag}
use Rattle.wl_heal.proofs.Samples.{going, longer}
use Rattle.wl_heal.proofs.Sent.{read_back, last_is, got_there}
use Rattle.wl_heal.proofs.Settle.{is_new_flag, tail_breaks}
use Rattle.wl_heal.proofs.Silent.{two_levels}

unhit : (hit : Bool) (l : Level) → cond hit Dominant l ≡ Recessive → hit ≡ false
unhit true l e = cc
unhit false l e = refl

not_true_is : (b : Bool) → (b ≡ true → ⊥) → b ≡ false
not_true_is true n = absurd (n refl)
not_true_is false n = refl

-- a recessive last but one bit, and what is driven after it
received_eighth : (frame : Option Content) (own : List Level) (end : ℕ) (given : Option Content) → stuffed_end own ≡ Some end → length own - end ≡ 8
    → going (Framing frame) own Recessive (framing_received own (stuffed_end own) (sample_of Recessive given Active)) ≡ stretch_by (Framing frame) (own ++ Recessive ∷ [])
received_eighth frame own end given over eight =
    ap (λ o. going (Framing frame) own Recessive (framing_received own o (sample_of Recessive given Active))) over
    ∙ ap (λ n. going (Framing frame) own Recessive (received_tail (destuffed_bits own end) n (sample_of Recessive given Active))) eight

eighth : (role : Role) (frame : Option Content) (own : List Level) (end : ℕ) (given : Option Content) → stuffed_end own ≡ Some end → length own - end ≡ 8
    → going (Framing frame) own Recessive (framing_by role frame own (sample_of Recessive given Active)) ≡ stretch_by (Framing frame) (own ++ Recessive ∷ [])
eighth Tx None own end given over eight = received_eighth None own end given over eight
eighth Tx (Some c) own end given over eight =
    ap (λ o. going (Framing (Some c)) own Recessive (framing_sent c own o (sample_of Recessive given Active))) over
    ∙ ap (λ n. going (Framing (Some c)) own Recessive (sent_tail c n (sample_of Recessive given Active))) eight
eighth Rx frame own end given over eight = received_eighth frame own end given over eight

ninth_drive : (role : Role) (bits : List Level) → tail_drive role bits 9 ≡ Recessive
ninth_drive Tx bits = refl
ninth_drive Rx bits = refl

eighth_drive : (role : Role) (bits : List Level) → tail_drive role bits 8 ≡ Recessive
eighth_drive Tx bits = refl
eighth_drive Rx bits = refl

module _ (laws : HeadLaws) (w : Wire) (c : Course) (own : List Level) (s : ℕ) (f : Content) (sound : AreSoundFrames w.count w.frames) (heads : OwnHeads w)
    (active : AreActiveIn c) (e : AreNearEnd w own s f) where
  abbrev end : ℕ
  end = e.end

  eight : length own - end ≡ 8
  eight = let p : length own ≡ end + 8 = e.place in omega arith

  -- who else is in the frame receives
  content : (k : ℕ) (g : Content) → k < w.count → IsSender w own k g → IsContent g
  content k g lt is = sound.content k g lt (heads k g (ap (λ t. head_of t.sort) is.framing))

  bits_are : (k : ℕ) (g : Content) → k < w.count → IsSender w own k g → destuffed_bits own end ≡ bits_of g
  bits_are k g lt is = kept_is_all g own end (content k g lt is) e.over (subst (FoundSent g own) (ap (λ o. or_all o (length own)) e.over) (e.step.found k g lt is))

  no_other : (k : ℕ) (g : Content) → k < w.count → k ≢ s → IsSender w own k g → ⊥
  no_other k g lt ne is =
      let same : g ≡ f =
      sym (read_back g (content k g lt is)).content ∙ ap content_of (sym (bits_are k g lt is) ∙ bits_are s f e.inside e.sends) ∙ (read_back f (content s f e.inside e.sends)).content in
      sound.apart k s g f lt e.inside ne (heads k g (ap (λ t. head_of t.sort) is.framing)) (heads s f (ap (λ t. head_of t.sort) e.sends.framing))
      (ap (λ d. d.extended) same, ap (λ d. d.id) same, ap (λ d. d.remote) same)

  receives : (k : ℕ) (lt : k < w.count) → k ≢ s → (head : Option Content) → stretch_at w k ≡ stretch_by (Framing head) own → frame_role head own ≡ Rx
  receives k lt ne None is = refl
  receives k lt ne (Some g) is = elim (role_cases (frame_role (Some g) own)) [
    | inl t ↦ absurd (no_other k g lt ne (record { framing = is; role = t }))
    | inr r ↦ r
  ]

  -- nobody drives it
  quiet : bus w ≡ Recessive
  quiet = silent w (λ k lt. ap drive_of (e.step.each k lt).1 ∙ ap (λ o. drive_up_to o (e.step.each k lt).0 own) e.over
      ∙ ap (tail_drive (frame_role (e.step.each k lt).0 own) (destuffed_bits own end)) eight ∙ eighth_drive (frame_role (e.step.each k lt).0 own) (destuffed_bits own end))

  abbrev y : ℕ → ℕ → Sampled
  y i k = sample_found (wire_at w c i) (c.hit i) (c.handed i) k

  judged_first : (k : ℕ) (lt : k < w.count) → k ≢ s → judged_at w c 0 k ≡ received_tail (destuffed_bits own end) 8 (y 0 k)
  judged_first k lt ne =
      ap (λ t. judged t (y 0 k)) (e.step.each k lt).1
      ∙ ap (λ r. framing_by r (e.step.each k lt).0 own (y 0 k)) (receives k lt ne (e.step.each k lt).0 (e.step.each k lt).1)
      ∙ ap (λ o. framing_received own o (y 0 k)) e.over ∙ ap (λ n. received_tail (destuffed_bits own end) n (y 0 k)) eight

  has_it : (k : ℕ) → k < w.count → k ≢ s → c.hit 0 k ≡ false → (judged_at w c 0 k).ended ≡ Received f
  has_it k lt ne free =
      ap (λ j. j.ended) (judged_first k lt ne) ∙ got_there (destuffed_bits own end) 8 (y 0 k) refl (ap (λ b. cond b Dominant (bus w)) free ∙ quiet)
      ∙ ap (λ ls. Received (content_of ls)) (bits_are s f e.inside e.sends) ∙ ap Received (read_back f (content s f e.inside e.sends)).content

  lacks_it : (k : ℕ) (b : Bool) → c.hit 0 k ≡ b → (received_tail (destuffed_bits own end) 8 (y 0 k)).ended ≡ Received f → b ≡ false
  lacks_it k false h g = refl
  lacks_it k true h g =
      let none : (received_tail (destuffed_bits own end) 8 (y 0 k)).ended ≡ NoFrame =
      ap (λ b. (received_tail (destuffed_bits own end) 8 (sample_of (cond b Dominant (bus w)) (slice_get (w.frames k) (c.handed 0 k).which) (c.handed 0 k).mode)).ended) h in
      absurd (neither f (sym none ∙ g))
    where
      neither : (f : Content) → NoFrame ≡ Received f → ⊥
      neither f e = cc

  pub received_if : (k : ℕ) → k < w.count → k ≢ s → ((judged_at w c 0 k).ended ≡ Received f) ↔ (c.hit 0 k ≡ false)
  received_if k lt ne = (λ g. lacks_it k (c.hit 0 k) refl (ap (λ j. j.ended) (sym (judged_first k lt ne)) ∙ g), has_it k lt ne)

  -- one bit later
  next_is : (k : ℕ) (l : Level) → level_at w c 0 k ≡ l → stretch_before w c 1 k ≡ stretch_after (stretch_at w k) (Sample (sample_of l (head_at w c 0 k) Active))
  next_is k l h =
      next_stretch w c 0 k ∙ ap (λ m. stretch_after (stretch_at w k) (Sample (sample_of (level_at w c 0 k) (head_at w c 0 k) m))) (active 0 k)
      ∙ ap (λ l. stretch_after (stretch_at w k) (Sample (sample_of l (head_at w c 0 k) Active))) h

  goes_on : NobodyHit w c 0 → (k : ℕ) (lt : k < w.count) → stretch_before w c 1 k ≡ stretch_by (Framing (e.step.each k lt).0) (own ++ Recessive ∷ [])
  goes_on none k lt =
      next_is k Recessive (ap (λ b. cond b Dominant (bus w)) (none k lt) ∙ quiet)
      ∙ ap (λ t. stretch_after t (Sample (sample_of Recessive (head_at w c 0 k) Active))) (e.step.each k lt).1
      ∙ eighth (frame_role (e.step.each k lt).0 own) (e.step.each k lt).0 own end (head_at w c 0 k) e.over eight

  nine : length (own ++ Recessive ∷ []) - end ≡ 9
  nine = let p : length own ≡ end + 8 = e.place in let l = longer own Recessive in omega arith

  over_still : stuffed_end (own ++ Recessive ∷ []) ≡ Some end
  over_still = end_stays own Recessive end e.over

  quiet_then : NobodyHit w c 0 → bus (wire_at w c 1) ≡ Recessive
  quiet_then none = silent (wire_at w c 1) (λ k lt. ap drive_of (goes_on none k lt) ∙ ap (λ o. drive_up_to o (e.step.each k lt).0 (own ++ Recessive ∷ [])) over_still
      ∙ ap (tail_drive (frame_role (e.step.each k lt).0 (own ++ Recessive ∷ [])) (destuffed_bits (own ++ Recessive ∷ []) end)) nine
      ∙ ninth_drive (frame_role (e.step.each k lt).0 (own ++ Recessive ∷ [])) (destuffed_bits (own ++ Recessive ∷ []) end))

  sender_then : NobodyHit w c 0 → stretch_before w c 1 s ≡ stretch_by (Framing (Some f)) (own ++ Recessive ∷ [])
  sender_then none =
      goes_on none s e.inside ∙ ap (λ o. stretch_by (Framing o) (own ++ Recessive ∷ [])) (ap (λ t. head_of t.sort) (sym (e.step.each s e.inside).1 ∙ e.sends.framing))

  role_then : frame_role (Some f) (own ++ Recessive ∷ []) ≡ Tx
  role_then = let p : length own ≡ end + 8 = e.place in tail_sends f 8 end own Recessive (record { found = e.over; place_is = omega arith; below = omega arith }) e.sends.role

  is_sent : NobodyHit w c 0 → c.hit 1 s ≡ false → (judged_at w c 1 s).ended ≡ Sent f
  is_sent none free =
      let r : level_at w c 1 s ≡ Recessive = ap (λ b. cond b Dominant (bus (wire_at w c 1))) free ∙ quiet_then none in
      ap (λ t. (judged t (y 1 s)).ended) (sender_then none) ∙ ap (λ r. (framing_by r (Some f) (own ++ Recessive ∷ []) (y 1 s)).ended) role_then
      ∙ ap (λ o. (framing_sent f (own ++ Recessive ∷ []) o (y 1 s)).ended) over_still ∙ ap (λ n. (sent_tail f n (y 1 s)).ended) nine
      ∙ ap (λ l. (sent_tail f 9 (sample_of l (head_at w c 1 s) (c.handed 1 s).mode)).ended) r

  breaks : (k : ℕ) → k < w.count → c.hit 0 k ≡ true → is_new_flag (stretch_before w c 1 k) ≡ true
  breaks k lt h =
      ap is_new_flag (next_is k Dominant (ap (λ b. cond b Dominant (bus w)) h)
      ∙ ap (λ t. stretch_after t (Sample (sample_of Dominant (head_at w c 0 k) Active))) (e.step.each k lt).1)
      ∙ tail_breaks (head_at w c 0 k) (frame_role (e.step.each k lt).0 own) (e.step.each k lt).0 own end e.over (λ one. omega (arith, one, eight))

  last_quiet : (judged_at w c 1 s).ended ≡ Sent f → level_at w c 1 s ≡ Recessive
  last_quiet g =
      (last_is f f (stretch_before w c 1 s).own (y 1 s)
      (ap (λ sort. (judged (stretch_by sort (stretch_before w c 1 s).own) (y 1 s)).ended) (sym (laws.sent (stretch_before w c 1 s) (y 1 s) f g)) ∙ g)).level

  none_hit : (judged_at w c 1 s).ended ≡ Sent f → NobodyHit w c 0
  none_hit g k lt = not_true_is (c.hit 0 k) (λ h.
      let is : IsNewFlag (stretch_before w c 1 k) = new_flag (stretch_before w c 1 k).sort (stretch_before w c 1 k).own (breaks k lt h) in
      two_levels (level_at w c 1 s) (heard w c 1 k s lt (ap drive_of is.is ∙ is.dominant.drive is.role [])) (last_quiet g))

  pub sent_if : ((judged_at w c 1 s).ended ≡ Sent f) ↔ (NobodyHit w c 0 × (c.hit 1 s ≡ false))
  sent_if = (λ g. (none_hit g, unhit (c.hit 1 s) (bus (wire_at w c 1)) (last_quiet g)), λ h. is_sent h.0 h.1)
