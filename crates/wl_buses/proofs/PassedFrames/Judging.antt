-- What a sample finds in a frame, as the stretch after it shows, and what in the third bit of the intermission.
use Rattle.std.proofs.Common.{◌≡◌, ◌≢◌, ◌∙◌, ◌⊎◌, inl, inr, refl, sym, ap, subst, ℕ, cond, Bool, true, false, List, [], ◌∷◌, ◌++◌, length, replicate, Option, Some, None}
use Rattle.std.specs.Prelude.{nat_le, ◌&&◌}
use Rattle.std.proofs.lemmas.Bool.{ne_eqb}
use Rattle.wl_level.specs.declared.Level.{Level}
use Rattle.wl_level.specs.declared.Level.TheVariants.{Recessive}
use Rattle.wl_level.specs.Levels.{is_dominant, same}
use Rattle.wl_level.specs.Places.{before}
use Rattle.wl_confine.specs.declared.ErrorKind.{ErrorKind}
use Rattle.wl_confine.specs.declared.ErrorKind.TheVariants.{Bit, Stuff}
use Rattle.wl_confine.specs.declared.Happened.{Happened}
use Rattle.wl_confine.specs.declared.Happened.TheVariants.{Nothing, TxFree}
use Rattle.wl_confine.specs.declared.Mode.{Mode}
use Rattle.wl_frame.specs.Grammar.{Content, bits_of, content_of, is_arbitration, layout_of}
use Rattle.wl_frame.specs.Stuffing.{destuffed_bits, is_stuff}
use Rattle.wl_machine.specs.declared.state.Role.{Role}
use Rattle.wl_machine.specs.declared.state.Role.TheVariants.{Rx, Tx}
use Rattle.wl_machine.specs.Stretch.{Flag, Judgement, Sampled, Stretch, begins, continues}
use Rattle.wl_machine.specs.Stretch.Ended.{NoFrame, Received, Sent}
use Rattle.wl_machine.specs.Stretch.Input.{Sample as Given}
use Rattle.wl_machine.specs.Stretch.Sort.{Flagging, Framing, Idle, Intermission}
use Rattle.wl_machine.specs.Flags.{error_flag, error_of, fails}
use Rattle.wl_machine.specs.Frames.{differing, frame_role, framing_by, framing_received, framing_sent, receiving, sending, sent_at, stuffed_end}
use Rattle.wl_machine.specs.BetweenFrames.{after_intermission, begun_head, idle_on}
use Rattle.wl_machine.specs.Judged.{judged, judged_by, or_next, stretch_after}
use Rattle.wl_machine.specs.States.{stretch_by}
use Rattle.wl_buses.proofs.OneFrame.TakenOn.{TakesOn, goes_idle}
use Rattle.wl_buses.specs.FrameEnd.Ends.{end_frame}

-- the stuffed part goes on, or a flag begins
abbrev Going : Judgement → Type 0
Going j = (j ≡ continues Nothing) ⊎ ((h : Happened) × (flag : Flag) × (role : Role) × (j ≡ begins h (Flagging flag role) []))

goes_or : (b : Bool) (j k : Judgement) → Going j → Going k → Going (cond b j k)
goes_or true j k x y = x
goes_or false j k x y = y

goes_fails : (role : Role) (mode : Mode) (kind : ErrorKind) → Going (fails role mode kind)
goes_fails role mode kind = inr (error_of role kind, error_flag mode, role, refl)

receiving_goes : (own : List Level) (z : Sampled) → Going (receiving own z)
receiving_goes own z = goes_or (is_stuff own (length own) && same z.level (before own (length own))) (fails Rx z.mode Stuff) (continues Nothing) (goes_fails Rx z.mode Stuff) (inl refl)

module _ (c : Content) (own : List Level) (z : Sampled) where
  abbrev bits : List Level
  bits = destuffed_bits own (length own)

  abbrev lost : Judgement
  lost = fails Tx z.mode Bit

  abbrev free : Judgement
  free = begins TxFree (Flagging (error_flag z.mode) Tx) []

  abbrev stuff : Judgement
  stuff = cond (nat_le (length bits) (layout_of (bits_of c)).rtr) free lost

  abbrev other : Judgement
  other = cond (is_arbitration (bits_of c) (length bits)) (continues Nothing) lost

  differs : Going (differing c own z)
  differs =
      goes_or (is_dominant (sent_at c own (length own))) lost (cond (is_stuff own (length own)) stuff other) (goes_fails Tx z.mode Bit)
      (goes_or (is_stuff own (length own)) stuff other
      (goes_or (nat_le (length bits) (layout_of (bits_of c)).rtr) free lost (inr (TxFree, error_flag z.mode, Tx, refl)) (goes_fails Tx z.mode Bit))
      (goes_or (is_arbitration (bits_of c) (length bits)) (continues Nothing) lost (inl refl) (goes_fails Tx z.mode Bit)))

  sending_goes : Going (sending c own z)
  sending_goes = goes_or (same (sent_at c own (length own)) z.level) (continues Nothing) (differing c own z) (inl refl) differs

framing_goes : (role : Role) (head : Option Content) (own : List Level) (z : Sampled) → stuffed_end own ≡ None → Going (framing_by role head own z)
framing_goes Tx (Some c) own z none = subst (λ o. Going (framing_sent c own o z)) (sym none) (sending_goes c own z)
framing_goes Tx None own z none = subst (λ o. Going (framing_received own o z)) (sym none) (receiving_goes own z)
framing_goes Rx head own z none = subst (λ o. Going (framing_received own o z)) (sym none) (receiving_goes own z)

-- if the frame goes on it has found nothing
goes_on : (j : Judgement) (s : Stretch) (next : Option Content) → Going j → (or_next j.next s).sort ≡ Framing next → TakesOn j
goes_on j s next (inl e) framing = record { happened = ap (λ k. k.happened) e; ended = ap (λ k. k.ended) e }
goes_on j s next (inr flagged) framing =
    (let e : Flagging flagged.1 flagged.2 ≡ Framing next = sym (ap (λ k. (or_next k.next s).sort) flagged.3) ∙ framing in absurd (apart flagged.1 flagged.2 next e))
  where
    apart : (flag : Flag) (role : Role) (next : Option Content) → Flagging flag role ≡ Framing next → ⊥
    apart flag role next e = cc

pub takes_stuffed : (s : Stretch) (z : Sampled) (head next : Option Content) (own : List Level) → s ≡ stretch_by (Framing head) own → stuffed_end own ≡ None
    → (stretch_after s (Given z)).sort ≡ Framing next → TakesOn (judged s z)
takes_stuffed s z head next own e none after =
    goes_on (judged s z) (stretch_by s.sort (s.own ++ z.level ∷ [])) next (subst (λ x. Going (judged x z)) (sym e) (framing_goes (frame_role head own) head own z none)) after

-- so an idle bus takes any sample
idle_by : (dominant : Bool) (level : Level) (head : Option Content) → TakesOn (cond dominant (begins Nothing (Framing None) (level ∷ [])) (idle_on head))
idle_by true level head = record { happened = refl; ended = refl }
idle_by false level head = goes_idle head

pub takes_idle : (s : Stretch) (z : Sampled) → s.sort ≡ Idle → TakesOn (judged s z)
takes_idle s z e = subst (λ k. TakesOn (judged_by k s.own z)) (sym e) (idle_by (is_dominant z.level) z.level z.head)

-- and the third bit of the intermission a recessive one
third_by : (role : Role) (z : Sampled) (dominant : Bool) → dominant ≡ false
    → TakesOn (cond dominant (begins Nothing (Framing (begun_head role z.mode z.head)) (z.level ∷ [])) (begins Nothing (after_intermission role z.mode z.head) []))
third_by role z true e = cc
third_by role z false e = record { happened = refl; ended = refl }

pub takes_third : (role : Role) (z : Sampled) → z.level ≡ Recessive → TakesOn (judged (stretch_by (Intermission role) (replicate 2 Recessive)) z)
takes_third role z e = third_by role z (is_dominant z.level) (ap is_dominant e)

-- which place completes a frame
pub ends_none : (sends : Bool) (head : Option Content) (read : List Level) (place : ℕ) → place ≢ cond sends 9 8 → end_frame (cond sends Tx Rx) head read place ≡ NoFrame
ends_none true None read place apart = refl
ends_none true (Some c) read place apart = ap (λ b. cond b (Sent c) NoFrame) (ne_eqb place 9 apart)
ends_none false head read place apart = ap (λ b. cond b (Received (content_of read)) NoFrame) (ne_eqb place 8 apart)
