-- Who lost the arbitration, one event later.
use Rattle.std.proofs.Common.{◌≡◌, ℕ, suc, ◌+◌, ◌-◌, ◌<◌, ◌∙◌, List, [], ◌∷◌, ◌++◌, length, true, Option, Some, None, refl, sym, ap, subst, arith, inl, inr}
use Rattle.std.proofs.lemmas.Bool.{cases_eq}
use Rattle.wl_level.specs.declared.Level.{Level}
use Rattle.wl_level.specs.declared.Level.TheVariants.{Dominant, Recessive}
use Rattle.wl_level.proofs.Callers.{at_new, first_none, length_more}
use Rattle.wl_frame.specs.Grammar.{Content, bits_of, is_arbitration}
use Rattle.wl_frame.proofs.Callers.{stuff_old, kept_old}
use Rattle.wl_machine.specs.declared.state.Role.{Role}
use Rattle.wl_machine.specs.declared.state.Role.TheVariants.{Rx}
use Rattle.wl_machine.specs.Stretch.{Stretch}
use Rattle.wl_machine.specs.Stretch.Sort.{Framing, Intermission}
use Rattle.wl_machine.specs.Frames.{stuffed_end, frame_role}
use Rattle.wl_machine.specs.Judged.{head_of}
use Rattle.wl_machine.specs.Laws.{HeadLaws}
use Rattle.wl_machine.specs.States.{stretch_by}
use Rattle.wl_machine.proofs.Callers.{role_first, tail_sends, ends_at}
use Rattle.wl_wire.specs.Wire.{Wire, Handed, Bit, stretch_at, bus, is_between, next_wire}
use Rattle.wl_wire.specs.InStep.{AreSoundFrames, AreBetween, AreInIntermission, AreInFrame, AreInStep, IsSender}
use Rattle.wl_wire.proofs.Between.{frame_begins, still_between, longer}
use Rattle.wl_wire.proofs.Bus.{level_cases}
use Rattle.wl_wire.proofs.Events.{OwnHeads}
use Rattle.wl_wire.proofs.Losers.{LostAt, LostSoFar, ends_old, lost_still}
use Rattle.wl_wire.proofs.Stuffing.{ArbitrationDecides, role_cases, not_both_roles, sent_old, found_old}
use Rattle.wl_wire.proofs.Stuffing as stuffing
use Rattle.wl_wire.proofs.Tail as tail

-- between frames nobody has lost
none_lost_by : (head : Content) (own : List Level) → is_between (stretch_by (Framing (Some head)) own) ≡ true → frame_role (Some head) own ≡ Rx → LostAt head own
none_lost_by head [] b r = cc
none_lost_by head (l ∷ own) b r = cc

pub lost_between : (w : Wire) → AreBetween w → LostSoFar w
lost_between w b k head own lt e r = none_lost_by head own (ap is_between (sym e) ∙ b k lt) r

-- nor in an intermission
pub no_frame : (role : Role) (head : Content) (own more : List Level) → stretch_by (Intermission role) more ≡ stretch_by (Framing (Some head)) own → ⊥
no_frame role head own more e = none_some (ap (λ s. head_of s.sort) e)
  where
    none_some : None ≡ Some head → ⊥
    none_some p = cc

pub lost_intermission : (w : Wire) (own : List Level) → AreInIntermission w own → LostSoFar w
lost_intermission w own f k head more lt e r = absurd (no_frame (f.each k lt).0 head more own (sym (f.each k lt).1 ∙ e))

-- nor with the start of frame
pub lost_first : (w : Wire) → AreInFrame w (Dominant ∷ []) → LostSoFar w
lost_first w f k head own lt e r =
    let here : (Dominant ∷ []) ≡ own = ap (λ s. s.own) (sym (f.each k lt).1 ∙ e) in
    absurd (not_both_roles (frame_role (Some head) (Dominant ∷ [])) (role_first head Dominant) (subst (λ o. frame_role (Some head) o ≡ Rx) (sym here) r))

module _ (decides : ArbitrationDecides) (w : Wire) (own : List Level) (sound : AreSoundFrames w.count w.frames) (heads : OwnHeads w) (f : AreInFrame w own) (lost : LostSoFar w) where
  -- what a machine had, when it has this
  head_before : (k : ℕ) (lt : k < w.count) (head : Content) (o : Option Content) (more got : List Level) (s : Stretch) → (f.each k lt).0 ≡ o
      → s ≡ stretch_by (Framing o) more → s ≡ stretch_by (Framing (Some head)) got → stretch_at w k ≡ stretch_by (Framing (Some head)) own
  head_before k lt head o more got s there e g =
      (f.each k lt).1 ∙ ap (λ h. stretch_by (Framing h) own) (there ∙ ap (λ t. head_of t.sort) (sym e ∙ g))

  -- in the stuffed part
  module _ (none : stuffed_end own ≡ None) (handed : ℕ → Handed) where
    lost_now : (k : ℕ) (head : Content) → k < w.count → IsSender w own k head → frame_role (Some head) (own ++ bus w ∷ []) ≡ Rx → LostAt head (own ++ bus w ∷ [])
    lost_now k head lt s r = elim (stuffing.fate decides w own sound heads f none k head lt s) [
      | inl e ↦
          absurd (not_both_roles (frame_role (Some head) (own ++ bus w ∷ [])) (stuffing.kept_role decides w own sound heads f none head s.role e) r)
      | inr l ↦ record {
        place = length own;
        inside = (let more : length (own ++ bus w ∷ []) ≡ length own + 1 = length_more own (bus w) in omega arith);
        going_on = λ n below. ends_old own (bus w) n below ∙ first_none (ends_at own) (suc (length own)) none n (omega arith);
        found = found_old head own (bus w) (length own) (omega arith) (stuffing.found_here decides w own sound heads f none k head lt s);
        free = stuff_old own (bus w) (length own) (omega arith) ∙ l.free;
        arbitration = ap (λ ks. is_arbitration (bits_of head) (length ks)) (kept_old own (bus w) (length own) (omega arith)) ∙ l.arbitration;
        recessive = sent_old head own (bus w) (length own) (omega arith) ∙ l.recessive;
        dominant = at_new own (bus w) ∙ l.dominant;
      }
    ]

    lost_more : (k : ℕ) (head : Content) → k < w.count → stretch_at w k ≡ stretch_by (Framing (Some head)) own → frame_role (Some head) (own ++ bus w ∷ []) ≡ Rx
        → LostAt head (own ++ bus w ∷ [])
    lost_more k head lt before r = elim (role_cases (frame_role (Some head) own)) [
      | inl t ↦ lost_now k head lt (record { framing = before; role = t }) r
      | inr was ↦ lost_still head own (bus w) (lost k head own lt before was)
    ]

    pub lost_stuffed : LostSoFar (next_wire w (Bit handed))
    lost_stuffed k head got lt e r =
        let next : stretch_at (next_wire w (Bit handed)) k ≡ stretch_by (Framing (f.each k lt).0) (own ++ bus w ∷ []) = stuffing.next_stretch decides w own sound heads f none handed k lt in
        let same : (own ++ bus w ∷ []) ≡ got = ap (λ s. s.own) (sym next ∙ e) in
        subst (LostAt head) same
        (lost_more k head lt (head_before k lt head (f.each k lt).0 (own ++ bus w ∷ []) got (stretch_at (next_wire w (Bit handed)) k) refl next e)
        (subst (λ o. frame_role (Some head) o ≡ Rx) (sym same) r))

  -- after it
  module _ (end : ℕ) (over : stuffed_end own ≡ Some end) (handed : ℕ → Handed) where
    lost_then : (k : ℕ) (head : Content) → k < w.count → stretch_at w k ≡ stretch_by (Framing (Some head)) own → frame_role (Some head) (own ++ bus w ∷ []) ≡ Rx
        → LostAt head (own ++ bus w ∷ [])
    lost_then k head lt before r = elim (role_cases (frame_role (Some head) own)) [
      | inl t ↦
          absurd (not_both_roles (frame_role (Some head) (own ++ bus w ∷ []))
          (tail_sends head (length own - end) end own (bus w) (tail.is_tail w own sound heads f end over handed) t) r)
      | inr was ↦ lost_still head own (bus w) (lost k head own lt before was)
    ]

    pub lost_tail : LostSoFar (next_wire w (Bit handed))
    lost_tail k head got lt e r = elim (cases_eq (length own - end) 9) [
      | inl last ↦ lost_intermission (next_wire w (Bit handed)) [] (tail.frame_ends w own sound heads f end over handed last) k head got lt e r
      | inr apart ↦
          (let next : stretch_at (next_wire w (Bit handed)) k ≡ stretch_by (Framing (f.each k lt).0) (own ++ bus w ∷ []) = tail.next_stretch w own sound heads f end over handed apart k lt in
          let same : (own ++ bus w ∷ []) ≡ got = ap (λ s. s.own) (sym next ∙ e) in
          subst (LostAt head) same
          (lost_then k head lt (head_before k lt head (f.each k lt).0 (own ++ bus w ∷ []) got (stretch_at (next_wire w (Bit handed)) k) refl next e)
          (subst (λ o. frame_role (Some head) o ≡ Rx) (sym same) r)))
    ]

  pub lost_in_frame : (handed : ℕ → Handed) (o : Option ℕ) → stuffed_end own ≡ o → LostSoFar (next_wire w (Bit handed))
  lost_in_frame handed None e = lost_stuffed e handed
  lost_in_frame handed (Some end) e = lost_tail end e handed

module _ (decides : ArbitrationDecides) (laws : HeadLaws) (w : Wire) (sound : AreSoundFrames w.count w.frames) (heads : OwnHeads w) where
  pub lost_bit : AreInStep w → LostSoFar w → (handed : ℕ → Handed) → OwnHeads (next_wire w (Bit handed)) → LostSoFar (next_wire w (Bit handed))
  lost_bit (inl b) lost handed new_heads = elim (level_cases (bus w)) [
    | inl d ↦ lost_first (next_wire w (Bit handed)) (frame_begins w sound heads b handed new_heads d)
    | inr r ↦ lost_between (next_wire w (Bit handed)) (still_between w sound heads b handed r)
  ]
  lost_bit (inr (inl i)) lost handed new_heads = λ k head own lt e r.
      absurd (no_frame (i.1.each k lt).0 head own (i.0 ++ Recessive ∷ []) (sym (longer w i.0 i.1 handed k lt) ∙ e))
  lost_bit (inr (inr f)) lost handed new_heads = lost_in_frame decides w f.0 sound heads f.1 lost handed (stuffed_end f.0) refl
