-- A frame that is sent: the place of its last bit, and what was found at each.
use Rattle.std.proofs.Common.{◌≡◌, ◌∙◌, ℕ, ◌-◌, ◌≤◌, List, [], ◌∷◌, ◌++◌, length, Bool, true, false, not, cond, ◌&&◌, Option, Some, None, refl, sym, ap, subst, arith, inl, inr}
use Rattle.std.proofs.lemmas.Bool.{both_ways, cases_eq}
use Rattle.wl_level.specs.declared.Level.{Level}
use Rattle.wl_level.specs.declared.Level.TheVariants.{Dominant, Recessive}
use Rattle.wl_level.specs.Levels.{is_dominant, same}
use Rattle.wl_level.specs.Places.{at, or_at}
use Rattle.wl_level.proofs.Callers.{at_new, at_old, same_equal, recessive_from}
use Rattle.wl_frame.specs.Stuffing.{is_stuff, destuffed_bits}
use Rattle.wl_frame.specs.Header.{sent_free}
use Rattle.wl_frame.specs.Grammar.{Content, IsContent, IsReadAs, bits_of, content_of, is_arbitration}
use Rattle.wl_frame.proofs.Callers.{frame_is_read, stuff_old, kept_old}
use Rattle.wl_confine.specs.declared.ErrorKind.TheVariants.{Form}
use Rattle.wl_confine.specs.declared.Happened.TheVariants as happens
use Rattle.wl_confine.specs.declared.Mode.{Mode}
use Rattle.wl_confine.specs.declared.Mode.TheVariants.{Active, Passive, Off}
use Rattle.wl_machine.specs.declared.state.Role.{Role}
use Rattle.wl_machine.specs.declared.state.Role.TheVariants.{Tx, Rx}
use Rattle.wl_machine.specs.Stretch.{Flag, Stretch, Sampled, Judgement}
use Rattle.wl_machine.specs.Stretch.Ended.{Sent, Received}
use Rattle.wl_machine.specs.Stretch.Input.{Sample}
use Rattle.wl_machine.specs.Stretch.Sort.{Framing, Flagging}
use Rattle.wl_machine.specs.Frames.{stuffed_end, sent_at, is_lost, frame_role, framing_by, framing_sent, framing_received, unanswered, last_bit, received_tail}
use Rattle.wl_machine.specs.Flags.{error_flag, fails}
use Rattle.wl_machine.specs.Judged.{judged, stretch_after}
use Rattle.wl_machine.specs.Laws.{FoundSent}
use Rattle.wl_machine.specs.States.{stretch_by}
use Rattle.wl_machine.proofs.Callers.{end_more, ends_at, role_next}
use Rattle.wl_wire.proofs.Callers.{not_both_roles, sent_old}
use Rattle.wl_heal.proofs.Cases.{differing_cases, lost_cases, sending_cases, receiving_cases, sent_tail_cases, acknowledging_cases, received_tail_cases}
use Rattle.wl_heal.proofs.Heal.{ends_now}
use Rattle.wl_heal.proofs.Samples.{going, either, longer}

pub read_back : (c : Content) → IsContent c → IsReadAs (bits_of c) c
unfolding bits_of
read_back c is = (frame_is_read (bits_of c) c).0 (is, sent_free, refl)

-- the last bit of a frame that is sent
pub record IsLast (f : Content) (own : List Level) (x : Sampled) : Type 0 where
  pub role : frame_role (Some f) own ≡ Tx
  pub end : ℕ
  pub over : stuffed_end own ≡ Some end
  pub place : length own - end ≡ 9
  pub level : x.level ≡ Recessive

module _ (f g : Content) (own : List Level) (x : Sampled) where
  abbrev L : Judgement → Type 0
  L j = frame_role (Some f) own ≡ Tx → j.ended ≡ Sent g → IsLast f own x

  last_sent : (o : Option ℕ) → stuffed_end own ≡ o → L (framing_sent f own o x)
  last_sent None e = sending_cases L x f own (λ s r h. cc) (λ s. differing_cases L x f own (λ r h. cc) (λ r h. cc) (λ r h. cc))
  last_sent (Some end) e =
      sent_tail_cases L x f (length own - end) (λ one d r h. cc) (λ one d. none x.mode) (λ no d r h. cc)
      (λ nine l r h. record { role = r; end = end; over = e; place = nine; level = recessive_from x.level l }) (λ no nine l r h. cc)
    where
      none : (mode : Mode) → L (unanswered mode)
      none Active r h = cc
      none Passive r h = cc
      none Off r h = cc

  abbrev N : Judgement → Type 0
  N j = j.ended ≡ Sent g → IsLast f own x

  none_received : (o : Option ℕ) → N (framing_received own o x)
  none_received None = receiving_cases N x own (λ a b h. cc) (λ a h. cc)
  none_received (Some end) =
      received_tail_cases N x (destuffed_bits own end) (length own - end)
      (λ one. acknowledging_cases N x (destuffed_bits own end) (λ a h. cc) (λ a b h. cc) (λ a b h. cc))
      (λ nine. last x.level) (λ a b d h. cc) (λ a b d h. cc) (λ a b h. cc) (λ a b d e h. cc)
    where
      last : (l : Level) → N (last_bit x)
      last l = either N (is_dominant x.level) _ _ (λ h. cc) (λ h. cc)

  last_by : (role : Role) → frame_role (Some f) own ≡ role → (framing_by role (Some f) own x).ended ≡ Sent g → IsLast f own x
  last_by Tx e h = last_sent (stuffed_end own) refl e h
  last_by Rx e h = none_received (stuffed_end own) h

  pub last_is : (judged (stretch_by (Framing (Some f)) own) x).ended ≡ Sent g → IsLast f own x
  last_is h = last_by (frame_role (Some f) own) refl h

flag_apart : (flag : Flag) (f : Content) (ls : List Level) → stretch_by (Flagging flag Tx) [] ≡ stretch_by (Framing (Some f)) ls → ⊥
flag_apart flag f ls e = let g : Flagging flag Tx ≡ Framing (Some f) = ap (λ (s : Stretch). s.sort) e in cc

some_none : (end : ℕ) → Some end ≡ None → ⊥
some_none end e = cc

-- a transmitter that goes on with a frame, and stays its transmitter, has found what it sent
module _ (f : Content) (own : List Level) (x : Sampled) (now : frame_role (Some f) own ≡ Tx) (then : frame_role (Some f) (own ++ x.level ∷ []) ≡ Tx) where
  abbrev P : Judgement → Type 0
  P j = going (Framing (Some f)) own x.level j ≡ stretch_by (Framing (Some f)) (own ++ x.level ∷ []) → sent_at f own (length own) ≡ x.level

  not_lost : is_lost f (own ++ x.level ∷ []) (length own) ≡ false
  not_lost = by (is_lost f (own ++ x.level ∷ []) (length own)) (sym (role_next f own x.level) ∙ then)
    where
      by : (b : Bool) → cond b Rx (frame_role (Some f) own) ≡ Tx → b ≡ false
      by true e = cc
      by false e = refl

  lost_here : is_lost f (own ++ x.level ∷ []) (length own)
      ≡ (not (is_stuff own (length own)) && is_arbitration (bits_of f) (length (destuffed_bits own (length own))) && not (is_dominant (sent_at f own (length own))) && is_dominant x.level)
  lost_here =
      ap (λ s. not s && is_arbitration (bits_of f) (length (destuffed_bits (own ++ x.level ∷ []) (length own))) && not (is_dominant (sent_at f (own ++ x.level ∷ []) (length own))) && is_dominant (at (own ++ x.level ∷ []) (length own)))
      (stuff_old own x.level (length own) (omega arith))
      ∙ ap (λ ls. not (is_stuff own (length own)) && is_arbitration (bits_of f) (length ls) && not (is_dominant (sent_at f (own ++ x.level ∷ []) (length own))) && is_dominant (at (own ++ x.level ∷ []) (length own)))
      (kept_old own x.level (length own) (omega arith))
      ∙ ap (λ l. not (is_stuff own (length own)) && is_arbitration (bits_of f) (length (destuffed_bits own (length own))) && not (is_dominant l) && is_dominant (at (own ++ x.level ∷ []) (length own)))
      (sent_old f own x.level (length own) (omega arith))
      ∙ ap (λ l. not (is_stuff own (length own)) && is_arbitration (bits_of f) (length (destuffed_bits own (length own))) && not (is_dominant (sent_at f own (length own))) && is_dominant l)
      (at_new own x.level)

  off : (sent l : Level) (s a : Bool) → same sent l ≡ false → is_dominant sent ≡ false → s ≡ false → a ≡ true → (not s && a && not (is_dominant sent) && is_dominant l) ≡ true
  off Dominant l s a d r t u = cc
  off Recessive Recessive s a d r t u = cc
  off Recessive Dominant s a d r t u = ap (λ b. not b && a && true && true) t ∙ ap (λ b. b && true && true) u

  found_by : (o : Option ℕ) → stuffed_end own ≡ o → o ≡ None → P (framing_sent f own o x)
  found_by None e none =
      sending_cases P x f own (λ s g. same_equal (sent_at f own (length own)) x.level s)
      (λ s. lost_cases P x f own (λ g. absurd (flag_apart (error_flag x.mode) f (own ++ x.level ∷ []) g)) (λ g. absurd (flag_apart (error_flag x.mode) f (own ++ x.level ∷ []) g))
      (λ r t u g. absurd (both_ways _ not_lost (lost_here ∙ off (sent_at f own (length own)) x.level (is_stuff own (length own)) (is_arbitration (bits_of f) (length (destuffed_bits own (length own)))) s r t u))))
  found_by (Some end) e none = absurd (some_none end none)

  found_as : (role : Role) → role ≡ Tx → stuffed_end own ≡ None → P (framing_by role (Some f) own x)
  found_as Tx r none = found_by (stuffed_end own) refl none
  found_as Rx r none = absurd (not_both_roles Rx r refl)

  pub found_next : stuffed_end own ≡ None → stretch_after (stretch_by (Framing (Some f)) own) (Sample x) ≡ stretch_by (Framing (Some f)) (own ++ x.level ∷ []) → sent_at f own (length own) ≡ x.level
  found_next none = found_as (frame_role (Some f) own) now none

-- what was found so far, below a place
pub found_more : (f : Content) (own : List Level) (l : Level) (end : ℕ) → FoundSent f own (length own) → sent_at f own (length own) ≡ l → FoundSent f (own ++ l ∷ []) (length (own ++ l ∷ []))
found_more f own l end old here k lt =
    let long = longer own l in
    elim (cases_eq k (length own)) [
      | inl e ↦ subst (λ m. at (own ++ l ∷ []) m ≡ sent_at f (own ++ l ∷ []) m) (sym e) (at_new own l ∙ sym here ∙ sym (sent_old f own l (length own) (omega arith)))
      | inr ne ↦ at_old own l k (omega (arith, lt, ne)) ∙ old k (omega (arith, lt, ne)) ∙ sym (sent_old f own l k (omega (arith, lt, ne)))
    ]

-- the end of the stuffed part was where it is
pub end_back : (own : List Level) (l : Level) (end : ℕ) → end ≤ length own → stuffed_end (own ++ l ∷ []) ≡ Some end → stuffed_end own ≡ Some end
end_back own l end le h = by (stuffed_end own) refl
  where
    by : (o : Option ℕ) → stuffed_end own ≡ o → o ≡ Some end
    by None e =
        let long = longer own l in
        let at_end : end ≡ length (own ++ l ∷ []) = ends_now own l end e h in
        absurd (omega arith)
    by (Some k) e = sym (end_more own l ∙ ap (λ o. or_at o (ends_at (own ++ l ∷ []) (length (own ++ l ∷ []))) (length (own ++ l ∷ []))) e) ∙ h

abbrev received_there : List Level → Judgement
received_there bits = record { happened = happens.Nothing; ended = Received (content_of bits); next = None }

-- a receiver has the frame with the last but one bit of the end of frame
pub got_there : (bits : List Level) (place : ℕ) (x : Sampled) → place ≡ 8 → x.level ≡ Recessive → (received_tail bits place x).ended ≡ Received (content_of bits)
got_there bits place x e r =
    ap (λ n. (received_tail bits n x).ended) e ∙ ap (λ l. (cond (is_dominant l) (fails Rx x.mode Form) (received_there bits)).ended) r
