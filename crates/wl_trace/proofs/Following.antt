-- What comes with a sample.
use Rattle.std.proofs.Common.{◌≡◌, ◌∙◌, refl, ap, sym, subst, nat_le, true, false, Bool, cond, List, [], ◌∷◌, length, Some}
use Rattle.wl_level.specs.declared.Level.{Level}
use Rattle.wl_level.specs.Levels.{is_dominant, same}
use Rattle.wl_confine.specs.declared.ErrorKind.{ErrorKind}
use Rattle.wl_confine.specs.declared.ErrorKind.TheVariants.{Bit}
use Rattle.wl_confine.specs.declared.Mode.{Mode}
use Rattle.wl_confine.specs.declared.Mode.TheVariants as modes
use Rattle.wl_confine.specs.declared.Happened.TheVariants as happens
use Rattle.wl_confine.specs.Counts.{is_error}
use Rattle.wl_frame.specs.Stuffing.{is_stuff, destuffed_bits}
use Rattle.wl_frame.specs.Grammar.{Content, bits_of, layout_of, is_arbitration}
use Rattle.wl_machine.specs.declared.state.Role.TheVariants.{Tx}
use Rattle.wl_machine.specs.Stretch.{Flag, Stretch, Sampled, Judgement, continues, begins}
use Rattle.wl_machine.specs.Stretch.Sort.{Delimiting, Flagging}
use Rattle.wl_machine.specs.Flags.{waiting, error_flag, fails}
use Rattle.wl_machine.specs.Frames.{sent_at, differing, sending}
use Rattle.wl_machine.specs.States.{stretch_by}
use Rattle.wl_trace.specs.Running.{way_of, error_kind, IsKind, ComesNext}
use Rattle.wl_trace.specs.declared.stretch.NextStretch.TheVariants.{Same, Begins}

pub waiting_ends : (flag : Flag) (flagged own : List Level) (x : Sampled) (level : Level) (sends : Bool) → x.level ≡ level → is_dominant level ≡ false
    → (s : Stretch) × ((waiting flag (way_of sends) flagged own x).next ≡ Some s) × (s.own ≡ level ∷ []) × (s.sort ≡ Delimiting (way_of sends))
waiting_ends flag flagged own x level sends e h =
    (stretch_by (Delimiting (way_of sends)) (x.level ∷ []), rw (ap is_dominant e ∙ h) refl, ap (λ l. l ∷ []) e, refl)

-- a judgement of a transmitter, by which the stretch goes on or the flag of an error begins
module _ (level : Level) (mode : Mode) where
  abbrev FlagsError : Judgement → Type 0
  FlagsError j = ComesNext level (cond (is_error j.happened) (Begins (error_kind mode true) false) Same) j.next

  flagged : (m : Mode) → IsKind (error_kind m true) [] (stretch_by (Flagging (error_flag m) Tx) [])
  flagged modes.Active = refl
  flagged modes.Passive = (false, refl)
  flagged modes.Off = (false, refl)

  fails_so : (kind : ErrorKind) → FlagsError (fails Tx mode kind)
  fails_so kind = (stretch_by (Flagging (error_flag mode) Tx) [], refl, refl, flagged mode)

  free_so : FlagsError (begins happens.TxFree (Flagging (error_flag mode) Tx) [])
  free_so = (stretch_by (Flagging (error_flag mode) Tx) [], refl, refl, flagged mode)

  on_so : FlagsError (continues happens.Nothing)
  on_so = refl

  if_so : (b : Bool) (j k : Judgement) → FlagsError j → FlagsError k → FlagsError (cond b j k)
  if_so true j k p q = p
  if_so false j k p q = q

  differing_so : (head : Content) (own : List Level) (x : Sampled) → x.mode ≡ mode → FlagsError (differing head own x)
  differing_so head own x e =
      subst (λ m. FlagsError (differing head own (record x { mode = m }))) (sym e)
      (if_so (is_dominant (sent_at head own (length own))) _ _ (fails_so Bit)
      (if_so (is_stuff own (length own)) _ _
      (if_so (nat_le (length (destuffed_bits own (length own))) (layout_of (bits_of head)).rtr) _ _ free_so (fails_so Bit))
      (if_so (is_arbitration (bits_of head) (length (destuffed_bits own (length own)))) _ _ on_so (fails_so Bit))))

  pub sending_so : (head : Content) (own : List Level) (x : Sampled) → x.mode ≡ mode → FlagsError (sending head own x)
  sending_so head own x e = if_so (same (sent_at head own (length own)) x.level) _ _ on_so (differing_so head own x e)
