-- One machine between frames and in an intermission, one sample later.
use Rattle.std.proofs.Common.{◌≡◌, List, [], ◌∷◌, ◌++◌, length, Bool, true, false, cond, ◌&&◌, Option, Some, None, refl, sym, ap, subst}
use Rattle.std.specs.Prelude.{◌==◌}
use Rattle.wl_level.specs.declared.Level.{Level}
use Rattle.wl_level.specs.declared.Level.TheVariants.{Dominant, Recessive}
use Rattle.wl_level.specs.Levels.{same}
use Rattle.wl_confine.specs.declared.Mode.{Mode}
use Rattle.wl_confine.specs.declared.Mode.TheVariants.{Active, Passive, Off}
use Rattle.wl_confine.specs.declared.Happened.{Happened}
use Rattle.wl_confine.specs.declared.Happened.TheVariants as happens
use Rattle.wl_frame.specs.Grammar.{Content, IsContent, IsReadAs, bits_of}
use Rattle.wl_frame.specs.Header.{sent_free}
use Rattle.wl_frame.proofs.Callers.{frame_is_read}
use Rattle.wl_machine.specs.declared.state.Role.{Role}
use Rattle.wl_machine.specs.declared.state.Role.TheVariants.{Tx, Rx}
use Rattle.wl_machine.specs.Stretch.{Sort, Stretch, Sampled, Judgement, Ended, continues, begins, free}
use Rattle.wl_machine.specs.Stretch.Sort.{Integration, Idle, Framing, Flagging, Waiting, Delimiting, Intermission, Suspension, OffBus}
use Rattle.wl_machine.specs.Stretch.Ended.{NoFrame}
use Rattle.wl_machine.specs.Stretch.Input.{Sample}
use Rattle.wl_machine.specs.BetweenFrames.{after_intermission, begun_head}
use Rattle.wl_machine.specs.Frames.{differing}
use Rattle.wl_machine.specs.Judged.{judged, judged_by, stretch_after, or_next, drive_of, drive_by}
use Rattle.wl_machine.specs.States.{sample_of, stretch_by}
use Rattle.wl_wire.specs.Wire.{is_between, is_between_by}
use Rattle.wl_wire.specs.InStep.{is_fine}
use Rattle.wl_wire.specs.Begins.{frame_begun}
use Rattle.wl_wire.proofs.Bus.{not_both}

-- what is sent is read as what it carries
pub read_back : (c : Content) → IsContent c → IsReadAs (bits_of c) c
unfolding bits_of
read_back c is = (frame_is_read (bits_of c) c).0 (is, sent_free, refl)

-- a frame that is to begin drives its start of frame
pub first_drive : (c : Content) → IsContent c → drive_by (Framing (Some c)) [] ≡ Dominant
first_drive c is = (read_back c is).begins

-- nothing happened, and no frame is completed
abbrev pub is_nothing : Happened → Bool
is_nothing happens.Nothing = true
is_nothing happened = false

abbrev pub is_no_frame : Ended → Bool
is_no_frame NoFrame = true
is_no_frame ended = false

abbrev pub is_plain : Judgement → Bool
is_plain j = is_nothing j.happened && is_no_frame j.ended

-- a machine stays between frames, and nothing is wrong
pub record StaysQuiet (s : Stretch) (x : Sampled) : Type 0 where
  pub between : is_between (stretch_after s (Sample x)) ≡ true
  pub fine : is_fine (judged s x).happened ≡ true
  pub plain : is_plain (judged s x) ≡ true

-- the same by the judgement
record QuietBy (s : Stretch) (level : Level) (j : Judgement) : Type 0 where
  between : is_between (or_next j.next (stretch_by s.sort (s.own ++ level ∷ []))) ≡ true
  fine : is_fine j.happened ≡ true
  plain : is_plain j ≡ true

quiet_free : (s : Stretch) (level : Level) (head : Option Content) → QuietBy s level (begins happens.Nothing (free head) [])
quiet_free s level None = record { between = refl; fine = refl; plain = refl }
quiet_free s level (Some head) = record { between = refl; fine = refl; plain = refl }

quiet_after : (s : Stretch) (level : Level) (role : Role) (mode : Mode) (head : Option Content) → QuietBy s level (begins happens.Nothing (after_intermission role mode head) [])
quiet_after s level Tx Active head = quiet_free s level head
quiet_after s level Tx Passive head = record { between = refl; fine = refl; plain = refl }
quiet_after s level Tx Off head = quiet_free s level head
quiet_after s level Rx mode head = quiet_free s level head

quiet_if : (s : Stretch) (level : Level) (b : Bool) (j k : Judgement) → QuietBy s level j → QuietBy s level k → QuietBy s level (cond b j k)
quiet_if s level true j k p q = p
quiet_if s level false j k p q = q

quiet_yes : (s : Stretch) (level : Level) (b : Bool) (j k : Judgement) → b ≡ true → QuietBy s level j → QuietBy s level (cond b j k)
quiet_yes s level true j k e p = p
quiet_yes s level false j k e p = cc

-- a recessive sample
quiet_by : (sort : Sort) (own : List Level) (head : Option Content) (mode : Mode) → is_between_by sort own ≡ true → drive_by sort own ≡ Recessive
    → ((c : Content) → sort ≡ Framing (Some c) → IsContent c) → QuietBy (stretch_by sort own) Recessive (judged_by sort own (sample_of Recessive head mode))
quiet_by Idle own None mode h d is = record { between = refl; fine = refl; plain = refl }
quiet_by Idle own (Some head) mode h d is = record { between = refl; fine = refl; plain = refl }
quiet_by Suspension own head mode h d is =
    quiet_if (stretch_by Suspension own) Recessive (length own == 7) _ _ (quiet_free (stretch_by Suspension own) Recessive head) (record { between = refl; fine = refl; plain = refl })
quiet_by (Intermission role) own head mode h d is =
    quiet_yes (stretch_by (Intermission role) own) Recessive (length own == 2) _ _ h (quiet_after (stretch_by (Intermission role) own) Recessive role mode head)
quiet_by (Framing (Some c)) [] head mode h d is = absurd (not_both (drive_by (Framing (Some c)) []) (first_drive c (is c refl)) d)
quiet_by (Framing (Some c)) (l ∷ own) head mode h d is = cc
quiet_by (Framing None) own head mode h d is = cc
quiet_by Integration own head mode h d is = cc
quiet_by (Flagging flag role) own head mode h d is = cc
quiet_by (Waiting flag role flagged) own head mode h d is = cc
quiet_by (Delimiting role) own head mode h d is = cc
quiet_by OffBus own head mode h d is = cc

pub stays_quiet : (s : Stretch) (head : Option Content) (mode : Mode) → is_between s ≡ true → drive_of s ≡ Recessive
    → ((c : Content) → s.sort ≡ Framing (Some c) → IsContent c) → StaysQuiet s (sample_of Recessive head mode)
stays_quiet s head mode h d is =
    let q : QuietBy s Recessive (judged s (sample_of Recessive head mode)) = quiet_by s.sort s.own head mode h d is in
    record { between = q.between; fine = q.fine; plain = q.plain }

-- a machine begins a frame with a dominant sample: its own, if it was to begin one
pub record Begins (s : Stretch) (x : Sampled) : Type 0 where
  pub head : Option Content
  pub next : stretch_after s (Sample x) ≡ stretch_by (Framing head) (Dominant ∷ [])
  pub fine : is_fine (judged s x).happened ≡ true
  pub plain : is_plain (judged s x) ≡ true
  pub own_head : (c : Content) → s.sort ≡ Framing (Some c) → head ≡ Some c
  pub begun : head ≡ frame_begun s.sort x

record BeginsBy (s : Stretch) (x : Sampled) (j : Judgement) : Type 0 where
  head : Option Content
  next : or_next j.next (stretch_by s.sort (s.own ++ Dominant ∷ [])) ≡ stretch_by (Framing head) (Dominant ∷ [])
  fine : is_fine j.happened ≡ true
  plain : is_plain j ≡ true
  own_head : (c : Content) → s.sort ≡ Framing (Some c) → head ≡ Some c
  begun : head ≡ frame_begun s.sort x

begins_yes : (s : Stretch) (x : Sampled) (b : Bool) (j k : Judgement) → b ≡ true → BeginsBy s x j → BeginsBy s x (cond b j k)
begins_yes s x true j k e p = p
begins_yes s x false j k e p = cc

begins_by : (sort : Sort) (own : List Level) (head : Option Content) (mode : Mode) → is_between_by sort own ≡ true
    → ((c : Content) → sort ≡ Framing (Some c) → IsContent c) → BeginsBy (stretch_by sort own) (sample_of Dominant head mode) (judged_by sort own (sample_of Dominant head mode))
begins_by Idle own head mode h is = record { head = None; next = refl; fine = refl; plain = refl; own_head = λ c e. cc; begun = refl }
begins_by Suspension own head mode h is = record { head = None; next = refl; fine = refl; plain = refl; own_head = λ c e. cc; begun = refl }
begins_by (Intermission role) own head mode h is =
    begins_yes (stretch_by (Intermission role) own) (sample_of Dominant head mode) (length own == 2) _ _ h (record { head = begun_head role mode head; next = refl; fine = refl; plain = refl; own_head = λ c e. cc; begun = refl })
begins_by (Framing (Some c)) [] head mode h is =
    let x : Sampled = sample_of Dominant head mode in
    subst (BeginsBy (stretch_by (Framing (Some c)) []) (sample_of Dominant head mode))
    (sym (ap (λ l. cond (same l Dominant) (continues happens.Nothing) (differing c [] x)) (read_back c (is c refl)).begins))
    (record { head = Some c; next = refl; fine = refl; plain = refl; own_head = λ d e. cc; begun = refl })
begins_by (Framing (Some c)) (l ∷ own) head mode h is = cc
begins_by (Framing None) own head mode h is = cc
begins_by Integration own head mode h is = cc
begins_by (Flagging flag role) own head mode h is = cc
begins_by (Waiting flag role flagged) own head mode h is = cc
begins_by (Delimiting role) own head mode h is = cc
begins_by OffBus own head mode h is = cc

pub begins_frame : (s : Stretch) (head : Option Content) (mode : Mode) → is_between s ≡ true
    → ((c : Content) → s.sort ≡ Framing (Some c) → IsContent c) → Begins s (sample_of Dominant head mode)
begins_frame s head mode h is =
    let b : BeginsBy s (sample_of Dominant head mode) (judged s (sample_of Dominant head mode)) = begins_by s.sort s.own head mode h is in
    record { head = b.head; next = b.next; fine = b.fine; plain = b.plain; own_head = b.own_head; begun = b.begun }

-- one of the first two bits of an intermission
pub record GoesOn (role : Role) (own : List Level) (x : Sampled) : Type 0 where
  pub next : stretch_after (stretch_by (Intermission role) own) (Sample x) ≡ stretch_by (Intermission role) (own ++ Recessive ∷ [])
  pub fine : is_fine (judged (stretch_by (Intermission role) own) x).happened ≡ true
  pub plain : is_plain (judged (stretch_by (Intermission role) own) x) ≡ true

pub goes_on : (role : Role) (own : List Level) (head : Option Content) (mode : Mode) → (length own == 2) ≡ false → GoesOn role own (sample_of Recessive head mode)
goes_on role own head mode h =
    let x : Sampled = sample_of Recessive head mode in
    let j : judged (stretch_by (Intermission role) own) x ≡ continues happens.Nothing =
    ap (λ b. cond b (begins happens.Nothing (after_intermission role mode head) []) (continues happens.Nothing)) h in
    record {
      next = ap (λ k. or_next k.next (stretch_by (Intermission role) (own ++ Recessive ∷ []))) j;
      fine = ap (λ k. is_fine k.happened) j;
      plain = ap is_plain j;
    }
