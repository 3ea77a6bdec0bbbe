-- A machine that is in no gap between frames doesn't look at the head that it is handed.
use Rattle.std.proofs.Common.{◌≡◌, ◌∙◌, ℕ, Bool, true, false, List, [], ◌∷◌, ◌++◌, Option, Some, None, refl, sym, ap}
use Rattle.wl_level.specs.declared.Level.{Level}
use Rattle.wl_confine.specs.declared.Mode.{Mode}
use Rattle.wl_frame.specs.Grammar.{Content}
use Rattle.wl_machine.specs.declared.state.Role.{Role}
use Rattle.wl_machine.specs.declared.state.Role.TheVariants.{Tx, Rx}
use Rattle.wl_machine.specs.Doing.{doing_as, doing_by, doing_of}
use Rattle.wl_machine.specs.Stretch.{Flag, Input, Sort, Stretch, Sampled}
use Rattle.wl_machine.specs.Stretch.Flag.{ActiveFlag, OverloadFlag, PassiveFlag}
use Rattle.wl_machine.specs.Stretch.Sort.{Integration, Idle, Framing, Flagging, Waiting, Delimiting, Intermission, Suspension, OffBus}
use Rattle.wl_machine.specs.Frames.{frame_role, framing_by, framing_received, framing_sent, stuffed_end}
use Rattle.std.specs.Prelude.{fold}
use Rattle.std.proofs.lemmas.List.Sums.{fold-append}
use Rattle.wl_machine.specs.Judged.{head_of, judged, judged_by, or_next, stretch_after, stretch_of}
use Rattle.wl_machine.proofs.Callers.{stretch_next}
use Rattle.wl_machine.specs.Stretch.Input.{Sample}
use Rattle.wl_machine.specs.States.{sample_of}
use Rattle.wl_node.specs.Deciding.{looks_at_head}

module _ (level : Level) (a b : Option Content) (mode : Mode) where
  abbrev x : Sampled
  x = sample_of level a mode

  abbrev y : Sampled
  y = sample_of level b mode

  received : (own : List Level) (end : Option ℕ) → framing_received own end x ≡ framing_received own end y
  received own None = refl
  received own (Some end) = refl

  sent : (head : Content) (own : List Level) (end : Option ℕ) → framing_sent head own end x ≡ framing_sent head own end y
  sent head own None = refl
  sent head own (Some end) = refl

  framed : (role : Role) (head : Option Content) (own : List Level) → framing_by role head own x ≡ framing_by role head own y
  framed Tx (Some head) own = sent head own (stuffed_end own)
  framed Tx None own = received own (stuffed_end own)
  framed Rx head own = received own (stuffed_end own)

  flagged : (flag : Flag) (role : Role) (own : List Level) → judged_by (Flagging flag role) own x ≡ judged_by (Flagging flag role) own y
  flagged ActiveFlag role own = refl
  flagged OverloadFlag role own = refl
  flagged (PassiveFlag unacknowledged) role own = refl

  pub unlooked : (s : Sort) (own : List Level) → looks_at_head (doing_by s own) ≡ false → judged_by s own x ≡ judged_by s own y
  unlooked Integration own e = cc
  unlooked Idle own e = cc
  unlooked (Framing head) own e = framed (frame_role head own) head own
  unlooked (Flagging flag role) own e = flagged flag role own
  unlooked (Waiting flag role flagged) own e = refl
  unlooked (Delimiting role) own e = refl
  unlooked (Intermission role) own e = cc
  unlooked Suspension own e = cc
  unlooked OffBus own e = cc

-- one that is in a gap sends no frame
pub headless : (s : Sort) (own : List Level) → looks_at_head (doing_by s own) ≡ true → head_of s ≡ None
headless Integration own e = refl
headless Idle own e = refl
headless (Framing head) own e = by (frame_role head own) e
  where
    by : (role : Role) → looks_at_head (doing_as role) ≡ true → head ≡ None
    by Tx f = cc
    by Rx f = cc
headless (Flagging flag role) own e = refl
headless (Waiting flag role flagged) own e = refl
headless (Delimiting role) own e = refl
headless (Intermission role) own e = refl
headless Suspension own e = refl
headless OffBus own e = refl

-- a sample by which the machine does the same leaves it at the same, also if it is switched off then
pub same_stretch : (past : List Input) (x y : Sampled) (off : List Input) → x.level ≡ y.level → judged (stretch_of past) x ≡ judged (stretch_of past) y
    → stretch_of ((past ++ Sample x ∷ []) ++ off) ≡ stretch_of ((past ++ Sample y ∷ []) ++ off)
same_stretch past x y off level same =
    fold-append stretch_after _ (past ++ Sample x ∷ []) off
    ∙ ap (λ s. fold stretch_after s off)
    (stretch_next past (Sample x)
    ∙ ap (λ j. or_next j.next (record { sort = (stretch_of past).sort; own = (stretch_of past).own ++ x.level ∷ [] })) same
    ∙ ap (λ l. or_next (judged (stretch_of past) y).next (record { sort = (stretch_of past).sort; own = (stretch_of past).own ++ l ∷ [] })) level
    ∙ sym (stretch_next past (Sample y)))
    ∙ sym (fold-append stretch_after _ (past ++ Sample y ∷ []) off)

-- what a sample does where the machine looks at the head that it is handed, and where it doesn't
pub same_judged : (s : Stretch) (level : Level) (a b : Option Content) (mode : Mode) → (looks_at_head (doing_of s) ≡ true → a ≡ b) → (looks_at_head (doing_of s) ≡ false → a ≡ None)
    → judged s (sample_of level a mode) ≡ judged s (sample_of level b mode)
same_judged s level a b mode handed none = by (looks_at_head (doing_of s)) refl
  where
    by : (t : Bool) → looks_at_head (doing_of s) ≡ t → judged s (sample_of level a mode) ≡ judged s (sample_of level b mode)
    by true e = ap (λ o. judged s (sample_of level o mode)) (handed e)
    by false e = unlooked level a b mode s.sort s.own e
