-- A sample of which nothing comes but that the running stretch has it.
use Rattle.std.proofs.Common.{◌≡◌, ◌∙◌, refl, sym, ap, subst, append-nil, ◌-◌, Bool, true, false, not, cond, ◌&&◌, ℕ, List, [], ◌∷◌, ◌++◌, length, Option, Some, None}
use Rattle.std.specs.Prelude.{◌==◌, nat_lt}
use Rattle.std.proofs.lemmas.Bool.{and_right}
use Rattle.std.proofs.lemmas.List.Sums.{fold-append}
use Rattle.wl_level.specs.declared.Level.{Level}
use Rattle.wl_level.specs.declared.Level.TheVariants.{Dominant, Recessive}
use Rattle.wl_level.specs.Levels.{is_dominant}
use Rattle.wl_level.proofs.Callers.{at_new}
use Rattle.wl_confine.specs.declared.Happened.TheVariants.{Nothing}
use Rattle.wl_confine.specs.declared.Mode.{Mode}
use Rattle.wl_confine.specs.declared.Mode.TheVariants.{Active, Passive, Off}
use Rattle.wl_confine.specs.Counts.{Counts, counts_after, counts_of, mode_of, no_counts}
use Rattle.wl_frame.specs.Grammar.{Content}
use Rattle.wl_machine.specs.declared.state.Role.{Role}
use Rattle.wl_machine.specs.declared.state.Role.TheVariants.{Tx, Rx}
use Rattle.wl_machine.specs.Stretch.{Judgement, Sort, Stretch, Sampled, continues}
use Rattle.wl_machine.specs.Stretch.Input.{Sample}
use Rattle.wl_machine.specs.Stretch.Sort.{Integration, Idle, Framing, Flagging, Waiting, Delimiting, Intermission, Suspension, OffBus}
use Rattle.wl_machine.specs.Frames.{frame_role, is_lost, stuffed_end}
use Rattle.wl_machine.specs.Judged.{drive_of, head_of, or_next, role_by, stretch_of}
use Rattle.wl_machine.proofs.Callers.{stretch_next}
use Rattle.wl_machine.specs.Keeps.{keeps, keeps_by, keeps_in_frame}
use Rattle.wl_machine.specs.Reached.{IsMachine}
use Rattle.wl_machine.specs.Roles.{loses_by}
use Rattle.wl_node.specs.declared.setup.NodeSetup.{NodeSetup}
use Rattle.wl_node.specs.History.{switched_off}
use Rattle.wl_node.specs.Queues.{unsent_by}
use Rattle.wl_node.specs.Unsent.{IsChosen, IsUnsent}
use Rattle.wl_trace.specs.declared.sampled_node.SampledNode.{SampledNode}
use Rattle.wl_trace.specs.declared.event.NodeEvent.{NodeEvent}
use Rattle.wl_trace.specs.declared.event.NodeEvent.TheVariants.{ArbitrationLost}
use Rattle.wl_trace.specs.Events.{flag_events, is_transmitter, judged_events, lost_events, mode_events, is_same_mode}
use Rattle.wl_trace.specs.Places.{next_place}
use Rattle.wl_trace.specs.Replay.{IsSampledNode, SampledPast, judged_then, past_after, past_judged, sampled_then, then_events}

-- A transmitter's in a frame is recessive, and with such a one it loses no arbitration.
recessive_in : (end : Option ℕ) (own : List Level) (level : Level) → keeps_in_frame Tx end own level ≡ true → is_dominant level ≡ false
recessive_in None own level e = cc
recessive_in (Some end) own Recessive e = refl
recessive_in (Some end) own Dominant e =
    (let f : false ≡ true = sym (and_right (not ((length own - end) == 1) && nat_lt (length own - end) 9) false refl) ∙ e in cc)

not_lost : (head : Content) (own : List Level) (level : Level) → is_dominant level ≡ false → is_lost head (own ++ level ∷ []) (length own) ≡ false
not_lost head own level d = and_right _ _ (ap is_dominant (at_new own level) ∙ d)

abbrev lost_as : Role → Bool → List NodeEvent → List NodeEvent
lost_as role loses lost = cond (is_transmitter role) (cond loses lost []) []

framed_none : (head : Option Content) (own : List Level) (level : Level) (lost : List NodeEvent) (role : Role) → keeps_in_frame role (stuffed_end own) own level ≡ true
    → lost_as role (loses_by (Framing head) own level) lost ≡ []
framed_none head own level lost Rx e = refl
framed_none None own level lost Tx e = refl
framed_none (Some head) own level lost Tx e = ap (λ b. lost_as Tx b lost) (not_lost head own level (recessive_in (stuffed_end own) own level e))

none_lost : (sort : Sort) (own : List Level) (level : Level) (lost : List NodeEvent) → keeps_by sort own level ≡ true
    → lost_as (role_by sort own) (loses_by sort own level) lost ≡ []
none_lost Integration own level lost e = refl
none_lost Idle own level lost e = refl
none_lost (Framing head) own level lost e = framed_none head own level lost (frame_role head own) e
none_lost (Flagging flag role) own level lost e = cc
none_lost (Waiting flag role flagged) own level lost e = cc
none_lost (Delimiting Tx) own level lost e = refl
none_lost (Delimiting Rx) own level lost e = refl
none_lost (Intermission Tx) own level lost e = refl
none_lost (Intermission Rx) own level lost e = refl
none_lost Suspension own level lost e = refl
none_lost OffBus own level lost e = refl

pub lost_none : (s : Stretch) (level : Level) → keeps s level ≡ true → lost_events s level ≡ []
lost_none s level e = none_lost s.sort s.own level (ArbitrationLost (next_place s) ∷ []) e

never_turns : (m n : Mode) → n ≡ m → switched_off m n ≡ []
never_turns Active Active e = refl
never_turns Active Passive e = refl
never_turns Active Off e = cc
never_turns Passive Active e = refl
never_turns Passive Passive e = refl
never_turns Passive Off e = cc
never_turns Off n e = refl

same_mode : (m : Mode) → is_same_mode m m ≡ true
same_mode Active = refl
same_mode Passive = refl
same_mode Off = refl

-- nor is anything else noted of it
flag_none : (m : Mode) → flag_events m None ≡ []
flag_none Active = refl
flag_none Passive = refl
flag_none Off = refl

mode_none : (counts : Counts) → mode_events counts counts ≡ []
mode_none counts = rw (same_mode (mode_of counts)) refl

all_none : (a b c : List NodeEvent) → a ≡ [] → b ≡ [] → c ≡ [] → (a ++ [] ++ b ++ [] ++ c) ≡ []
all_none a b c p q r =
    ap (λ (x : List NodeEvent). x ++ [] ++ b ++ [] ++ c) p ∙ ap (λ (x : List NodeEvent). [] ++ [] ++ x ++ [] ++ c) q ∙ ap (λ (x : List NodeEvent). [] ++ [] ++ [] ++ [] ++ x) r

module _ (setup : NodeSetup) (p : SampledPast) (quantum : ℕ) (level : Level) (judged_is : judged_then setup p quantum level ≡ continues Nothing) where
  abbrev x : Sampled
  x = sampled_then setup p quantum level

  counts_same : counts_of (p.happened ++ Nothing ∷ []) ≡ counts_of p.happened
  counts_same = fold-append counts_after no_counts p.happened (Nothing ∷ [])

  off : switched_off x.mode (mode_of (counts_of (p.happened ++ Nothing ∷ []))) ≡ []
  off = never_turns x.mode (mode_of (counts_of (p.happened ++ Nothing ∷ []))) (ap mode_of counts_same)

  abbrev kept_past : SampledPast
  kept_past = record {
    inputs = p.inputs ++ Sample x ∷ [];
    happened = p.happened ++ Nothing ∷ [];
    frames = p.frames;
    samples = p.samples ++ (quantum, level) ∷ [];
  }

  pub past_is : past_after setup p (quantum, level) ≡ kept_past
  past_is =
      ap (past_judged p quantum x) judged_is
      ∙ λ i. record {
        inputs = (ap (λ o. (p.inputs ++ Sample x ∷ []) ++ o) off ∙ append-nil (p.inputs ++ Sample x ∷ [])) i;
        happened = p.happened ++ Nothing ∷ [];
        frames = append-nil p.frames i;
        samples = p.samples ++ (quantum, level) ∷ [];
      }

  stretch_on : stretch_of (p.inputs ++ Sample x ∷ []) ≡ record { sort = (stretch_of p.inputs).sort; own = (stretch_of p.inputs).own ++ level ∷ [] }
  stretch_on = stretch_next p.inputs (Sample x) ∙ ap (λ (j : Judgement). or_next j.next (record { sort = (stretch_of p.inputs).sort; own = (stretch_of p.inputs).own ++ level ∷ [] })) judged_is

  pub kept : (old new : SampledNode) → IsSampledNode setup old p → new.counters ≡ old.counters → new.pending ≡ old.pending → new.unsent ≡ old.unsent
      → drive_of (stretch_of p.inputs) ≡ drive_of (stretch_of (p.inputs ++ Sample x ∷ [])) → IsMachine new.machine (p.inputs ++ Sample x ∷ [])
      → IsSampledNode setup new (past_after setup p (quantum, level))
  kept old new is counters pending unsent drive machine = subst (IsSampledNode setup new) (sym past_is) (record {
    machine = machine;
    counters = counters ∙ is.counters ∙ sym counts_same;
    pending = pending ∙ is.pending ∙ drive;
    unsent = subst (λ u. IsUnsent setup u p.frames) (sym unsent) is.unsent;
    sends = λ frame e.
        subst (λ u. IsChosen setup.order (unsent_by setup.order setup.queue p.frames) frame u.place) (sym unsent)
        (is.sends frame (sym (ap (λ (r : Stretch). head_of r.sort) stretch_on) ∙ e));
  })

  pub nothing_noted : lost_events (stretch_of p.inputs) level ≡ [] → then_events setup p quantum level ≡ []
  nothing_noted lost =
      let counts : Counts = counts_of p.happened in
      ap (judged_events (stretch_of p.inputs) level counts) judged_is
      ∙ all_none (lost_events (stretch_of p.inputs) level) (flag_events (mode_of counts) None) (mode_events counts counts)
      lost (flag_none (mode_of counts)) (mode_none counts)
