-- The mode after a sample is that of its events.
use Rattle.std.proofs.Common.{◌≡◌, ◌∙◌, refl, sym, ap, ℕ, Bool, true, false, cond, List, [], ◌∷◌, ◌++◌, fold, map, Option, Some, None}
use Rattle.std.proofs.lemmas.List.Sums.{fold-append}
use Rattle.std.proofs.lemmas.List.Folds.{fold-map}
use Rattle.wl_level.specs.declared.Level.{Level}
use Rattle.wl_confine.specs.declared.Happened.{Happened}
use Rattle.wl_confine.specs.declared.Happened.TheVariants as happens
use Rattle.wl_confine.specs.declared.Mode.{Mode}
use Rattle.wl_confine.specs.declared.Mode.TheVariants as modes
use Rattle.wl_confine.specs.Counts.{Counts, counts_after, counts_of, mode_of}
use Rattle.wl_machine.specs.Stretch.{Ended, Judgement, Sort, Stretch}
use Rattle.wl_machine.specs.Stretch.Ended.{NoFrame, Received, Sent}
use Rattle.wl_machine.specs.Stretch.Sort.{Delimiting, Flagging, Framing, Idle, Integration, Intermission, OffBus, Suspension, Waiting}
use Rattle.wl_machine.specs.Judged.{role_of, stretch_of}
use Rattle.wl_machine.specs.Roles.{loses}
use Rattle.wl_node.specs.declared.setup.NodeSetup.{NodeSetup}
use Rattle.wl_trace.specs.declared.event.NodeEvent.{NodeEvent}
use Rattle.wl_trace.specs.declared.event.Noted.{Noted}
use Rattle.wl_trace.specs.Events.{error_events, flag_events, flag_in, frame_events, is_same_mode, is_transmitter, judged_events, lost_events, mode_events, noted}
use Rattle.wl_trace.specs.Replay.{SampledPast, judged_then, past_after, then_events}
use Rattle.wl_onward.specs.Fits.{is_active}
use Rattle.wl_calm.specs.Modes.{active_after, active_with}

abbrev after : Bool → List NodeEvent → Bool
after a es = fold active_with a es

of_lost : (s : Stretch) (level : Level) (a : Bool) → after a (lost_events s level) ≡ a
of_lost s level a = by (is_transmitter (role_of s)) (loses s level)
  where
    by : (t u : Bool) → after a (cond t (cond u (Rattle.wl_trace.specs.declared.event.NodeEvent.TheVariants.ArbitrationLost (Rattle.wl_trace.specs.Places.next_place s) ∷ []) []) []) ≡ a
    by true true = refl
    by true false = refl
    by false u = refl

of_error : (s : Stretch) (h : Happened) (a : Bool) → after a (error_events s h) ≡ a
of_error s (happens.RxError kind) a = refl
of_error s (happens.TxError kind) a = refl
of_error s happens.TxFree a = refl
of_error s happens.Nothing a = refl
of_error s happens.RxAfterFlag a = refl
of_error s happens.RxFlagBit a = refl
of_error s happens.RxLong a = refl
of_error s happens.PassiveAck a = refl
of_error s happens.TxFlagBit a = refl
of_error s happens.TxLong a = refl
of_error s happens.Sent a = refl
of_error s happens.Acked a = refl
of_error s happens.Recovered a = refl

of_sort : (x : Sort) (a : Bool) → after a (flag_in x) ≡ a
of_sort (Flagging flag role) a = refl
of_sort Integration a = refl
of_sort Idle a = refl
of_sort (Framing head) a = refl
of_sort (Waiting flag role flagged) a = refl
of_sort (Delimiting role) a = refl
of_sort (Intermission role) a = refl
of_sort Suspension a = refl
of_sort OffBus a = refl

of_flag : (m : Mode) (next : Option Stretch) (a : Bool) → after a (flag_events m next) ≡ a
of_flag modes.Off next a = refl
of_flag modes.Active None a = refl
of_flag modes.Active (Some s) a = of_sort s.sort a
of_flag modes.Passive None a = refl
of_flag modes.Passive (Some s) a = of_sort s.sort a

of_frame : (e : Ended) (a : Bool) → after a (frame_events e) ≡ a
of_frame NoFrame a = refl
of_frame (Sent frame) a = refl
of_frame (Received frame) a = refl

of_mode : (old new : Counts) → after (is_active (mode_of old)) (mode_events old new) ≡ is_active (mode_of new)
of_mode old new = by (mode_of old) (mode_of new) refl
  where
    by : (m n : Mode) → mode_of new ≡ n → after (is_active m) (cond (is_same_mode m n) [] (Rattle.wl_trace.specs.declared.event.NodeEvent.TheVariants.ModeChanged new ∷ [])) ≡ is_active n
    by modes.Active modes.Active e = refl
    by modes.Passive modes.Passive e = refl
    by modes.Off modes.Off e = refl
    by modes.Active modes.Passive e = ap is_active e
    by modes.Active modes.Off e = ap is_active e
    by modes.Passive modes.Active e = ap is_active e
    by modes.Passive modes.Off e = ap is_active e
    by modes.Off modes.Active e = ap is_active e
    by modes.Off modes.Passive e = ap is_active e

of_all : (s : Stretch) (level : Level) (counts : Counts) (j : Judgement) → after (is_active (mode_of counts)) (judged_events s level counts j) ≡ is_active (mode_of (counts_after counts j.happened))
of_all s level counts j =
    let a : Bool = is_active (mode_of counts) in
    let new : Counts = counts_after counts j.happened in
    let two : List NodeEvent = lost_events s level ++ error_events s j.happened in
    let three : List NodeEvent = two ++ flag_events (mode_of new) j.next in
    let four : List NodeEvent = three ++ frame_events j.ended in
    let e : after a two ≡ a =
    fold-append active_with a (lost_events s level) (error_events s j.happened) ∙ ap (λ b. after b (error_events s j.happened)) (of_lost s level a) ∙ of_error s j.happened a in
    let f : after a three ≡ a = fold-append active_with a two (flag_events (mode_of new) j.next) ∙ ap (λ b. after b (flag_events (mode_of new) j.next)) e ∙ of_flag (mode_of new) j.next a in
    let g : after a four ≡ a = fold-append active_with a three (frame_events j.ended) ∙ ap (λ b. after b (frame_events j.ended)) f ∙ of_frame j.ended a in
    fold-append active_with a four (mode_events counts new) ∙ ap (λ b. after b (mode_events counts new)) g ∙ of_mode counts new

counted : (happened : List Happened) (x : Happened) → counts_after (counts_of happened) x ≡ counts_of (happened ++ x ∷ [])
counted happened x = sym (fold-append counts_after (Rattle.wl_confine.specs.Counts.no_counts) happened (x ∷ []))

pub active_next : (setup : NodeSetup) (p : SampledPast) (quantum : ℕ) (level : Level)
    → active_after (is_active (mode_of (counts_of p.happened))) (map (noted quantum 0) (then_events setup p quantum level)) ≡ is_active (mode_of (counts_of (past_after setup p (quantum, level)).happened))
active_next setup p quantum level =
    fold-map (λ a (n : Noted). active_with a n.event) (noted quantum 0) (is_active (mode_of (counts_of p.happened))) (then_events setup p quantum level)
    ∙ of_all (stretch_of p.inputs) level (counts_of p.happened) (judged_then setup p quantum level)
    ∙ ap (λ c. is_active (mode_of c)) (counted p.happened (judged_then setup p quantum level).happened)
