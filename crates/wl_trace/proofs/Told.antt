-- What the events of a history say of it: its errors and its frames.
use Rattle.std.proofs.Common.{◌≡◌, ◌∙◌, refl, sym, ap, ap₂, ℕ, ◌+◌, true, false, Bool, cond, List, [], ◌∷◌, ◌++◌, map, length, fold, append-nil, arith, Option, Some, None}
use Rattle.std.specs.Prelude.{count_by}
use Rattle.std.specs.List.{flat_map}
use Rattle.std.proofs.lemmas.List.{map-append}
use Rattle.std.proofs.lemmas.List.Sums.{sum_by-append}
use Rattle.std.proofs.lemmas.List.Concat.{flat_map-append}
use Rattle.wl_level.specs.declared.Level.{Level}
use Rattle.wl_sync.specs.declared.Beat.{Beat}
use Rattle.wl_sync.specs.declared.Beat.TheVariants as beats
use Rattle.wl_sync.specs.Bits.{beat_of}
use Rattle.wl_confine.specs.declared.Mode.{Mode}
use Rattle.wl_confine.specs.declared.Mode.TheVariants as modes
use Rattle.wl_confine.specs.declared.Happened.{Happened}
use Rattle.wl_confine.specs.declared.Happened.TheVariants as happens
use Rattle.wl_confine.specs.Counts.{Counts, counts_of, counts_after, mode_of, is_error}
use Rattle.wl_machine.specs.declared.state.Role.{Role}
use Rattle.wl_machine.specs.Stretch.{Sort, Stretch, Ended, Judgement}
use Rattle.wl_machine.specs.Stretch.Sort.{Integration, Idle, Framing, Flagging, Waiting, Delimiting, Intermission, Suspension, OffBus}
use Rattle.wl_machine.specs.Stretch.Ended.{NoFrame, Sent, Received}
use Rattle.wl_machine.specs.Judged.{judged, stretch_of, role_of}
use Rattle.wl_machine.specs.Roles.{loses}
use Rattle.wl_node.specs.declared.setup.NodeSetup.{NodeSetup}
use Rattle.wl_node.specs.declared.setup.Passed.{Passed}
use Rattle.wl_node.specs.History.{History, no_history, staying_history, history_after, by_beat, sampled_next, seen_next, passed_frames, error_count}
use Rattle.wl_trace.specs.declared.event.NodeEvent.{NodeEvent}
use Rattle.wl_trace.specs.declared.event.NodeEvent.TheVariants as events
use Rattle.wl_trace.specs.declared.event.Noted.{Noted}
use Rattle.wl_trace.specs.Places.{next_place}
use Rattle.wl_trace.specs.Events.{lost_events, error_events, flag_in, flag_events, frame_events, is_same_mode, mode_events, judged_events, noted, sample_events, beat_events, events_at, traced_after, staying_events}
use Rattle.wl_trace.specs.Laws.{tells_error, told_frames}

-- a list of events tells so many errors, and these frames
record Tells (quantum : ℕ) (es : List NodeEvent) (errors : ℕ) (frames : List Passed) : Type 0 where
  counted : (bit : ℕ) → count_by tells_error (map (noted quantum bit) es) ≡ errors
  passed : (bit : ℕ) → flat_map told_frames (map (noted quantum bit) es) ≡ frames

alone : (n : ℕ) → 0 + n + 0 + 0 + 0 ≡ n
alone n = omega arith

module _ (quantum : ℕ) where
  none : Tells quantum [] 0 []
  none = record { counted = λ bit. refl; passed = λ bit. refl }

  both : (xs ys : List NodeEvent) (m n : ℕ) (fs gs : List Passed) → Tells quantum xs m fs → Tells quantum ys n gs → Tells quantum (xs ++ ys) (m + n) (fs ++ gs)
  both xs ys m n fs gs p q = record {
    counted = λ bit.
        ap (count_by tells_error) (map-append (noted quantum bit) xs ys)
        ∙ sum_by-append (λ n. cond (tells_error n) 1 0) (map (noted quantum bit) xs) (map (noted quantum bit) ys)
        ∙ ap₂ (λ (a b : ℕ). a + b) (p.counted bit) (q.counted bit);
    passed = λ bit.
        ap (flat_map told_frames) (map-append (noted quantum bit) xs ys)
        ∙ flat_map-append told_frames (map (noted quantum bit) xs) (map (noted quantum bit) ys)
        ∙ ap₂ (λ (a b : List Passed). a ++ b) (p.passed bit) (q.passed bit);
  }

  if_tells : (b : Bool) (xs ys : List NodeEvent) (n : ℕ) (fs : List Passed) → Tells quantum xs n fs → Tells quantum ys n fs → Tells quantum (cond b xs ys) n fs
  if_tells true xs ys n fs p q = p
  if_tells false xs ys n fs p q = q

  lost_tells : (s : Stretch) (level : Level) (role : Role) → role_of s ≡ role → Tells quantum (lost_events s level) 0 []
  lost_tells s level role e =
      if_tells _ _ [] 0 [] (if_tells (loses s level) (events.ArbitrationLost (next_place s) ∷ []) [] 0 [] (record { counted = λ bit. refl; passed = λ bit. refl }) none) none

  error_tells : (s : Stretch) (happened : Happened) → Tells quantum (error_events s happened) (count_by is_error (happened ∷ [])) []
  error_tells s happens.Nothing = none
  error_tells s (happens.RxError kind) = record { counted = λ bit. refl; passed = λ bit. refl }
  error_tells s happens.RxAfterFlag = none
  error_tells s happens.RxFlagBit = none
  error_tells s happens.RxLong = none
  error_tells s (happens.TxError kind) = record { counted = λ bit. refl; passed = λ bit. refl }
  error_tells s happens.TxFree = record { counted = λ bit. refl; passed = λ bit. refl }
  error_tells s happens.PassiveAck = none
  error_tells s happens.TxFlagBit = none
  error_tells s happens.TxLong = none
  error_tells s happens.Sent = none
  error_tells s happens.Acked = none
  error_tells s happens.Recovered = none

  flag_in_tells : (sort : Sort) → Tells quantum (flag_in sort) 0 []
  flag_in_tells Integration = none
  flag_in_tells Idle = none
  flag_in_tells (Framing head) = none
  flag_in_tells (Flagging flag role) = record { counted = λ bit. refl; passed = λ bit. refl }
  flag_in_tells (Waiting flag role flagged) = none
  flag_in_tells (Delimiting role) = none
  flag_in_tells (Intermission role) = none
  flag_in_tells Suspension = none
  flag_in_tells OffBus = none

  flag_tells : (mode : Mode) (next : Option Stretch) → Tells quantum (flag_events mode next) 0 []
  flag_tells modes.Off next = none
  flag_tells modes.Active None = none
  flag_tells modes.Active (Some next) = flag_in_tells next.sort
  flag_tells modes.Passive None = none
  flag_tells modes.Passive (Some next) = flag_in_tells next.sort

  frame_tells : (ended : Ended) → Tells quantum (frame_events ended) 0 (passed_frames quantum ended)
  frame_tells NoFrame = none
  frame_tells (Sent frame) = record { counted = λ bit. refl; passed = λ bit. refl }
  frame_tells (Received frame) = record { counted = λ bit. refl; passed = λ bit. refl }

  mode_tells : (old new : Counts) → Tells quantum (mode_events old new) 0 []
  mode_tells old new = if_tells (is_same_mode (mode_of old) (mode_of new)) [] (events.ModeChanged new ∷ []) 0 [] none (record { counted = λ bit. refl; passed = λ bit. refl })

  judged_tells : (s : Stretch) (level : Level) (counts : Counts) (j : Judgement)
      → Tells quantum (judged_events s level counts j) (0 + count_by is_error (j.happened ∷ []) + 0 + 0 + 0) ([] ++ [] ++ [] ++ passed_frames quantum j.ended ++ [])
  judged_tells s level counts j =
      both _ _ _ _ _ _
      (both _ _ _ _ _ _
      (both _ _ _ _ _ _
      (both _ _ _ _ _ _ (lost_tells s level (role_of s) refl) (error_tells s j.happened))
      (flag_tells (mode_of (counts_after counts j.happened)) j.next))
      (frame_tells j.ended))
      (mode_tells counts (counts_after counts j.happened))

-- the events say this of the history
record IsTold (h : History) (es : List Noted) : Type 0 where
  errors : count_by tells_error es ≡ error_count h
  frames : flat_map told_frames es ≡ h.frames

module _ (setup : NodeSetup) where
  beat_told : (h : History) (es : List Noted) (level : Level) (beat : Beat) → IsTold h es → IsTold (by_beat setup h level beat) (es ++ beat_events setup h level beat)
  beat_told h es level beats.Plain t = record {
    errors = ap (count_by tells_error) (append-nil es) ∙ t.errors;
    frames = ap (flat_map told_frames) (append-nil es) ∙ t.frames;
  }
  beat_told h es level beats.Start t = record {
    errors = ap (count_by tells_error) (append-nil es) ∙ t.errors;
    frames = ap (flat_map told_frames) (append-nil es) ∙ t.frames;
  }
  beat_told h es level (beats.Sample other) t =
      let j : Judgement = judged (stretch_of h.inputs) (sampled_next setup h level) in
      let tells = judged_tells (length h.seen) (stretch_of h.inputs) level (counts_of h.happened) j in
      record {
        errors =
            sum_by-append (λ n. cond (tells_error n) 1 0) es (sample_events setup h level)
            ∙ ap₂ (λ (a b : ℕ). a + b) t.errors (tells.counted (length h.samples) ∙ alone (count_by is_error (j.happened ∷ [])))
            ∙ sym (sum_by-append (λ k. cond (is_error k) 1 0) h.happened (j.happened ∷ []));
        frames =
            flat_map-append told_frames es (sample_events setup h level)
            ∙ ap₂ (λ (a b : List Passed). a ++ b) t.frames (tells.passed (length h.samples) ∙ append-nil (passed_frames (length h.seen) j.ended));
      }

  told_after : (h : History) (es : List Noted) (level : Level) → IsTold h es → IsTold (history_after setup h level) (es ++ events_at setup h level)
  told_after h es level t =
      let b = beat_told h es level (beat_of setup.segments h.seen (seen_next h level)) t in
      record { errors = b.errors; frames = b.frames }

  told_fold : (levels : List Level) (h : History) (es : List Noted) → IsTold h es
      → IsTold (fold (history_after setup) h levels) (fold (traced_after setup) (h, es) levels).1
  told_fold [] h es t = t
  told_fold (level ∷ levels) h es t = told_fold levels (history_after setup h level) (es ++ events_at setup h level) (told_after h es level t)

  told : (levels : List Level) → IsTold (staying_history setup levels) (staying_events setup levels)
  unfolding staying_history staying_events
  told levels = told_fold levels no_history [] (record { errors = refl; frames = refl })

pub errors_told : (setup : NodeSetup) (levels : List Level) → count_by tells_error (staying_events setup levels) ≡ error_count (staying_history setup levels)
errors_told setup levels = (told setup levels).errors

pub frames_told : (setup : NodeSetup) (levels : List Level) → flat_map told_frames (staying_events setup levels) ≡ (staying_history setup levels).frames
frames_told setup levels = (told setup levels).frames
