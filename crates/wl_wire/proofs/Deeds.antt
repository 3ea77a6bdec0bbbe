-- What a machine did, one input later, and its counters, over any list of events.
use Rattle.std.proofs.Common.{◌≡◌, ℕ, suc, ◌+◌, ◌<◌, ◌∙◌, List, [], ◌∷◌, ◌++◌, map, Bool, true, false, cond, ◌&&◌, refl, sym, ap, subst, append-nil, arith, inl, inr, ◌⊎◌}
use Rattle.std.specs.Prelude.{◌==◌, fold, count_by}
use Rattle.std.specs.List.{flat_map}
use Rattle.std.proofs.lemmas.Grind.{flat_map-append}
use Rattle.std.proofs.lemmas.List.{map-append}
use Rattle.std.proofs.lemmas.List.Sums.{fold-append, sum_by-append}
use Rattle.std.proofs.lemmas.Bool.{and_parts}
use Rattle.wl_level.specs.declared.Level.TheVariants.{Recessive}
use Rattle.wl_confine.specs.declared.Happened.{Happened}
use Rattle.wl_confine.specs.declared.Happened.TheVariants as happens_there
use Rattle.wl_confine.specs.Counts.{no_counts, counts_after, counts_of}
use Rattle.wl_frame.specs.Grammar.{Content}
use Rattle.wl_machine.specs.Stretch.{Stretch, Sampled, Input, Ended}
use Rattle.wl_machine.specs.Stretch.Sort.{Integration}
use Rattle.wl_machine.specs.Stretch.Input.{Sample, SwitchedOff}
use Rattle.wl_machine.specs.Stretch.Ended.{NoFrame, Sent, Received}
use Rattle.wl_machine.specs.Judged.{judged, stretch_of, stretch_after}
use Rattle.wl_machine.specs.States.{stretch_by}
use Rattle.wl_wire.specs.Wire.{Wire, Event, Bit, Own, stretch_at, bus, sampled, may_be_alone, added, next_wire, wire_after, idle_wire}
use Rattle.wl_wire.specs.InStep.{AreSoundFrames, FindsNoError, is_fine}
use Rattle.wl_wire.proofs.Quiet.{is_nothing, is_no_frame, is_plain}
use Rattle.wl_wire.specs.Outcome.{judgements, stretches, judgements_of, counts_after_all, completed, frames_of, is_acked, acknowledged_by, is_start_of_frame, begun_by}

judgements_more : (s : Stretch) (past : List Input) (x : Sampled) → judgements s (past ++ Sample x ∷ []) ≡ judgements s past ++ judged (fold stretch_after s past) x ∷ []
judgements_more s [] x = refl
judgements_more s (Sample y ∷ past) x = ap (λ js. judged s y ∷ js) (judgements_more (stretch_after s (Sample y)) past x)
judgements_more s (SwitchedOff ∷ past) x = judgements_more (stretch_after s SwitchedOff) past x

stretches_more : (s : Stretch) (past : List Input) (x : Sampled) → stretches s (past ++ Sample x ∷ []) ≡ stretches s past ++ stretch_after (fold stretch_after s past) (Sample x) ∷ []
stretches_more s [] x = refl
stretches_more s (input ∷ past) x = ap (λ ss. stretch_after s input ∷ ss) (stretches_more (stretch_after s input) past x)

pub none_more : (n : ℕ) → 0 + n ≡ n
none_more n = omega arith

-- one sample more
pub frames_more : (past : List Input) (x : Sampled) → frames_of (past ++ Sample x ∷ []) ≡ frames_of past ++ completed (judged (stretch_of past) x).ended
frames_more past x =
    ap (λ js. flat_map (λ j. completed j.ended) js) (judgements_more (stretch_by Integration []) past x)
    ∙ flat_map-append (λ j. completed j.ended) (judgements_of past) (judged (stretch_of past) x ∷ [])
    ∙ ap (λ es. frames_of past ++ es) (append-nil (completed (judged (stretch_of past) x).ended))

pub acknowledged_more : (past : List Input) (x : Sampled)
    → acknowledged_by (past ++ Sample x ∷ []) ≡ acknowledged_by past + cond (is_acked (judged (stretch_of past) x).happened) 1 0
acknowledged_more past x =
    ap (λ js. count_by (λ j. is_acked j.happened) js) (judgements_more (stretch_by Integration []) past x)
    ∙ sum_by-append (λ j. cond (is_acked j.happened) 1 0) (judgements_of past) (judged (stretch_of past) x ∷ [])
    ∙ ap (λ n. acknowledged_by past + n) (none_more (cond (is_acked (judged (stretch_of past) x).happened) 1 0))

pub begun_more : (past : List Input) (x : Sampled) → begun_by (past ++ Sample x ∷ []) ≡ begun_by past + cond (is_start_of_frame (stretch_after (stretch_of past) (Sample x))) 1 0
begun_more past x =
    ap (λ ss. count_by is_start_of_frame ss) (stretches_more (stretch_by Integration []) past x)
    ∙ sum_by-append (λ s. cond (is_start_of_frame s) 1 0) (stretches (stretch_by Integration []) past) (stretch_after (stretch_of past) (Sample x) ∷ [])
    ∙ ap (λ n. begun_by past + n) (none_more (cond (is_start_of_frame (stretch_after (stretch_of past) (Sample x))) 1 0))

counts_more : (past : List Input) (x : Sampled) → counts_after_all (past ++ Sample x ∷ []) ≡ counts_after (counts_after_all past) (judged (stretch_of past) x).happened
counts_more past x =
    ap (λ js. counts_of (map (λ j. j.happened) js)) (judgements_more (stretch_by Integration []) past x)
    ∙ ap counts_of (map-append (λ j. j.happened) (judgements_of past) (judged (stretch_of past) x ∷ []))
    ∙ fold-append counts_after no_counts (map (λ j. j.happened) (judgements_of past)) ((judged (stretch_of past) x).happened ∷ [])

-- what is fine leaves counters at 0
pub fine_counts : (h : Happened) → is_fine h ≡ true → counts_after no_counts h ≡ no_counts
fine_counts happens_there.Nothing f = refl
fine_counts happens_there.Sent f = refl
fine_counts happens_there.Acked f = refl
fine_counts (happens_there.RxError kind) f = cc
fine_counts happens_there.RxAfterFlag f = cc
fine_counts happens_there.RxFlagBit f = cc
fine_counts happens_there.RxLong f = cc
fine_counts (happens_there.TxError kind) f = cc
fine_counts happens_there.TxFree f = cc
fine_counts happens_there.PassiveAck f = cc
fine_counts happens_there.TxFlagBit f = cc
fine_counts happens_there.TxLong f = cc
fine_counts happens_there.Recovered f = cc

-- what reaches a machine by an event is one sample, or nothing
pub added_cases : (w : Wire) (event : Event) (k : ℕ) → (added w event k ≡ []) ⊎ ((x : Sampled) × (added w event k ≡ Sample x ∷ []))
added_cases w (Bit handed) k = inr (sampled (bus w) (w.frames k) (handed k), refl)
added_cases w (Own machine handed) k = by ((k == machine) && may_be_alone (stretch_at w k))
  where
    by : (b : Bool) → (cond b (Sample (sampled Recessive (w.frames k) handed) ∷ []) [] ≡ []) ⊎ ((x : Sampled) × (cond b (Sample (sampled Recessive (w.frames k) handed) ∷ []) [] ≡ Sample x ∷ []))
    by true = inr (sampled Recessive (w.frames k) handed, refl)
    by false = inl refl

counts_next : (w : Wire) (event : Event) (k : ℕ) → FindsNoError w → k < w.count → counts_after_all (w.past k) ≡ no_counts → counts_after_all ((next_wire w event).past k) ≡ no_counts
counts_next w event k fine lt zeros = elim (added_cases w event k) [
  | inl e ↦ ap (λ inputs. counts_after_all (w.past k ++ inputs)) e ∙ ap counts_after_all (append-nil (w.past k)) ∙ zeros
  | inr more ↦
      ap (λ inputs. counts_after_all (w.past k ++ inputs)) more.1 ∙ counts_more (w.past k) more.0
      ∙ ap (λ c. counts_after c (judged (stretch_at w k) more.0).happened) zeros
      ∙ fine_counts (judged (stretch_at w k) more.0).happened (fine event k more.0 lt more.1)
]

-- over all events, from the last one back
module _ (count : ℕ) (frames : ℕ → List Content) (fine : (events : List Event) → FindsNoError (wire_after (idle_wire count frames) events)) where
  wire_more : (w : Wire) (front : List Event) (event : Event) → wire_after w (front ++ event ∷ []) ≡ next_wire (wire_after w front) event
  wire_more w front event = fold-append next_wire w front (event ∷ [])

  counts_along : (front rest : List Event) (k : ℕ) → k < (wire_after (idle_wire count frames) front).count → counts_after_all ((wire_after (idle_wire count frames) front).past k) ≡ no_counts
      → counts_after_all ((wire_after (wire_after (idle_wire count frames) front) rest).past k) ≡ no_counts
  counts_along front [] k lt zeros = zeros
  counts_along front (event ∷ rest) k lt zeros =
      let next : wire_after (idle_wire count frames) (front ++ event ∷ []) ≡ next_wire (wire_after (idle_wire count frames) front) event = wire_more (idle_wire count frames) front event in
      subst (λ w. counts_after_all ((wire_after w rest).past k) ≡ no_counts) next
      (counts_along (front ++ event ∷ []) rest k (subst (λ w. k < w.count) (sym next) lt)
      (subst (λ w. counts_after_all (w.past k) ≡ no_counts) (sym next) (counts_next (wire_after (idle_wire count frames) front) event k (fine front) lt zeros)))

  zeros_at_first : (k : ℕ) → counts_after_all ((idle_wire count frames).past k) ≡ no_counts
  zeros_at_first k = refl

  all_zero : (events : List Event) (k : ℕ) → k < count → counts_after_all ((wire_after (idle_wire count frames) events).past k) ≡ no_counts
  all_zero events k lt = counts_along [] events k lt (zeros_at_first k)

pub counts_stay : ((count : ℕ) (frames : ℕ → List Content) (events : List Event) → AreSoundFrames count frames → FindsNoError (wire_after (idle_wire count frames) events))
    → (count : ℕ) (frames : ℕ → List Content) (events : List Event) → AreSoundFrames count frames → (k : ℕ) → k < count
    → counts_after_all ((wire_after (idle_wire count frames) events).past k) ≡ no_counts
counts_stay fine count frames events sound k lt = all_zero count frames (λ front. fine count frames front sound) events k lt

-- a sample with which nothing happens, and which begins no frame
plain_got : (h : Happened) (e : Ended) → (is_nothing h && is_no_frame e) ≡ true → completed e ≡ []
plain_got h NoFrame p = refl
plain_got h (Sent frame) p = absurd (false_not (and_parts (is_nothing h) false p).1)
  where
    false_not : false ≡ true → ⊥
    false_not e = cc
plain_got h (Received frame) p = absurd (false_not (and_parts (is_nothing h) false p).1)
  where
    false_not : false ≡ true → ⊥
    false_not e = cc

plain_acked : (h : Happened) → is_nothing h ≡ true → is_acked h ≡ false
plain_acked happens_there.Nothing p = refl
plain_acked happens_there.Acked p = cc
plain_acked happens_there.Sent p = refl
plain_acked (happens_there.RxError kind) p = refl
plain_acked happens_there.RxAfterFlag p = refl
plain_acked happens_there.RxFlagBit p = refl
plain_acked happens_there.RxLong p = refl
plain_acked (happens_there.TxError kind) p = refl
plain_acked happens_there.TxFree p = refl
plain_acked happens_there.PassiveAck p = refl
plain_acked happens_there.TxFlagBit p = refl
plain_acked happens_there.TxLong p = refl
plain_acked happens_there.Recovered p = refl

pub plain_frames : (past : List Input) (x : Sampled) → is_plain (judged (stretch_of past) x) ≡ true → frames_of (past ++ Sample x ∷ []) ≡ frames_of past
plain_frames past x p =
    frames_more past x
    ∙ ap (λ es. frames_of past ++ es) (plain_got (judged (stretch_of past) x).happened (judged (stretch_of past) x).ended p)
    ∙ append-nil (frames_of past)

pub plain_acknowledged : (past : List Input) (x : Sampled) → is_plain (judged (stretch_of past) x) ≡ true → acknowledged_by (past ++ Sample x ∷ []) ≡ acknowledged_by past
plain_acknowledged past x p =
    acknowledged_more past x
    ∙ ap (λ b. acknowledged_by past + cond b 1 0)
    (plain_acked (judged (stretch_of past) x).happened (and_parts (is_nothing (judged (stretch_of past) x).happened) (is_no_frame (judged (stretch_of past) x).ended) p).0)
    ∙ omega arith

pub begun_same : (past : List Input) (x : Sampled) → is_start_of_frame (stretch_after (stretch_of past) (Sample x)) ≡ false → begun_by (past ++ Sample x ∷ []) ≡ begun_by past
begun_same past x h = begun_more past x ∙ ap (λ b. begun_by past + cond b 1 0) h ∙ omega arith

pub begun_now : (past : List Input) (x : Sampled) → is_start_of_frame (stretch_after (stretch_of past) (Sample x)) ≡ true → begun_by (past ++ Sample x ∷ []) ≡ suc (begun_by past)
begun_now past x h = begun_more past x ∙ ap (λ b. begun_by past + cond b 1 0) h ∙ omega arith
