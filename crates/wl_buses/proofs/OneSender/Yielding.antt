-- A receiver that an early acknowledgement moves, from its sample of the CRC delimiter to that of the ACK slot.
use Rattle.std.proofs.Common.{◌≡◌, ◌∙◌, ◌⊎◌, inl, inr, refl, sym, ap, subst, ℕ, zero, suc, ◌+◌, ◌-◌, ◌<◌, ◌≤◌, List, [], ◌∷◌, ◌++◌, length, false, None, arith}
use Rattle.std.specs.Prelude.{◌==◌}
use Rattle.std.proofs.lemmas.Bool.{cases_eq, ne_eqb}
use Rattle.wl_level.specs.declared.Level.{Level}
use Rattle.wl_level.specs.declared.Level.TheVariants.{Dominant, Recessive}
use Rattle.wl_level.specs.Levels.{is_dominant}
use Rattle.wl_level.proofs.Callers.{length_more}
use Rattle.wl_segments.specs.Lengths.{Lengths, sample_at, bit_quanta}
use Rattle.wl_sync.specs.declared.Beat.TheVariants.{Sample}
use Rattle.wl_sync.specs.declared.Seen.{Seen}
use Rattle.wl_sync.specs.Bits.{beat_of}
use Rattle.wl_sync.specs.Running.{clock_after}
use Rattle.wl_sync.specs.Skips.{steady_clock}
use Rattle.wl_confine.specs.declared.Happened.TheVariants.{Acked}
use Rattle.wl_frame.specs.Stuffing.{Stuffs}
use Rattle.wl_frame.specs.Grammar.{Content, IsContent, bits_of}
use Rattle.wl_machine.specs.Stretch.{Stretch, continues}
use Rattle.wl_machine.specs.Stretch.Sort.{Framing}
use Rattle.wl_machine.specs.Judged.{awaits_start, judged, or_next}
use Rattle.wl_machine.specs.States.{stretch_by}
use Rattle.wl_node.specs.declared.setup.NodeSetup.{NodeSetup}
use Rattle.wl_node.specs.declared.setup.Passed.{Passed}
use Rattle.wl_node.specs.History.{passed_frames}
use Rattle.wl_phase.specs.Ways.{ByTheBook, WayLaws}
use Rattle.wl_phase.specs.InStep.{seen_before, sampled_by, samples_from}
use Rattle.wl_phase.specs.Answer.{FindsDominant, SamplesNext, moved_sample}
use Rattle.wl_buses.proofs.OneSender.Frames as frames
use Rattle.wl_buses.proofs.OneSender.Frames.{FrameGoes}
use Rattle.wl_buses.proofs.OneSender.Nodes.{beat_same, ClockGoes, calm_acked, IsGoing, Does, Takes, clock_at, sees_at, seen_are, beat_at, sample_before, does_plain, does_start, does_sample}
use Rattle.wl_buses.proofs.OneSender.Receiving.{cases_beat, sampled_place}
use Rattle.wl_buses.proofs.OneSender.Silence.{given}
use Rattle.wl_buses.proofs.OneSender.Slots.{none_before}

-- the law of the crate below
abbrev pub NextLaw : Type 0
NextLaw = (l : Lengths) (seen : ℕ → Seen) (k n : ℕ) → ByTheBook l → FindsDominant l seen k n → SamplesNext l seen k (moved_sample l k n) Dominant

module _ (clocks : ClockGoes) (goes : FrameGoes) (setup : NodeSetup) (book : ByTheBook setup.segments) (levels : ℕ → Level)
    (head : Content) (c : IsContent head) (y : List Level) (is : Stuffs y (bits_of head)) (ways : WayLaws) (law : NextLaw) (passed : List Passed) (k n : ℕ) where
  abbrev S : ℕ
  S = sample_at setup.segments

  abbrev B : ℕ
  B = bit_quanta setup.segments

  abbrev last : ℕ
  last = length y

  -- the quantum of its next sample
  abbrev pub m : ℕ
  m = moved_sample setup.segments k n

  abbrev Heard : ℕ → Stretch
  Heard n = stretch_by (Framing None) (frames.own goes head c y is n)

  abbrev Doing : (q : ℕ) (s : Stretch) (drive : Level) → Type 0
  Doing = Does clocks setup book levels passed

  abbrev seen : ℕ → Seen
  seen = sees_at clocks setup book levels

  -- where that is
  pub sample_high : k < n → n ≤ k + setup.segments.ps2 → m ≤ k + bit_quanta setup.segments
  sample_high after early = let a = book.lengths.prop_low in omega arith

  pub sample_low : k < n → n ≤ k + setup.segments.ps2 → n + (sample_at setup.segments - 1) ≤ m
  sample_low after early = let a = book.lengths.prop_low in omega arith

  module _ (after : k < n) (early : n ≤ k + setup.segments.ps2) (up_to : (q : ℕ) → k < q → q ≤ n → Doing q (Heard (suc last)) Recessive)
      (steady : clock_at clocks setup book levels (suc k) ≡ steady_clock setup.segments)
      (quiet : (q : ℕ) → k < q → q < n → levels q ≡ Recessive) (loud : (q : ℕ) → n ≤ q → q ≤ m → levels q ≡ Dominant) where
    finds : FindsDominant setup.segments seen k n
    finds = record {
      clock = ap (clock_after setup.segments) (sym (seen_are clocks setup book levels (suc k))) ∙ steady;
      later = after;
      inside = omega arith;
      silent = λ i low high. quiet i low high;
      there = λ i low high. loud i low high;
      awaits = ap awaits_start (up_to n after (omega arith)).stretch
          ∙ ap (λ n. n == 0) (frames.own_length goes head c y is (suc last) (omega arith)) ∙ ne_eqb (suc last) 0 (λ e. omega arith);
      driving = ap is_dominant (up_to n after (omega arith)).drives;
    }

    next : SamplesNext setup.segments seen k m Dominant
    next = law setup.segments seen k n book finds

    -- nothing is sampled on the way
    unsampled : (q : ℕ) → k < q → q < m → (v : Level) → beat_at clocks setup book levels q ≡ Sample v → ⊥
    unsampled q low high v e =
        let place = next.place in
        let here : suc k + (q - suc k) ≡ q = omega arith in
        let whole : suc (q - suc k) + (next.quanta - suc (q - suc k)) ≡ next.quanta = omega arith in
        let none : samples_from setup.segments seen (suc k) (suc (q - suc k)) ≡ [] =
        none_before clocks goes setup book levels head c y is ways passed (suc k) (suc (q - suc k)) (next.quanta - suc (q - suc k))
        (ap (samples_from setup.segments seen (suc k)) whole ∙ next.first) in
        let one : samples_from setup.segments seen (suc k) (q - suc k) ++ v ∷ [] ≡ [] =
        ap (λ w. samples_from setup.segments seen (suc k) (q - suc k) ++ w)
        (sym (ap (λ i. sampled_by (beat_of setup.segments (seen_before seen i) (seen i))) here ∙ ap sampled_by (beat_same clocks setup book levels q ∙ e))) ∙ none in
        let long = length_more (samples_from setup.segments seen (suc k) (q - suc k)) v in
        let f = ap length one in
        omega arith

    -- as soon as it drives dominant it does so up to its sample
    loud_on : (d q : ℕ) → k < q → q + d ≤ m → Doing q (Heard (suc last)) Dominant → Doing (q + d) (Heard (suc last)) Dominant
    loud_on zero q low high g = let here : q ≡ q + 0 = omega arith in subst (λ i. Doing i (Heard (suc last)) Dominant) here g
    loud_on (suc d) q low high g =
        let more : suc q + d ≡ q + suc d = omega arith in
        subst (λ i. Doing i (Heard (suc last)) Dominant) more
        (loud_on d (suc q) (omega arith) (omega arith)
        (elim (cases_beat (beat_at clocks setup book levels q)) [
          | inl plain ↦ does_plain clocks setup book levels q (Heard (suc last)) Dominant plain g
          | inr other ↦ elim other [
            | inl start ↦ subst (λ v. Doing (suc q) (Heard (suc last)) v) (frames.receiver_answers goes head c y is) (does_start clocks setup book levels q (Heard (suc last)) Dominant start g)
            | inr sampled ↦ absurd (unsampled q low (omega arith) sampled.0 sampled.1)
          ]
        ]))

    -- the quantum with which its acknowledgement begins, if a bit begins before its sample
    pub record Replies : Type 0 where
      pub reply : ℕ
      pub low : n ≤ reply
      pub recessive : (q : ℕ) → k < q → q ≤ reply → q ≤ m → Doing q (Heard (suc last)) Recessive
      pub dominant : (q : ℕ) → reply < q → q ≤ m → Doing q (Heard (suc last)) Dominant
      pub kind : (reply < m) ⊎ (reply ≡ m + setup.segments.ps2)

    search : (left q : ℕ) → q + left ≡ m → n ≤ q → ((i : ℕ) → k < i → i ≤ q → Doing i (Heard (suc last)) Recessive) → Replies
    search zero q e low before = record {
      reply = m + setup.segments.ps2;
      low = omega arith;
      recessive = λ i a b f. before i a (omega arith);
      dominant = λ i a b. absurd (omega arith);
      kind = inr refl;
    }
    search (suc left) q e low before = elim (cases_beat (beat_at clocks setup book levels q)) [
      | inl plain ↦
          search left (suc q) (omega arith) (omega arith) (λ i a b. elim (cases_eq i (suc q)) [
            | inl here ↦ subst (λ i. Doing i (Heard (suc last)) Recessive) (sym here) (does_plain clocks setup book levels q (Heard (suc last)) Recessive plain (before q (omega arith) (omega arith)))
            | inr other ↦ before i a (omega arith)
          ])
      | inr other ↦ elim other [
        | inl start ↦
            record {
              reply = q;
              low = low;
              recessive = λ i a b f. before i a b;
              dominant = λ i a b.
                  (let here : suc q + (i - suc q) ≡ i = omega arith in
                  subst (λ i. Doing i (Heard (suc last)) Dominant) here
                  (loud_on (i - suc q) (suc q) (omega arith) (omega arith)
                  (subst (λ v. Doing (suc q) (Heard (suc last)) v) (frames.receiver_answers goes head c y is)
                  (does_start clocks setup book levels q (Heard (suc last)) Recessive start (before q (omega arith) (omega arith))))));
              kind = inl (omega arith);
            }
        | inr sampled ↦ absurd (unsampled q (omega arith) (omega arith) sampled.0 sampled.1)
      ]
    ]

    pub replies : Replies
    replies =
        let low = sample_low after early in
        let a = book.lengths.prop_low in
        let b = book.lengths.ps1_low in
        search (m - n) n (omega arith) (omega arith) (λ i low high. up_to i low high)

    -- after its sample
    pub record Sampled : Type 0 where
      pub drive : Level
      pub longer : ℕ
      pub going : IsGoing clocks setup book levels passed (suc m) (suc (sample_at setup.segments)) longer false (Heard (suc (suc last))) drive
      pub slot : (clock_at clocks setup book levels (suc m)).sample ≡ Dominant
      pub if_replied : replies.reply < m → drive ≡ Dominant
      pub if_not : m ≤ replies.reply → drive ≡ Recessive

    takes : Takes clocks setup book levels m (Heard (suc last)) (Heard (suc (suc last)))
    takes =
        let low = sample_low after early in
        let now : levels m ≡ Dominant = loud m (omega arith) (omega arith) in
        let e : judged (Heard (suc last)) (given clocks setup book levels m) ≡ continues Acked =
        frames.receiver_acknowledges goes head c y is (given clocks setup book levels m) now in
        record {
          calm = calm_acked (judged (Heard (suc last)) (given clocks setup book levels m)).happened (ap (λ j. j.happened) e);
          ended = ap (λ j. passed_frames m j.ended) e;
          stretch =
              ap (λ j. or_next j.next (stretch_by (Framing None) (frames.own goes head c y is (suc last) ++ levels m ∷ []))) e
              ∙ ap (λ l. stretch_by (Framing None) (frames.own goes head c y is (suc last) ++ l ∷ [])) (now ∙ sym (frames.line_slot goes head c y is))
              ∙ ap (stretch_by (Framing None)) (sym (frames.own_more goes head c y is (suc last) (omega arith)));
        }

    beat : beat_at clocks setup book levels m ≡ Sample Dominant
    beat = sym (beat_same clocks setup book levels m) ∙ next.beat

    with_drive : (v : Level) → Doing m (Heard (suc last)) v → (replies.reply < m → v ≡ Dominant) → (m ≤ replies.reply → v ≡ Recessive) → Sampled
    with_drive v d loud_by quiet_by =
        let r = sampled_place clocks setup book levels ways m Dominant beat in
        record {
          drive = v;
          longer = r.0;
          going = record { place = r.1; does = does_sample clocks setup book levels m (Heard (suc last)) (Heard (suc (suc last))) v Dominant beat d takes };
          slot = sample_before clocks setup book levels m Dominant beat;
          if_replied = loud_by;
          if_not = quiet_by;
        }

    pub sampled : Sampled
    sampled = elim replies.kind [
      | inl less ↦ with_drive Dominant (replies.dominant m less (omega arith)) (λ h. refl) (λ h. absurd (omega arith))
      | inr none ↦
          (let low = sample_low after early in
          let a = book.lengths.prop_low in
          let b = book.lengths.ps1_low in
          with_drive Recessive (replies.recessive m (omega arith) (omega arith) (omega arith)) (λ h. absurd (omega arith)) (λ h. refl))
    ]
