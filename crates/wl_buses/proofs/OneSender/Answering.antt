-- A receiver from its sample of the CRC delimiter to the end of its acknowledgement.
use Rattle.std.proofs.Common.{◌≡◌, ◌∙◌, inl, inr, refl, sym, ap, subst, ℕ, zero, suc, ◌+◌, ◌-◌, ◌<◌, ◌≤◌, List, length, Bool, false, None, arith, ◌++◌, ◌∷◌, []}
use Rattle.std.proofs.lemmas.Bool.{cases_lt}
use Rattle.wl_level.specs.declared.Level.{Level}
use Rattle.wl_level.specs.declared.Level.TheVariants.{Dominant, Recessive}
use Rattle.wl_segments.specs.Lengths.{sample_at, bit_quanta}
use Rattle.wl_confine.specs.declared.Happened.TheVariants.{Acked}
use Rattle.wl_frame.specs.Stuffing.{Stuffs}
use Rattle.wl_frame.specs.Grammar.{Content, IsContent, bits_of}
use Rattle.wl_machine.specs.Stretch.{Stretch, continues}
use Rattle.wl_machine.specs.Stretch.Sort.{Framing}
use Rattle.wl_machine.specs.Judged.{judged, or_next}
use Rattle.wl_machine.specs.States.{stretch_by}
use Rattle.wl_node.specs.declared.setup.NodeSetup.{NodeSetup}
use Rattle.wl_node.specs.declared.setup.Passed.{Passed}
use Rattle.wl_node.specs.History.{passed_frames}
use Rattle.wl_phase.specs.Ways.{ByTheBook}
use Rattle.wl_phase.proofs.Callers.{now_recessive}
use Rattle.wl_buses.proofs.OneSender.Frames as frames
use Rattle.wl_buses.proofs.OneSender.Frames.{FrameGoes}
use Rattle.wl_buses.proofs.OneSender.Nodes.{ClockGoes, calm_acked, IsGoing, IsUnmoved, Takes, node, clock_at, sees_at, beat_sample, sample_before, step_on, step_sample, unmoved_recessive, unmoved_before, unmoved_driving}
use Rattle.wl_buses.proofs.OneSender.Bits.{at_place, glide, before_sample}
use Rattle.wl_buses.proofs.OneSender.Silence.{given}

module _ (clocks : ClockGoes) (goes : FrameGoes) (setup : NodeSetup) (book : ByTheBook setup.segments) (levels : ℕ → Level)
    (head : Content) (c : IsContent head) (y : List Level) (is : Stuffs y (bits_of head)) (passed : List Passed) (k longer : ℕ) where
  abbrev S : ℕ
  S = sample_at setup.segments

  abbrev B : ℕ
  B = bit_quanta setup.segments

  abbrev last : ℕ
  last = length y

  abbrev Heard : ℕ → Stretch
  Heard n = stretch_by (Framing None) (frames.own goes head c y is n)

  abbrev Going : (k p longer : ℕ) (fresh : Bool) (s : Stretch) (drive : Level) → Type 0
  Going = IsGoing clocks setup book levels passed

  -- the quantum with which the next bit begins
  abbrev begin : ℕ
  begin = k + setup.segments.ps2

  module _ (received : Going (suc k) (suc S) longer false (Heard (suc last)) Recessive) (quiet : (i : ℕ) → k < i → i ≤ begin → levels i ≡ Recessive) where
    -- up to there nothing comes
    pub rests : (p : ℕ) → S < p → p ≤ B → Going (k + (p - S)) p longer false (Heard (suc last)) Recessive
    rests p low high =
        at_place clocks setup book levels (suc k + (p - suc S)) (k + (p - S)) (suc S + (p - suc S)) p longer false (Heard (suc last)) Recessive (omega arith) (omega arith)
        (glide clocks setup book levels (p - suc S) (suc k) (suc S) longer false (Heard (suc last)) Recessive (omega arith) (inl (omega arith))
        (λ i less e. unmoved_recessive clocks setup book levels (suc k + i) (suc S + i) false (quiet (suc k + i) (omega arith) (omega arith))) received)

    at_begin : Going begin B longer false (Heard (suc last)) Recessive
    at_begin =
        let low = book.lengths.ps2_low in
        at_place clocks setup book levels (k + (B - S)) begin B B longer false (Heard (suc last)) Recessive (omega arith) refl (rests B (omega arith) (omega arith))

    -- it drives dominant for a bit, if it finds that by the sample
    module _ (own : (p : ℕ) → S ≤ p → p < B → ((q : ℕ) → 1 ≤ q → q ≤ p → (node clocks setup book levels (begin + q)).drive ≡ Dominant) → levels (begin + p) ≡ Dominant) where
      pub before : (p : ℕ) → 1 ≤ p → p ≤ S → Going (begin + p) p 0 false (Heard (suc last)) Dominant
      before p low high =
          let silent = now_recessive (clock_at clocks setup book levels begin) (sees_at clocks setup book levels begin)
          (quiet begin (let few = book.lengths.ps2_low in omega arith) (omega arith)) in
          subst (λ v. Going (begin + p) p 0 false (Heard (suc last)) v) (frames.receiver_answers goes head c y is)
          (before_sample clocks setup book levels begin longer false false (Heard (suc last)) Recessive at_begin silent S (omega arith)
          (λ q above below drive. unmoved_driving clocks setup book levels (begin + q) q (drive ∙ frames.receiver_answers goes head c y is) (omega arith)) p low high)

      takes : Takes clocks setup book levels (begin + S) (Heard (suc last)) (Heard (suc (suc last)))
      takes =
          let few = book.lengths.ps2_low in
          let now : levels (begin + S) ≡ Dominant = own S (omega arith) (omega arith) (λ q low high. (before q low high).does.drives) in
          let e : judged (Heard (suc last)) (given clocks setup book levels (begin + S)) ≡ continues Acked =
          frames.receiver_acknowledges goes head c y is (given clocks setup book levels (begin + S)) now in
          record {
            calm = calm_acked (judged (Heard (suc last)) (given clocks setup book levels (begin + S))).happened (ap (λ j. j.happened) e);
            ended = ap (λ j. passed_frames (begin + S) j.ended) e;
            stretch =
                ap (λ j. or_next j.next (stretch_by (Framing None) (frames.own goes head c y is (suc last) ++ levels (begin + S) ∷ []))) e
                ∙ ap (λ l. stretch_by (Framing None) (frames.own goes head c y is (suc last) ++ l ∷ [])) (now ∙ sym (frames.line_slot goes head c y is))
                ∙ ap (stretch_by (Framing None)) (sym (frames.own_more goes head c y is (suc last) (omega arith)));
          }

      -- that is dominant
      pub sampled : (clock_at clocks setup book levels (suc (begin + S))).sample ≡ Dominant
      sampled =
          let few = book.lengths.ps2_low in
          let here = before S (omega arith) (omega arith) in
          sample_before clocks setup book levels (begin + S) (levels (begin + S))
          (beat_sample clocks setup book levels (begin + S) S 0 false (Heard (suc last)) Dominant here (unmoved_driving clocks setup book levels (begin + S) S here.does.drives (omega arith)) refl)
          ∙ own S (omega arith) (omega arith) (λ q low high. (before q low high).does.drives)

      -- so many quanta after the sample
      pub record Answers (n : ℕ) : Type 0 where
        pub going : Going (begin + (suc S + n)) (suc S + n) 0 false (Heard (suc (suc last))) Dominant
        pub drives : (q : ℕ) → 1 ≤ q → q ≤ suc S + n → (node clocks setup book levels (begin + q)).drive ≡ Dominant

      pub answers : (n : ℕ) → suc S + n ≤ B → Answers n
      answers zero h =
          let few = book.lengths.ps2_low in
          let here = before S (omega arith) (omega arith) in
          let sampled : Going (suc (begin + S)) (suc S) 0 false (Heard (suc (suc last))) Dominant =
          step_sample clocks setup book levels (begin + S) S 0 false (Heard (suc last)) Dominant here (Heard (suc (suc last)))
          (unmoved_driving clocks setup book levels (begin + S) S here.does.drives (omega arith)) refl takes in
          let g : Going (begin + (suc S + 0)) (suc S + 0) 0 false (Heard (suc (suc last))) Dominant =
          at_place clocks setup book levels (suc (begin + S)) (begin + (suc S + 0)) (suc S) (suc S + 0) 0 false (Heard (suc (suc last))) Dominant (omega arith) (omega arith) sampled in
          record {
            going = g;
            drives = λ q low high. elim (cases_lt S q) [
              | inl past ↦ (let e : begin + (suc S + 0) ≡ begin + q = omega arith in subst (λ i. (node clocks setup book levels i).drive ≡ Dominant) e g.does.drives)
              | inr early ↦ (before q low early).does.drives
            ];
          }
      answers (suc n) h =
          let a = answers n (omega arith) in
          let prior : suc (begin + (S + n)) ≡ begin + (suc S + n) = omega arith in
          let level : levels (begin + (S + n)) ≡ Dominant = own (S + n) (omega arith) (omega arith) (λ q low high. a.drives q low (omega arith)) in
          let unmoved : IsUnmoved clocks setup book levels (begin + (suc S + n)) (suc S + n) false =
          subst (λ i. IsUnmoved clocks setup book levels i (suc S + n) false) prior (unmoved_before clocks setup book levels (begin + (S + n)) (suc S + n) false level) in
          let g : Going (begin + (suc S + suc n)) (suc S + suc n) 0 false (Heard (suc (suc last))) Dominant =
          at_place clocks setup book levels (suc (begin + (suc S + n))) (begin + (suc S + suc n)) (suc (suc S + n)) (suc S + suc n) 0 false (Heard (suc (suc last))) Dominant (omega arith) (omega arith)
          (step_on clocks setup book levels (begin + (suc S + n)) (suc S + n) 0 false (Heard (suc (suc last))) Dominant a.going unmoved (omega arith) (λ e. omega arith)) in
          record {
            going = g;
            drives = λ q low high. elim (cases_lt (suc S + n) q) [
              | inl past ↦ (let e : begin + (suc S + suc n) ≡ begin + q = omega arith in subst (λ i. (node clocks setup book levels i).drive ≡ Dominant) e g.does.drives)
              | inr early ↦ a.drives q low early
            ];
          }

      pub answer_drive : (q : ℕ) → 1 ≤ q → q ≤ B → (node clocks setup book levels (begin + q)).drive ≡ Dominant
      answer_drive q low high = let few = book.lengths.ps2_low in (answers (B - suc S) (omega arith)).drives q low (omega arith)
