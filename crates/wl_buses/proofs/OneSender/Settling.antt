-- A node that has sampled a dominant ACK slot, up to its sample of the ACK delimiter: nothing moves it.
use Rattle.std.proofs.Common.{◌≡◌, ◌∙◌, inl, refl, sym, ap, subst, ℕ, zero, suc, ◌+◌, ◌-◌, ◌*◌, ◌<◌, ◌≤◌, List, [], ◌∷◌, ◌++◌, Bool, true, false, min, arith}
use Rattle.wl_level.specs.declared.Level.{Level}
use Rattle.wl_level.specs.declared.Level.TheVariants.{Dominant, Recessive}
use Rattle.wl_segments.specs.Lengths.{sample_at, bit_quanta}
use Rattle.wl_machine.specs.Stretch.{Stretch}
use Rattle.wl_machine.specs.Judged.{drive_of, judged, or_next}
use Rattle.wl_machine.specs.States.{stretch_by}
use Rattle.wl_node.specs.declared.setup.NodeSetup.{NodeSetup}
use Rattle.wl_node.specs.declared.setup.Passed.{Passed}
use Rattle.wl_node.specs.History.{passed_frames}
use Rattle.wl_phase.specs.Ways.{ByTheBook}
use Rattle.wl_buses.proofs.OneSender.Bits.{at_place}
use Rattle.wl_buses.proofs.OneSender.Nodes.{ClockGoes, IsGoing, IsUnmoved, Does, Completes, clock_at, sees_at, beat_sample, sample_before, sample_on, sample_start, level_before, step_on, step_start, step_complete}
use Rattle.wl_buses.proofs.OneSender.Silence.{IsSilentAt, Waits, given}
use Rattle.wl_buses.proofs.BothProofs.Small.{sampled_dominant}

module _ (clocks : ClockGoes) (setup : NodeSetup) (book : ByTheBook setup.segments) (levels : ℕ → Level) (passed : List Passed) (q longer : ℕ) (s : Stretch) (drive : Level)
    (quiet : drive_of s ≡ Recessive) (w : Waits (q + setup.segments.ps2) (sample_at setup.segments) (bit_quanta setup.segments)) (first : w.stretch 0 ≡ s) (gone : w.passed 0 ≡ passed)
    (going : IsGoing clocks setup book levels passed (suc q) (suc (sample_at setup.segments)) longer false s drive)
    (slot : (clock_at clocks setup book levels (suc q)).sample ≡ Dominant) where
  abbrev S : ℕ
  S = sample_at setup.segments

  abbrev B : ℕ
  B = bit_quanta setup.segments

  abbrev ps2 : ℕ
  ps2 = setup.segments.ps2

  abbrev Going : (k p longer : ℕ) (fresh : Bool) (s : Stretch) (drive : Level) → Type 0
  Going = IsGoing clocks setup book levels passed

  -- the rest of the slot
  record Rest (n : ℕ) : Type 0 where
    goes : Going (suc q + n) (suc S + n) longer false s drive
    sample : (clock_at clocks setup book levels (suc q + n)).sample ≡ Dominant

  rest : (n : ℕ) → suc n ≤ ps2 → Rest n
  rest zero h =
      let here : suc q ≡ suc q + 0 = omega arith in
      record {
        goes = at_place clocks setup book levels (suc q) (suc q + 0) (suc S) (suc S + 0) longer false s drive here (omega arith) going;
        sample = subst (λ k. (clock_at clocks setup book levels k).sample ≡ Dominant) here slot;
      }
  rest (suc n) h =
      let r = rest n (omega arith) in
      let here : suc (suc q + n) ≡ suc q + suc n = omega arith in
      let unmoved : IsUnmoved clocks setup book levels (suc q + n) (suc S + n) false =
      inl (sampled_dominant (clock_at clocks setup book levels (suc q + n)) (sees_at clocks setup book levels (suc q + n)) r.sample) in
      record {
        goes =
            at_place clocks setup book levels (suc (suc q + n)) (suc q + suc n) (suc (suc S + n)) (suc S + suc n) longer false s drive here (omega arith)
            (step_on clocks setup book levels (suc q + n) (suc S + n) longer false s drive r.goes unmoved (omega arith) (λ e. omega arith));
        sample = subst (λ k. (clock_at clocks setup book levels k).sample ≡ Dominant) here
            (sample_on clocks setup book levels (suc q + n) (suc S + n) longer false s drive r.goes unmoved (omega arith) (λ e. omega arith) ∙ r.sample);
      }

  -- the delimiter
  record Delimiter (p : ℕ) : Type 0 where
    goes : Going (q + ps2 + p) p 0 true s Recessive
    sample : (clock_at clocks setup book levels (q + ps2 + p)).sample ≡ Dominant

  delimiter_first : Delimiter 1
  delimiter_first =
      let low = book.lengths.ps2_low in
      let r = rest (ps2 - 1) (omega arith) in
      let k = suc q + (ps2 - 1) in
      let here : suc (suc q + (ps2 - 1)) ≡ q + ps2 + 1 = omega arith in
      let still = sampled_dominant (clock_at clocks setup book levels (suc q + (ps2 - 1))) (sees_at clocks setup book levels (suc q + (ps2 - 1))) r.sample in
      record {
        goes =
            at_place clocks setup book levels (suc (suc q + (ps2 - 1))) (q + ps2 + 1) 1 1 0 true s Recessive here refl
            (subst (λ v. Going (suc (suc q + (ps2 - 1))) 1 0 true s v) quiet
            (step_start clocks setup book levels (suc q + (ps2 - 1)) (suc S + (ps2 - 1)) longer false s drive r.goes still (omega arith) true));
        sample = subst (λ k. (clock_at clocks setup book levels k).sample ≡ Dominant) here
            (sample_start clocks setup book levels (suc q + (ps2 - 1)) (suc S + (ps2 - 1)) longer false s drive r.goes still (omega arith) ∙ r.sample);
      }

  delimiter : (p : ℕ) → suc p ≤ S → Delimiter (suc p)
  delimiter zero h = delimiter_first
  delimiter (suc p) h =
      let d = delimiter p (omega arith) in
      let here : suc (q + ps2 + suc p) ≡ q + ps2 + suc (suc p) = omega arith in
      let unmoved : IsUnmoved clocks setup book levels (q + ps2 + suc p) (suc p) true =
      inl (sampled_dominant (clock_at clocks setup book levels (q + ps2 + suc p)) (sees_at clocks setup book levels (q + ps2 + suc p)) d.sample) in
      record {
        goes =
            at_place clocks setup book levels (suc (q + ps2 + suc p)) (q + ps2 + suc (suc p)) (suc (suc p)) (suc (suc p)) 0 true s Recessive here refl
            (step_on clocks setup book levels (q + ps2 + suc p) (suc p) 0 true s Recessive d.goes unmoved (omega arith) (λ e. omega arith));
        sample = subst (λ k. (clock_at clocks setup book levels k).sample ≡ Dominant) here
            (sample_on clocks setup book levels (q + ps2 + suc p) (suc p) 0 true s Recessive d.goes unmoved (omega arith) (λ e. omega arith) ∙ d.sample);
      }

  -- what it drives on the way
  pub between : (k : ℕ) → q < k → k ≤ q + ps2 → Does clocks setup book levels passed k s drive
  between k low high =
      let here : suc q + (k - suc q) ≡ k = omega arith in
      subst (λ i. Does clocks setup book levels passed i s drive) here (rest (k - suc q) (omega arith)).goes.does

  pub delimiting : (k : ℕ) → q + ps2 < k → k ≤ q + B → Does clocks setup book levels passed k s Recessive
  delimiting k low high =
      let one : suc (k - suc (q + ps2)) ≡ k - (q + ps2) = omega arith in
      let here : q + ps2 + suc (k - suc (q + ps2)) ≡ k = omega arith in
      subst (λ i. Does clocks setup book levels passed i s Recessive) here (delimiter (k - suc (q + ps2)) (omega arith)).goes.does

  -- and with the sample of the delimiter it waits for an idle bus
  module _ (now : levels (q + B) ≡ Recessive) where
    pub settled : IsSilentAt clocks setup book levels (q + ps2) w (suc (q + B))
    settled =
        let prop = book.lengths.prop_low in
        let low = book.lengths.ps2_low in
        let d = delimiter (S - 1) (omega arith) in
        let one : suc (S - 1) ≡ S = omega arith in
        let here : q + ps2 + suc (S - 1) ≡ q + B = omega arith in
        let g : Going (q + B) S 0 true s Recessive = at_place clocks setup book levels (q + ps2 + suc (S - 1)) (q + B) (suc (S - 1)) S 0 true s Recessive here one d.goes in
        let sample : (clock_at clocks setup book levels (q + B)).sample ≡ Dominant = subst (λ k. (clock_at clocks setup book levels k).sample ≡ Dominant) here d.sample in
        let unmoved : IsUnmoved clocks setup book levels (q + B) S true =
        inl (sampled_dominant (clock_at clocks setup book levels (q + B)) (sees_at clocks setup book levels (q + B)) sample) in
        let x = given clocks setup book levels (q + B) in
        let step = w.on 0 (given clocks setup book levels (q + B)) (omega arith) now in
        let place : q + ps2 + 0 * B + S ≡ q + B = omega arith in
        let takes : Completes clocks setup book levels step.0 (q + B) s (w.stretch 1) =
        subst (λ v. Completes clocks setup book levels step.0 (q + B) v (w.stretch 1)) first
        (record {
          calm = step.2.calm;
          ended = ap (λ n. passed_frames n (judged (w.stretch 0) (given clocks setup book levels (q + B))).ended) (sym place) ∙ step.2.ended;
          stretch =
              ap (λ v. or_next (judged (w.stretch 0) (given clocks setup book levels (q + B))).next (stretch_by (w.stretch 0).sort ((w.stretch 0).own ++ v ∷ []))) now ∙ step.2.stretch;
        }) in
        let after = step_complete clocks setup book levels (q + B) S 0 true s Recessive g step.0 (w.stretch 1) unmoved refl takes in
        let few : min 1 10 ≡ 1 = omega arith in
        record {
          count = 1;
          p = suc S;
          low = omega arith;
          high = omega arith;
          early = λ h. absurd (omega arith);
          late = λ h. omega arith;
          stretch = w.stretch 1;
          waiting = record { counting = λ h. refl; idle = λ h. absurd (omega arith) };
          going = subst (λ v. IsGoing clocks setup book levels v (suc (q + B)) (suc S) 0 true (w.stretch 1) Recessive) (ap (λ v. v ++ step.0) (sym gone) ∙ sym step.1 ∙ ap w.passed (sym few)) after;
          sample =
              sample_before clocks setup book levels (q + B) (levels (q + B)) (beat_sample clocks setup book levels (q + B) S 0 true s Recessive g unmoved refl) ∙ now;
          level = level_before clocks setup book levels (q + B) ∙ now;
        }
