-- The sender at its sample of the ACK slot.
use Rattle.std.proofs.Common.{◌≡◌, ◌∙◌, inl, inr, refl, sym, ap, subst, ℕ, zero, suc, ◌+◌, List, [], ◌∷◌, ◌++◌, length, Some, arith}
use Rattle.std.proofs.lemmas.List.{get_or_past}
use Rattle.wl_level.specs.declared.Level.{Level}
use Rattle.wl_level.specs.declared.Level.TheVariants.{Dominant, Recessive}
use Rattle.wl_level.proofs.Callers.{length_more}
use Rattle.wl_sync.specs.declared.Beat.TheVariants.{Sample}
use Rattle.wl_sync.specs.declared.Seen.{Seen}
use Rattle.wl_sync.specs.Bits.{beat_of}
use Rattle.wl_frame.specs.Stuffing.{Stuffs}
use Rattle.wl_frame.specs.Grammar.{Content, IsContent, bits_of}
use Rattle.wl_machine.specs.Stretch.{Stretch}
use Rattle.wl_machine.specs.Stretch.Sort.{Framing}
use Rattle.wl_machine.specs.Judged.{drive_of}
use Rattle.wl_machine.specs.States.{stretch_by}
use Rattle.wl_node.specs.declared.setup.NodeSetup.{NodeSetup}
use Rattle.wl_node.specs.declared.setup.Passed.{Passed}
use Rattle.wl_phase.specs.Ways.{ByTheBook, WayLaws}
use Rattle.wl_phase.specs.InStep.{seen_before, sampled_by, samples_from}
use Rattle.wl_phase.specs.Answer.{SamplesNext}
use Rattle.wl_buses.proofs.OneSender.Frames as frames
use Rattle.wl_buses.proofs.OneSender.Frames.{FrameGoes}
use Rattle.wl_buses.proofs.OneSender.Nodes.{beat_same, ClockGoes, Does, Takes, beat_at, sees_at, does_plain, does_start, does_sample}
use Rattle.wl_buses.proofs.OneSender.Receiving.{cases_beat, sampled_level}
use Rattle.wl_buses.proofs.OneSender.Silence.{given, takes_on}

module _ (clocks : ClockGoes) (goes : FrameGoes) (setup : NodeSetup) (book : ByTheBook setup.segments) (levels : ℕ → Level)
    (head : Content) (c : IsContent head) (y : List Level) (is : Stuffs y (bits_of head)) (ways : WayLaws) (passed : List Passed) where
  abbrev last : ℕ
  last = length y

  abbrev Frame : ℕ → Stretch
  Frame n = stretch_by (Framing (Some head)) (frames.own goes head c y is n)

  abbrev Doing : (k : ℕ) (t : Stretch) (drive : Level) → Type 0
  Doing = Does clocks setup book levels passed

  abbrev seen : ℕ → Seen
  seen = sees_at clocks setup book levels

  abbrev samples : (from n : ℕ) → List Level
  samples from n = samples_from setup.segments seen from n

  empty_front : (xs ys : List Level) → xs ++ ys ≡ [] → xs ≡ []
  empty_front [] ys e = refl
  empty_front (x ∷ xs) ys e = absurd (not_empty x (xs ++ ys) e)
    where
      not_empty : (x : Level) (xs : List Level) → x ∷ xs ≡ [] → ⊥
      not_empty x xs e = cc

  pub none_before : (from n e : ℕ) → samples from (n + e) ≡ [] → samples from n ≡ []
  none_before from n zero none = let place : n ≡ n + 0 = omega arith in ap (samples from) place ∙ none
  none_before from n (suc e) none =
      let place : suc (n + e) ≡ n + suc e = omega arith in
      none_before from n e (empty_front (samples from (n + e)) (sampled_by (beat_of setup.segments (seen_before seen (from + (n + e))) (seen (from + (n + e))))) (ap (samples from) place ∙ none))

  -- without a sample a node stays where it is
  module _ (from : ℕ) (s : Stretch) (drives : drive_of s ≡ Recessive) (first : Doing from s Recessive) where
    pub stays : (n : ℕ) → samples from n ≡ [] → Doing (from + n) s Recessive
    stays zero none = let place : from ≡ from + 0 = omega arith in subst (λ k. Doing k s Recessive) place first
    stays (suc n) none =
        let before = stays n (empty_front (samples from n) (sampled_by (beat_of setup.segments (seen_before seen (from + n)) (seen (from + n)))) none) in
        let place : suc (from + n) ≡ from + suc n = omega arith in
        subst (λ k. Doing k s Recessive) place
        (elim (cases_beat (beat_at clocks setup book levels (from + n))) [
          | inl plain ↦ does_plain clocks setup book levels (from + n) s Recessive plain before
          | inr other ↦ elim other [
            | inl start ↦ subst (λ v. Doing (suc (from + n)) s v) drives (does_start clocks setup book levels (from + n) s Recessive start before)
            | inr sampled ↦
                (let one : samples from n ++ sampled.0 ∷ [] ≡ [] = ap (λ v. samples from n ++ v) (sym (ap sampled_by (beat_same clocks setup book levels (from + n) ∙ sampled.1))) ∙ none in
                let long = length_more (samples from n) sampled.0 in
                let e = ap length one in
                absurd (omega arith))
          ]
        ])

  pub slot_sampled : (k m : ℕ) → Doing (suc k) (Frame (suc last)) Recessive → SamplesNext setup.segments seen k m Dominant → Doing (suc m) (Frame (suc (suc last))) Recessive
  slot_sampled k m first next =
      let place = next.place in
      let none : drive_of (Frame (suc last)) ≡ Recessive = frames.sender_drives goes head c y is (suc last) (omega arith) ∙ get_or_past y (suc last) Recessive (omega arith) in
      let before : Doing m (Frame (suc last)) Recessive =
      subst (λ q. Doing q (Frame (suc last)) Recessive) place (stays (suc k) (Frame (suc last)) none first next.quanta next.first) in
      let beat : beat_at clocks setup book levels m ≡ Sample Dominant = sym (beat_same clocks setup book levels m) ∙ next.beat in
      let now : levels m ≡ Dominant = sampled_level clocks setup book levels ways m Dominant beat in
      does_sample clocks setup book levels m (Frame (suc last)) (Frame (suc (suc last))) Recessive Dominant beat before
      (subst (λ t. Takes clocks setup book levels m (Frame (suc last)) t)
      (ap (λ l. stretch_by (Framing (Some head)) (frames.own goes head c y is (suc last) ++ l ∷ [])) (now ∙ sym (frames.line_slot goes head c y is))
      ∙ ap (stretch_by (Framing (Some head))) (sym (frames.own_more goes head c y is (suc last) (omega arith))))
      (takes_on clocks setup book levels m (Frame (suc last))
      (frames.sender_goes_on goes head c y is (suc last) (given clocks setup book levels m) (omega arith) (now ∙ sym (frames.line_slot goes head c y is)))))
