-- The node that sends, from its power-up to the sample of the CRC delimiter, if it hears nothing but itself.
use Rattle.std.proofs.Common.{◌≡◌, ◌∙◌, ◌⊎◌, inl, inr, refl, sym, ap, subst, ℕ, zero, suc, ◌+◌, ◌-◌, ◌*◌, ◌<◌, ◌≤◌, List, [], ◌∷◌, ◌++◌, length, Bool, true, false, not, Some, arith}
use Rattle.std.proofs.lemmas.Bool.{cases_lt}
use Rattle.std.proofs.lemmas.List.{get_or_past}
use Rattle.wl_level.specs.declared.Level.{Level}
use Rattle.wl_level.specs.declared.Level.TheVariants.{Recessive}
use Rattle.wl_level.specs.Levels.{is_dominant}
use Rattle.wl_level.specs.Places.{at, before}
use Rattle.wl_segments.specs.Lengths.{Lengths, sample_at, bit_quanta}
use Rattle.wl_sync.specs.Running.{Running}
use Rattle.wl_sync.specs.Steps.{running_sync}
use Rattle.wl_sync.specs.Skips.{steady_clock}
use Rattle.wl_frame.specs.Stuffing.{Stuffs}
use Rattle.wl_frame.specs.Grammar.{Content, IsContent, bits_of}
use Rattle.wl_frame.specs.Laws.{up_to_ack}
use Rattle.wl_machine.specs.Stretch.{Stretch}
use Rattle.wl_machine.specs.Stretch.Sort.{Framing}
use Rattle.wl_machine.specs.Judged.{drive_of}
use Rattle.wl_machine.specs.States.{stretch_by}
use Rattle.wl_node.specs.declared.setup.NodeSetup.{NodeSetup}
use Rattle.wl_node.specs.declared.setup.Passed.{Passed}
use Rattle.wl_phase.specs.Ways.{ByTheBook}
use Rattle.wl_phase.proofs.Callers.{cases_level, now_recessive, before_dominant}
use Rattle.wl_buses.proofs.OneSender.Frames as frames
use Rattle.wl_buses.proofs.OneSender.Frames.{FrameGoes}
use Rattle.wl_buses.proofs.OneSender.Nodes.{ClockGoes, IsGoing, IsUnmoved, Takes, node, clock_at, sees_at, level_before, sample_before, beat_sample, unmoved_recessive, unmoved_before, unmoved_driving}
use Rattle.wl_buses.proofs.OneSender.Bits.{IsBit, at_place, before_sample, whole_bit}
use Rattle.wl_buses.proofs.OneSender.Silence.{given, takes_on}

abbrev pub fresh_of : Level → Bool
fresh_of v = not (is_dominant v)

module _ (clocks : ClockGoes) (goes : FrameGoes) (setup : NodeSetup) (book : ByTheBook setup.segments) (levels : ℕ → Level)
    (head : Content) (c : IsContent head) (y : List Level) (is : Stuffs y (bits_of head)) (from : ℕ) (passed : List Passed) where
  abbrev l : Lengths
  l = setup.segments

  abbrev S : ℕ
  S = sample_at setup.segments

  abbrev B : ℕ
  B = bit_quanta setup.segments

  abbrev last : ℕ
  last = length y

  abbrev line : List Level
  line = up_to_ack y

  -- the quantum with which bit b begins
  abbrev pub base : ℕ → ℕ
  base b = from + b * B

  abbrev pub Frame : ℕ → Stretch
  Frame n = stretch_by (Framing (Some head)) (frames.own goes head c y is n)

  abbrev pub Going : (k p longer : ℕ) (fresh : Bool) (s : Stretch) (drive : Level) → Type 0
  Going = IsGoing clocks setup book levels passed

  -- it finds its own bits, each by the sample, and before that the bit before
  pub record HearsItself : Type 0 where
    pub silent : levels from ≡ Recessive
    pub settled : (b p : ℕ) → b ≤ last → S ≤ p → p ≤ B → levels (base b + p) ≡ at line b
    pub early : (b p : ℕ) → b ≤ last → p < S → (levels (base b + p) ≡ at line b) ⊎ ((q : ℕ) → q ≤ p → levels (base b + q) ≡ before line b)

  module _ (begun : Going from B 0 true (Frame 0) Recessive) (hears : HearsItself) where
    quiet : (b : ℕ) → b ≤ suc last → running_sync (clock_at clocks setup book levels (base b)) (sees_at clocks setup book levels (base b)) ≡ false
    quiet zero h =
        let here : from ≡ base 0 = omega arith in
        now_recessive (clock_at clocks setup book levels (base 0)) (sees_at clocks setup book levels (base 0)) (ap levels (sym here) ∙ hears.silent)
    quiet (suc b) h =
        let low = book.lengths.ps2_low in
        let here : base b + B ≡ base (suc b) = omega arith in
        let now : levels (base (suc b)) ≡ at line b = ap levels (sym here) ∙ hears.settled b B (omega arith) (omega arith) (omega arith) in
        elim (cases_level (at line b)) [
          | inl dominant ↦
              (let prior : suc (base b + (B - 1)) ≡ base (suc b) = omega arith in
              subst (λ k. running_sync (clock_at clocks setup book levels k) (sees_at clocks setup book levels k) ≡ false) prior
              (before_dominant (clock_at clocks setup book levels (suc (base b + (B - 1)))) (sees_at clocks setup book levels (suc (base b + (B - 1))))
              (level_before clocks setup book levels (base b + (B - 1)) ∙ hears.settled b (B - 1) (omega arith) (omega arith) (omega arith) ∙ dominant)))
          | inr recessive ↦ now_recessive (clock_at clocks setup book levels (base (suc b))) (sees_at clocks setup book levels (base (suc b))) (now ∙ recessive)
        ]

    -- inside a bit nothing moves it
    moved_by_none : (b p : ℕ) → b ≤ last → 1 ≤ p → p < B → (node clocks setup book levels (base b + p)).drive ≡ at y b
        → IsUnmoved clocks setup book levels (base b + p) p (fresh_of (at y b))
    moved_by_none b p h low high drive =
        let prior : suc (base b + (p - 1)) ≡ base b + p = omega arith in
        elim (cases_level (at y b)) [
          | inl dominant ↦ elim (cases_lt S p) [
            | inl past ↦
                subst (λ k. IsUnmoved clocks setup book levels k p (fresh_of (at y b))) prior
                (unmoved_before clocks setup book levels (base b + (p - 1)) p (fresh_of (at y b))
                (hears.settled b (p - 1) h (omega arith) (omega arith) ∙ frames.line_is goes head c y is b h ∙ dominant))
            | inr early ↦
                subst (λ v. IsUnmoved clocks setup book levels (base b + p) p (fresh_of v)) (sym dominant)
                (unmoved_driving clocks setup book levels (base b + p) p (drive ∙ dominant) early)
          ]
          | inr recessive ↦ elim (cases_lt p S) [
            | inl early ↦ elim (hears.early b p h early) [
              | inl now ↦ unmoved_recessive clocks setup book levels (base b + p) p (fresh_of (at y b)) (now ∙ frames.line_is goes head c y is b h ∙ recessive)
              | inr old ↦ elim (cases_level (before line b)) [
                | inl was ↦
                    subst (λ k. IsUnmoved clocks setup book levels k p (fresh_of (at y b))) prior
                    (unmoved_before clocks setup book levels (base b + (p - 1)) p (fresh_of (at y b)) (old (p - 1) (omega arith) ∙ was))
                | inr was ↦ unmoved_recessive clocks setup book levels (base b + p) p (fresh_of (at y b)) (old p (omega arith) ∙ was)
              ]
            ]
            | inr late ↦ unmoved_recessive clocks setup book levels (base b + p) p (fresh_of (at y b)) (hears.settled b p h late (omega arith) ∙ frames.line_is goes head c y is b h ∙ recessive)
          ]
        ]

    takes : (b : ℕ) → b ≤ last → Takes clocks setup book levels (base b + S) (Frame b) (Frame (suc b))
    takes b h =
        let low = book.lengths.ps2_low in
        let now : levels (base b + S) ≡ at line b = hears.settled b S h (omega arith) (omega arith) in
        subst (λ v. Takes clocks setup book levels (base b + S) (Frame b) v)
        (ap (λ x. stretch_by (Framing (Some head)) (frames.own goes head c y is b ++ x ∷ [])) now
        ∙ ap (stretch_by (Framing (Some head))) (sym (frames.own_more goes head c y is b (omega arith))))
        (takes_on clocks setup book levels (base b + S) (Frame b) (frames.sender_goes_on goes head c y is b (given clocks setup book levels (base b + S)) (omega arith) now))

    -- each bit up to the CRC delimiter
    pub bit : (b : ℕ) → b ≤ last → Going (base b) B 0 (fresh_of (before y b)) (Frame b) (before y b) → IsBit clocks setup book levels passed (base b) (fresh_of (at y b)) (Frame b) (Frame (suc b))
    bit b h g =
        whole_bit clocks setup book levels (base b) 0 (fresh_of (before y b)) (fresh_of (at y b)) (Frame b) (before y b) g (quiet b (omega arith)) (Frame (suc b))
        (λ p low high drive. moved_by_none b p h low high (drive ∙ frames.sender_drives goes head c y is b (omega arith))) (takes b h)

    pub begins_bit : (b : ℕ) → b ≤ suc last → Going (base b) B 0 (fresh_of (before y b)) (Frame b) (before y b)
    begins_bit zero h =
        let low = book.lengths.ps2_low in
        at_place clocks setup book levels from (base 0) B B 0 true (Frame 0) Recessive (omega arith) refl begun
    begins_bit (suc b) h =
        let low = book.lengths.ps2_low in
        at_place clocks setup book levels (base b + B) (base (suc b)) B B 0 (fresh_of (at y b)) (Frame (suc b)) (at y b) (omega arith) refl
        (subst (λ v. Going (base b + B) B 0 (fresh_of (at y b)) (Frame (suc b)) v) (frames.sender_drives goes head c y is b (omega arith))
        ((bit b (omega arith) (begins_bit b (omega arith))).after B (omega arith) (omega arith)))

    pub each_bit : (b : ℕ) → b ≤ last → IsBit clocks setup book levels passed (base b) (fresh_of (at y b)) (Frame b) (Frame (suc b))
    each_bit b h = bit b h (begins_bit b (omega arith))

    -- what it drives in its bits
    pub bit_drive : (b p : ℕ) → b ≤ last → 1 ≤ p → p ≤ B → (node clocks setup book levels (base b + p)).drive ≡ at y b
    bit_drive b p h low high = elim (cases_lt S p) [
      | inl past ↦ ((each_bit b h).after p past high).does.drives ∙ frames.sender_drives goes head c y is b (omega arith)
      | inr early ↦ ((each_bit b h).before p low early).does.drives ∙ frames.sender_drives goes head c y is b (omega arith)
    ]

    -- in the ACK slot, as long as it hears nothing
    pub slot : (most : ℕ) → most ≤ S → ((p : ℕ) → p < most → levels (base (suc last) + p) ≡ Recessive)
        → (p : ℕ) → 1 ≤ p → p ≤ most → Going (base (suc last) + p) p 0 true (Frame (suc last)) Recessive
    slot most inside silent p low high =
        let none : drive_of (Frame (suc last)) ≡ Recessive = frames.sender_drives goes head c y is (suc last) (omega arith) ∙ get_or_past y (suc last) Recessive (omega arith) in
        subst (λ v. Going (base (suc last) + p) p 0 true (Frame (suc last)) v) none
        (before_sample clocks setup book levels (base (suc last)) 0 (fresh_of (before y (suc last))) true (Frame (suc last)) (before y (suc last))
        (begins_bit (suc last) (omega arith)) (quiet (suc last) (omega arith)) most inside
        (λ q above below drive. unmoved_recessive clocks setup book levels (base (suc last) + q) q true (silent q below)) p low high)

    -- its clock after the sample of the CRC delimiter
    pub delimited : clock_at clocks setup book levels (suc (base last + S)) ≡ steady_clock l
    delimited =
        let low = book.lengths.ps2_low in
        let none : at y last ≡ Recessive = get_or_past y last Recessive (omega arith) in
        let now : levels (base last + S) ≡ Recessive = hears.settled last S (omega arith) (omega arith) (omega arith) ∙ frames.line_delimiter goes head c y is in
        let before = (each_bit last (omega arith)).before S (omega arith) (omega arith) in
        let after = at_place clocks setup book levels (base last + suc S) (suc (base last + S)) (suc S) (suc S) 0 (fresh_of (at y last)) (Frame (suc last)) (drive_of (Frame last)) (omega arith) refl
        ((each_bit last (omega arith)).after (suc S) (omega arith) (omega arith)) in
        let beat = beat_sample clocks setup book levels (base last + S) S 0 (fresh_of (at y last)) (Frame last) (drive_of (Frame last)) before
        (unmoved_recessive clocks setup book levels (base last + S) S (fresh_of (at y last)) now) refl in
        let q : (clock_at clocks setup book levels (suc (base last + S))).quanta ≡ suc S = (let e = after.place.quanta in omega arith) in
        steady (clock_at clocks setup book levels (suc (base last + S))) refl q after.place.longer_is after.place.shorter (after.place.unsynced (ap fresh_of none))
        (level_before clocks setup book levels (base last + S) ∙ now)
        (sample_before clocks setup book levels (base last + S) (levels (base last + S)) beat ∙ now)
      where
        steady : (r : Running) → r.lengths ≡ l → r.quanta ≡ suc S → r.longer ≡ 0 → r.shorter ≡ 0 → r.synced ≡ false → r.level ≡ Recessive → r.sample ≡ Recessive → r ≡ steady_clock l
        steady r a b d e f g h i = record { lengths = a i; quanta = b i; longer = d i; shorter = e i; synced = f i; level = g i; sample = h i }
