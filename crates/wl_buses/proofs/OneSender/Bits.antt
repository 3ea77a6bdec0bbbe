-- A node through a bit that no edge moves.
use Rattle.std.proofs.Common.{◌≡◌, ◌≢◌, ◌∙◌, ◌⊎◌, inl, inr, refl, ap, subst, ℕ, zero, suc, ◌+◌, ◌-◌, ◌<◌, ◌≤◌, List, Bool, false, arith}
use Rattle.wl_level.specs.declared.Level.{Level}
use Rattle.wl_segments.specs.Lengths.{sample_at, bit_quanta}
use Rattle.wl_sync.specs.Steps.{running_sync}
use Rattle.wl_machine.specs.Stretch.{Stretch}
use Rattle.wl_machine.specs.Judged.{drive_of}
use Rattle.wl_node.specs.declared.setup.NodeSetup.{NodeSetup}
use Rattle.wl_node.specs.declared.setup.Passed.{Passed}
use Rattle.wl_phase.specs.Ways.{ByTheBook}
use Rattle.wl_buses.proofs.OneSender.Nodes.{ClockGoes, IsGoing, IsUnmoved, Takes, node, clock_at, sees_at, step_on, step_sample, step_start}

module _ (clocks : ClockGoes) (setup : NodeSetup) (book : ByTheBook setup.segments) (levels : ℕ → Level) where
  abbrev S : ℕ
  S = sample_at setup.segments

  abbrev B : ℕ
  B = bit_quanta setup.segments

  abbrev Going : (passed : List Passed) (k p longer : ℕ) (fresh : Bool) (s : Stretch) (drive : Level) → Type 0
  Going = IsGoing clocks setup book levels

  abbrev Unmoved : ℕ → ℕ → Bool → Type 0
  Unmoved = IsUnmoved clocks setup book levels

  pub at_place : {passed : List Passed} (k j p q longer : ℕ) (fresh : Bool) (s : Stretch) (drive : Level) → k ≡ j → p ≡ q → Going passed k p longer fresh s drive → Going passed j q longer fresh s drive
  at_place {passed = passed} k j p q longer fresh s drive e f g = subst (λ i. Going passed i q longer fresh s drive) e (subst (λ i. Going passed k i longer fresh s drive) f g)

  -- n quanta without a sample
  pub glide : {passed : List Passed} (n k p longer : ℕ) (fresh : Bool) (s : Stretch) (drive : Level) → p + n ≤ B → (S < p) ⊎ (p + n ≤ S)
      → ((i : ℕ) → i < n → (node clocks setup book levels (k + i)).drive ≡ drive → Unmoved (k + i) (p + i) fresh)
      → Going passed k p longer fresh s drive → Going passed (k + n) (p + n) longer fresh s drive
  glide zero k p longer fresh s drive inside apart unmoved g = at_place k (k + 0) p (p + 0) longer fresh s drive (omega arith) (omega arith) g
  glide (suc n) k p longer fresh s drive inside apart unmoved g =
      let before : (S < p) ⊎ (p + n ≤ S) = elim apart [ inl past ↦ inl past | inr early ↦ inr (omega arith) ] in
      let off : p + n ≢ S = λ e. elim apart [ inl past ↦ omega arith | inr early ↦ omega arith ] in
      let here = glide n k p longer fresh s drive (omega arith) before (λ i less. unmoved i (omega arith)) g in
      at_place (suc (k + n)) (k + suc n) (suc (p + n)) (p + suc n) longer fresh s drive (omega arith) (omega arith)
      (step_on clocks setup book levels (k + n) (p + n) longer fresh s drive here (unmoved n (omega arith) here.does.drives) (omega arith) off)

  -- From its start to the next one: so many quanta of it are over.
  pub record IsBit (passed : List Passed) (base : ℕ) (fresh : Bool) (s next : Stretch) : Type 0 where
    pub before : (p : ℕ) → 1 ≤ p → p ≤ S → Going passed (base + p) p 0 fresh s (drive_of s)
    pub after : (p : ℕ) → S < p → p ≤ B → Going passed (base + p) p 0 fresh next (drive_of s)

  module _ {passed : List Passed} (base longer : ℕ) (old fresh : Bool) (s : Stretch) (drive : Level) (g : Going passed base B longer old s drive)
      (quiet : running_sync (clock_at clocks setup book levels base) (sees_at clocks setup book levels base) ≡ false) where
    pub begun : Going passed (base + 1) 1 0 fresh s (drive_of s)
    begun =
        at_place (suc base) (base + 1) 1 1 0 fresh s (drive_of s) (omega arith) refl
        (step_start clocks setup book levels base B longer old s drive g quiet refl fresh)

    pub before_sample : (most : ℕ) → most ≤ S
        → ((p : ℕ) → 1 ≤ p → p < most → (node clocks setup book levels (base + p)).drive ≡ drive_of s → Unmoved (base + p) p fresh)
        → (p : ℕ) → 1 ≤ p → p ≤ most → Going passed (base + p) p 0 fresh s (drive_of s)
    before_sample most inside unmoved p low high =
        at_place (base + 1 + (p - 1)) (base + p) (1 + (p - 1)) p 0 fresh s (drive_of s) (omega arith) (omega arith)
        (glide (p - 1) (base + 1) 1 0 fresh s (drive_of s) (omega arith) (inr (omega arith))
        (λ i less e.
        (let k : base + (1 + i) ≡ base + 1 + i = omega arith in
        subst (λ j. Unmoved j (1 + i) fresh) k
        (unmoved (1 + i) (omega arith) (omega arith) (ap (λ j. (node clocks setup book levels j).drive) k ∙ e))))
        begun)

    pub whole_bit : (next : Stretch)
        → ((p : ℕ) → 1 ≤ p → p < B → (node clocks setup book levels (base + p)).drive ≡ drive_of s → Unmoved (base + p) p fresh)
        → Takes clocks setup book levels (base + S) s next → IsBit passed base fresh s next
    whole_bit next unmoved takes =
        let low = book.lengths.ps2_low in
        let before = before_sample S (omega arith) (λ p above below. unmoved p above (omega arith)) in
        let last = before S (omega arith) (omega arith) in
        let sampled : Going passed (suc (base + S)) (suc S) 0 fresh next (drive_of s) =
        step_sample clocks setup book levels (base + S) S 0 fresh s (drive_of s) last next (unmoved S (omega arith) (omega arith) last.does.drives) refl takes in
        record {
          before = before;
          after = λ p above below.
              at_place (suc (base + S) + (p - suc S)) (base + p) (suc S + (p - suc S)) p 0 fresh next (drive_of s) (omega arith) (omega arith)
              (glide (p - suc S) (suc (base + S)) (suc S) 0 fresh next (drive_of s) (omega arith) (inl (omega arith))
              (λ i less e.
              (let k : base + (suc S + i) ≡ suc (base + S) + i = omega arith in
              subst (λ j. Unmoved j (suc S + i) fresh) k
              (unmoved (suc S + i) (omega arith) (omega arith) (ap (λ j. (node clocks setup book levels j).drive) k ∙ e))))
              sampled);
        }
