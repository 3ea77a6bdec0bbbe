-- By which tick a frame has begun at each station, and by which quantum a bit.
use Rattle.std.proofs.Common.{◌≡◌, ◌≢◌, ◌∙◌, refl, sym, ap, inl, inr, ℕ, zero, suc, ◌+◌, ◌-◌, ◌*◌, ◌<◌, ◌≤◌, ◌&&◌, not, cond, Bool, true, false, Option, Some, None, arith}
use Rattle.std.specs.Prelude.{◌==◌, nat_le}
use Rattle.std.proofs.lemmas.Bool.{and_from, cases_Bool, cases_eq, cases_lt, le-leb, ne_eqb}
use Rattle.wl_level.proofs.Callers.{first_is, first_none}
use Rattle.wl_segments.specs.Lengths.{bit_quanta}
use Rattle.wl_topology.specs.Driven.{any_below}
use Rattle.wl_topology.proofs.Callers.{any_from}
use Rattle.wl_phase.specs.Clocks.{steady_tick}
use Rattle.wl_buses.specs.OneFrame.Stations.{Stations}
use Rattle.wl_buses.specs.OneFrame.Starts.{Start}
use Rattle.wl_buses.specs.OneFrame.Expected.{Outset, expected_bits, found_before, is_reached, looks_up_to, most, next_start, place_found, settled, wants}
use Rattle.wl_buses.proofs.Callers.{most_from}
use Rattle.wl_buses.specs.FirstFrame.FirstStarts.{hard_place}

-- no bit is earlier than the one before, and none later by more than its quanta and a jump
module _ (s : Stations) (i : ℕ) (short : (s.lengths i).sjw ≤ bit_quanta (s.lengths i)) where
  found_low : (o : Option ℕ) (due : ℕ → ℕ) → due i ≤ place_found s due i o + (s.lengths i).sjw
  found_low None due = omega arith
  found_low (Some q) due = omega arith

  found_high : (o : Option ℕ) (due : ℕ → ℕ) → place_found s due i o ≤ due i + (s.lengths i).sjw
  found_high None due = omega arith
  found_high (Some q) due = omega arith

  abbrev dues : Start → ℕ → ℕ
  dues b j = b.place j + bit_quanta (s.lengths j)

  -- the quantum that finds its edge
  abbrev edge_found : (ℕ → Bool) → (ℕ → ℕ) → Option ℕ
  edge_found drives due = found_before s drives (settled s drives due) i (suc (looks_up_to s drives due i))

  step_low : (edge : Bool) (drives : ℕ → Bool) (b : Start) → b.place i ≤ (next_start s edge drives b).place i
  step_low false drives b = omega arith
  step_low true drives b =
      (let low : b.place i + bit_quanta (s.lengths i) ≤ (next_start s true drives b).place i + (s.lengths i).sjw = found_low (edge_found drives (dues b)) (dues b) in omega arith)

  step_high : (edge : Bool) (drives : ℕ → Bool) (b : Start) → (next_start s edge drives b).place i ≤ b.place i + (bit_quanta (s.lengths i) + (s.lengths i).sjw)
  step_high false drives b = omega arith
  step_high true drives b =
      (let high : (next_start s true drives b).place i ≤ b.place i + bit_quanta (s.lengths i) + (s.lengths i).sjw = found_high (edge_found drives (dues b)) (dues b) in omega arith)

  pub place_low : (o : Outset) (n m : ℕ) → n ≤ m → (expected_bits s o n).place i ≤ (expected_bits s o m).place i
  place_low o n zero h = let e : n ≡ 0 = omega arith in rw e (let r : (expected_bits s o 0).place i ≤ (expected_bits s o 0).place i = omega arith in r)
  place_low o n (suc m) h = elim (cases_lt n (suc m)) [
    | inl less ↦
        (let before = place_low o n m (omega arith) in
        let next = step_low (not (any_below s.count (wants s o m)) && any_below s.count (wants s o (suc m))) (wants s o (suc m)) (expected_bits s o m) in
        omega arith)
    | inr over ↦ (let e : n ≡ suc m = omega arith in let f = ap (λ k. (expected_bits s o k).place i) e in omega arith)
  ]

  pub place_high : (o : Outset) (width n : ℕ) → bit_quanta (s.lengths i) + (s.lengths i).sjw ≤ width → (expected_bits s o n).place i ≤ (expected_bits s o 0).place i + n * width
  place_high o width zero wide = omega arith
  place_high o width (suc n) wide =
      let before = place_high o width n wide in
      let next = step_high (not (any_below s.count (wants s o n)) && any_below s.count (wants s o (suc n))) (wants s o (suc n)) (expected_bits s o n) in
      omega arith

module _ (s : Stations) (up : (i a b : ℕ) → i < s.count → a ≤ b → steady_tick (s.clocks i) a ≤ steady_tick (s.clocks i) b)
    (far : (i k : ℕ) → i < s.count → k ≤ steady_tick (s.clocks i) k) where
  module _ (has : ℕ → Bool) (due looks : ℕ → ℕ) (i k : ℕ) (ni : i < s.count) (nk : k < s.count) (sends : has k ≡ true)
      (look : looks i ≡ cond (has i) (due i) (most s.count (λ j. steady_tick (s.clocks j) (due j) + s.delay j i))) where
    -- the tick at which the start of frame of station k reaches station i
    abbrev comes : ℕ
    comes = steady_tick (s.clocks k) (due k) + s.delay k i

    unreached : (q : ℕ) → i ≢ k → is_reached s has due i q ≡ false → steady_tick (s.clocks i) q < comes
    unreached q other none = elim (cases_lt (steady_tick (s.clocks i) q) comes) [
      | inl before ↦ before
      | inr after ↦
          (let there : not (k == i) ≡ true = ap not (ne_eqb k i (λ e. other (sym e))) in
          let one = any_from s.count k (λ j. has j && (not (j == i) && nat_le (steady_tick (s.clocks j) (due j) + s.delay j i) (steady_tick (s.clocks i) q))) nk
          (and_from _ _ sends (and_from _ _ there (le-leb comes (steady_tick (s.clocks i) q) after))) in
          let both : true ≡ false = sym one ∙ none in
          cc)
    ]

    due_self : i ≡ k → due i ≡ due k
    due_self e = ap due e

    own_due : i ≡ k → steady_tick (s.clocks i) (due i) ≤ comes
    own_due e = let f = ap (λ j. steady_tick (s.clocks j) (due j)) e in omega arith

    own_looks : has i ≡ true → looks i ≡ due i
    own_looks e = look ∙ ap (λ b. cond b (due i) (most s.count (λ j. steady_tick (s.clocks j) (due j) + s.delay j i))) e

    pub begins_by : (o : Option ℕ) → found_before s has due i (suc (looks i)) ≡ o → (o ≡ Some 0 → steady_tick (s.clocks i) 0 ≤ comes)
        → steady_tick (s.clocks i) (hard_place (due i) o) ≤ comes
    begins_by (Some zero) is first = first refl
    begins_by (Some (suc q)) is first =
        (let at = first_is (is_reached s has due i) (suc (looks i)) (suc q) is in
        let same : suc q - 1 ≡ q = omega arith in
        elim (cases_eq i k) [
          | inl own ↦
              (let end = own_looks (ap has own ∙ sends) in
              let inside = at.inside in
              let e = own_due own in
              let before = up i q (due i) ni (omega arith) in
              let f = ap (steady_tick (s.clocks i)) same in
              omega arith)
          | inr other ↦ (let before = unreached q other (at.none_before q (omega arith)) in let f = ap (steady_tick (s.clocks i)) same in omega arith)
        ])
    begins_by None is first = elim (cases_eq i k) [
      | inl own ↦ own_due own
      | inr other ↦ elim (cases_Bool (has i)) [
        | inl own ↦
            (let end = own_looks own in
            let before = unreached (due i) other (first_none (is_reached s has due i) (suc (looks i)) is (due i) (omega arith)) in
            omega arith)
        | inr none ↦
            (let end = look ∙ ap (λ b. cond b (due i) (most s.count (λ j. steady_tick (s.clocks j) (due j) + s.delay j i))) none in
            let before = unreached (looks i) other (first_none (is_reached s has due i) (suc (looks i)) is (looks i) (omega arith)) in
            let all = most_from s.count (λ j. steady_tick (s.clocks j) (due j) + s.delay j i) k nk in
            let late = far i (looks i) ni in
            absurd (omega arith))
      ]
    ]
