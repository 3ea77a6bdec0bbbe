-- Before a frame no station finds a dominant line.
use Rattle.std.proofs.Common.{◌≡◌, ◌∙◌, inl, inr, ap, ℕ, zero, suc, ◌+◌, ◌-◌, ◌<◌, ◌≤◌, ◌&&◌, true, false, None, arith}
use Rattle.std.specs.Prelude.{nat_le, nat_lt}
use Rattle.std.proofs.lemmas.Bool.{and_parts, cases_eq, false_from_ne_true, leb-true}
use Rattle.wl_segments.specs.Lengths.{sample_at}
use Rattle.wl_topology.specs.Driven.{DrivenLaws, driven}
use Rattle.wl_topology.proofs.Callers.{any_one}
use Rattle.wl_machine.specs.Frames.{stuffed_end}
use Rattle.wl_phase.specs.Clocks.{steady_tick}
use Rattle.wl_buses.specs.OneFrame.Stations.{AreStations, HaveRoom, Stations}
use Rattle.wl_buses.specs.OneFrame.Starts.{Drives, reaches_at}
use Rattle.wl_buses.specs.OneFrame.Machines.{bus_levels}
use Rattle.wl_buses.specs.OneFrame.Expected.{IsOutset, Outset, expected_bits, expected_drove, wants}
use Rattle.wl_buses.proofs.OneFrame.Expecting.{from_all, sent_at, wants_sends}
use Rattle.wl_buses.proofs.OneFrame.Machines.{FindNoErrors, LeastWins, SendStuffed, SixOrFront, StayInStep, TenHaveEdge}
use Rattle.wl_buses.proofs.OneFrame.Measures.{tick_next}
use Rattle.wl_buses.proofs.OneFrame.Seeing.{not_before}

module _ (steps : StayInStep) (errors : FindNoErrors) (winner : LeastWins) (stuffed : SendStuffed) (six : SixOrFront) (ten : TenHaveEdge) (laws : DrivenLaws)
    (s : Stations) (are : AreStations s) (room : HaveRoom s) (o : Outset) (is : IsOutset s o) (total : ℕ)
    (valid : (n : ℕ) → n < total → stuffed_end (bus_levels s (expected_bits s o) n) ≡ None)
    (i q : ℕ) (inside : i < s.count) (by_from : q ≤ o.start.from i)
    (unfound : (k : ℕ) → Drives s o.start i k → steady_tick (s.clocks i) q < reaches_at s o.start k i) where
  abbrev tick : ℕ → ℕ → ℕ
  tick k n = steady_tick (s.clocks k) n

  from_most : o.start.from i ≤ o.start.place i + sample_at (s.lengths i)
  from_most = elim (is.begin i inside) [
    | inl itself ↦ (let e = itself.from in omega arith)
    | inr hard ↦ (let e = hard.from in let p = hard.place in let a = (are.line.book i inside).lengths.prop_low in omega arith)
  ]

  -- no start of frame has reached it, and no later bit either
  reached : (k n : ℕ) → k < s.count → n < total → wants s o n k ≡ true → tick k ((expected_bits s o n).from k) + s.delay k i ≤ tick i q → ⊥
  reached k zero there less dominant reach = elim (cases_eq k i) [
    | inl own ↦
        (let more = tick_next s are i inside q (o.start.from i) by_from in
        let loop = are.line.later i i inside inside in
        let f : reaches_at s o.start k i ≡ reaches_at s o.start i i = ap (λ j. reaches_at s o.start j i) own in
        omega arith)
    | inr other ↦ (let late = unfound k (record { inside = there; other = other; dominant = is.drives k ∙ dominant }) in omega arith)
  ]
  reached k (suc m) there less dominant reach =
      (let sender = sent_at steps errors winner stuffed six ten s are room o is 1 (suc m) k (omega arith) (wants_sends steps errors winner stuffed six ten s are room o is total valid (suc m) k (omega arith) there dominant) in
      let later = not_before steps errors winner stuffed six ten laws s are room o is total valid 0 i k (omega arith) inside there sender in
      let up = from_all steps errors winner stuffed six ten s are room o is total valid 1 (suc m) k (omega arith) (omega arith) there in
      let low = from_most in
      let end = tick_next s are i inside q (o.start.place i + sample_at (s.lengths i)) (omega arith) in
      omega arith)

  pub silent_before : driven s.count s.delay (expected_drove s o total) i (tick i q) ≡ false
  silent_before =
      false_from_ne_true (driven s.count s.delay (expected_drove s o total) i (tick i q)) (λ e.
      (let w = laws.dominant_by s.count s.delay (expected_drove s o total) i (tick i q) e in
      let u = tick i q - s.delay w.0 i in
      let x =
      any_one total (λ n. wants s o n w.0 && (nat_le (tick w.0 ((expected_bits s o n).from w.0)) u && nat_lt u (tick w.0 ((expected_bits s o (suc n)).from w.0)))) w.3 in
      let p = and_parts (wants s o x.0 w.0) (nat_le (tick w.0 ((expected_bits s o x.0).from w.0)) u && nat_lt u (tick w.0 ((expected_bits s o (suc x.0)).from w.0))) x.2 in
      let c = and_parts (nat_le (tick w.0 ((expected_bits s o x.0).from w.0)) u) (nat_lt u (tick w.0 ((expected_bits s o (suc x.0)).from w.0))) p.1 in
      let low = leb-true (tick w.0 ((expected_bits s o x.0).from w.0)) u c.0 in
      let come = w.2 in
      reached w.0 x.0 w.1 x.1 p.0 (omega arith)))
