-- After a frame each station has sampled the second bit of the intermission, or rests, before the next start of frame reaches it.
use Rattle.std.proofs.Common.{◌≡◌, ◌≢◌, ◌∙◌, inl, inr, refl, sym, ap, subst, cond, ℕ, zero, suc, ◌+◌, ◌*◌, ◌<◌, ◌≤◌, ◌&&◌, Bool, true, false, Some, arith}
use Rattle.std.specs.Prelude.{nat_lt, slice_get}
use Rattle.std.proofs.lemmas.Bool.{and_from, and_parts, both_ways, cases_Bool, cases_lt, false_from_ne_true, lt-ltb, ltb-true}
use Rattle.wl_segments.specs.Lengths.{bit_quanta, sample_at}
use Rattle.wl_frame.specs.Grammar.{Content}
use Rattle.wl_phase.specs.Clocks.{steady_tick}
use Rattle.wl_wire.specs.InStep.{AreSoundFrames}
use Rattle.wl_buses.specs.OneFrame.Stations.{AreStations, Stations}
use Rattle.wl_buses.specs.OneFrame.Expected.{Outset, expected_bits, expected_sample}
use Rattle.wl_buses.proofs.OneFrame.Measures.{tick_next}
use Rattle.wl_buses.specs.NextFrames.NextStarts.{AreResting, HaveMore, Resting, due_next, has_next, is_reached_next, rested, resting_after}
use Rattle.wl_buses.specs.ThirdBit.ThirdStarts.{is_in_third, resting_from_second}
use Rattle.wl_buses.proofs.NextFrames.Reached as next

-- two ways to count the same bits
module _ (s : Stations) (are : AreStations s) (o : Outset) (sound : AreSoundFrames s.count o.frames) (end : ℕ) (which decides : ℕ → ℕ)
    (places : (i : ℕ) → (expected_bits s o (end + 12)).place i ≡ (expected_bits s o (end + 11)).place i + bit_quanta (s.lengths i))
    (second : (i k : ℕ) → i < s.count → k < s.count → steady_tick (s.clocks i) (expected_sample s o (end + 11) i)
    < steady_tick (s.clocks k) ((expected_bits s o (end + 12)).place k + bit_quanta (s.lengths k)) + s.delay k i) (more : HaveMore s o.frames which) where
  abbrev old : Resting
  old = resting_after s o end which decides

  abbrev new : Resting
  new = resting_from_second s o end which decides

  abbrev B : ℕ → ℕ
  B i = bit_quanta (s.lengths i)

  abbrev S : ℕ → ℕ
  S i = sample_at (s.lengths i)

  abbrev third : ℕ → Bool
  third i = is_in_third s o end which decides i

  abbrev due_by : Bool → ℕ → ℕ
  due_by b i = cond b ((expected_bits s o (end + 11)).place i) ((expected_bits s o (end + 12)).place i) + suc (cond b (suc (decides i)) (decides i)) * B i

  due_both : (b : Bool) (i : ℕ) → due_by b i ≡ due_next old i
  due_both false i = refl
  due_both true i = (let p = places i in let e : suc (suc (decides i)) * B i ≡ B i + suc (decides i) * B i = omega arith in omega arith)

  -- a start of frame is due at the same quantum
  pub due_same : (i : ℕ) → due_next new i ≡ due_next old i
  due_same i = due_both (third i) i

  pub inside_third : (i : ℕ) → third i ≡ true → i < s.count
  inside_third i e = ltb-true i s.count (and_parts (nat_lt i s.count) (is_reached_next old i (rested old i)) e).0

  reached_third : (i : ℕ) → third i ≡ true → is_reached_next old i (rested old i) ≡ true
  reached_third i e = (and_parts (nat_lt i s.count) (is_reached_next old i (rested old i)) e).1

  unreached : (i : ℕ) → i < s.count → third i ≡ false → is_reached_next old i (rested old i) ≡ false
  unreached i inside e = false_from_ne_true (is_reached_next old i (rested old i)) (λ f. both_ways (third i) e (and_from (nat_lt i s.count) (is_reached_next old i (rested old i)) (lt-ltb i s.count inside) f))

  pub decides_later : (i : ℕ) → third i ≡ true → 0 < new.decides i
  decides_later i e = (let f : new.decides i ≡ suc (decides i) = ap (λ b. cond b (suc (decides i)) (decides i)) e in omega arith)

  place_third : (i : ℕ) → third i ≡ true → new.place i ≡ (expected_bits s o (end + 11)).place i
  place_third i e = ap (λ b. cond b ((expected_bits s o (end + 11)).place i) ((expected_bits s o (end + 12)).place i)) e

  place_other : (i : ℕ) → third i ≡ false → new.place i ≡ (expected_bits s o (end + 12)).place i
  place_other i e = ap (λ b. cond b ((expected_bits s o (end + 11)).place i) ((expected_bits s o (end + 12)).place i)) e

  -- it reaches a station in its third bit by the sample of that
  pub reached_new : (i : ℕ) → third i ≡ true → is_reached_next new i (rested new i + B i) ≡ true
  reached_new i e =
      let x = next.reached_by s (has_next old) (due_next old) i (rested old i) (reached_third i e) in
      let p = places i in
      let q = place_third i e in
      let same : rested new i + B i ≡ rested old i = omega arith in
      let due = ap (steady_tick (s.clocks x.by)) (due_same x.by) in
      let reach = x.reach in
      subst (λ k. is_reached_next new i k ≡ true) (sym same)
      (next.reached_from s (has_next new) (due_next new) i (rested old i) x.by (more.inside x.by x.has_one) x.has_one x.other (omega arith))

  idle_by : (i k : ℕ) → i < s.count → i ≢ k → has_next new k ≡ true → (b : Bool) → third i ≡ b
      → steady_tick (s.clocks i) (rested new i) < steady_tick (s.clocks k) (due_next new k) + s.delay k i
  idle_by i k inside apart has true e =
      (let there = more.inside k has in
      let p : steady_tick (s.clocks i) (rested new i) ≡ steady_tick (s.clocks i) (expected_sample s o (end + 11) i) = ap (λ q. steady_tick (s.clocks i) (q + S i)) (place_third i e) in
      let first = second i k inside there in
      let later : (expected_bits s o (end + 12)).place k + B k ≤ due_next old k = (let f : suc (decides k) * B k ≡ B k + decides k * B k = omega arith in omega arith) in
      let up = tick_next s are k there ((expected_bits s o (end + 12)).place k + B k) (due_next old k) later in
      let due = ap (steady_tick (s.clocks k)) (due_same k) in
      omega arith)
  idle_by i k inside apart has false e =
      (let p : steady_tick (s.clocks i) (rested new i) ≡ steady_tick (s.clocks i) (rested old i) = ap (λ q. steady_tick (s.clocks i) (q + S i)) (place_other i e) in
      let free = next.unreached s (has_next old) (due_next old) i (rested old i) k (more.inside k has) (unreached i inside e) has (λ f. apart (sym f)) in
      let due = ap (steady_tick (s.clocks k)) (due_same k) in
      omega arith)

  pub all_rest : AreResting new
  all_rest = record {
    frames = sound;
    inside = more.inside;
    may = more.may;
    some = more.some;
    idle = λ i k inside apart has. idle_by i k inside apart has (third i) refl;
  }
