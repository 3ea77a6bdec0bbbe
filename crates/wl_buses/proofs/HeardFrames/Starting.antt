-- A frame begins at the others as without a station after the last that has none to send.
use Rattle.std.proofs.Common.{◌≡◌, ◌≢◌, ◌∙◌, inl, inr, refl, sym, ap, ℕ, suc, ◌+◌, ◌-◌, ◌*◌, ◌/◌, ◌<◌, ◌≤◌, ◌&&◌, ◌||◌, not, cond, Bool, true, false, Option, Some, None, [], ◌++◌, length, arith}
use Rattle.std.specs.Prelude.{◌==◌, nat_le, nat_lt}
use Rattle.std.proofs.lemmas.Bool.{and_from, cases_Bool, le-leb, lt-ltb, ne_eqb}
use Rattle.wl_level.proofs.Callers.{first_cong, first_found, first_is, first_none}
use Rattle.wl_segments.specs.Lengths.{bit_quanta, sample_at}
use Rattle.wl_topology.specs.Driven.{any_below}
use Rattle.wl_topology.proofs.Callers.{any_from, any_same}
use Rattle.wl_phase.specs.Clocks.{steady_tick}
use Rattle.wl_buses.specs.OneFrame.Stations.{AreStations, Stations}
use Rattle.wl_buses.specs.OneFrame.Expected.{Outset, expected_bits, found_before, is_reached, most, past_at}
use Rattle.wl_buses.specs.FirstFrame.FirstStarts.{Waiting, begins_first, decision_quantum, due_first, first_outset, first_start, hard_from, hard_place, has_first, silent_past}
use Rattle.wl_buses.specs.NextFrames.NextStarts.{Resting, begins_next, decision_next, due_next, has_next, last_next, outset_next, past_next, resting_after, start_next, waiting_past}
use Rattle.wl_buses.specs.OneListener.Beside.{with_listener}
use Rattle.wl_buses.proofs.BothProofs.Small.{ticks_up}
use Rattle.wl_buses.proofs.OneFrame.Lines.{no_or}
use Rattle.wl_buses.proofs.OneFrame.Settling.{most_from}
use Rattle.wl_buses.specs.HeardFrames.Joined.{on_line}
use Rattle.wl_buses.proofs.OneListener.Unchanged.{same_most}
use Rattle.wl_buses.proofs.HeardFrames.Alike.{AreAlike}

module _ (s : Stations) (delay way : ℕ → ℕ → ℕ) (same_delay : (i k : ℕ) → i < s.count → k < s.count → delay i k ≡ s.delay i k) (are : AreStations (with_listener (on_line s delay way))) where
  abbrev l : ℕ
  l = s.count

  abbrev a : Stations
  a = on_line s delay way

  abbrev x : Stations
  x = with_listener a

  abbrev tick : ℕ → ℕ → ℕ
  tick k q = steady_tick (s.clocks k) q

  -- who has a frame, when that is due, and when each decides
  module _ (has old_has : ℕ → Bool) (same_has : (k : ℕ) → k < s.count → has k ≡ old_has k) (none : has s.count ≡ false) (due old : ℕ → ℕ) (same_due : (k : ℕ) → k < s.count → due k ≡ old k)
      (decides old_decides : ℕ → ℕ) (same_decides : (k : ℕ) → k < s.count → decides k ≡ old_decides k) (some : (k : ℕ) × (k < s.count) × (old_has k ≡ true)) where
    abbrev by_x : ℕ → ℕ → ℕ → Bool
    by_x i q k = has k && (not (k == i) && nat_le (tick k (due k) + delay k i) (tick i q))

    abbrev by_s : ℕ → ℕ → ℕ → Bool
    by_s i q k = old_has k && (not (k == i) && nat_le (tick k (old k) + s.delay k i) (tick i q))

    others_same : (i q : ℕ) → i < s.count → any_below s.count (by_x i q) ≡ any_below s.count (by_s i q)
    others_same i q inside =
        any_same s.count (by_x i q) (by_s i q)
        (λ k there. ap (λ b. b && (not (k == i) && nat_le (tick k (due k) + delay k i) (tick i q))) (same_has k there)
        ∙ ap (λ n. old_has k && (not (k == i) && nat_le (tick k n + delay k i) (tick i q))) (same_due k there)
        ∙ ap (λ n. old_has k && (not (k == i) && nat_le (tick k (old k) + n) (tick i q))) (same_delay k i there inside))

    reached_is : (i q : ℕ) → i < s.count → is_reached x has due i q ≡ is_reached s old_has old i q
    reached_is i q inside =
        ap (λ b. any_below s.count (by_x i q) || b) (ap (λ b. b && (not (l == i) && nat_le (tick l (due l) + delay l i) (tick i q))) none)
        ∙ no_or (any_below s.count (by_x i q)) false refl ∙ others_same i q inside

    pub begins_is : (i : ℕ) → i < s.count → (has i && not (is_reached x has due i (decides i))) ≡ (old_has i && not (is_reached s old_has old i (old_decides i)))
    begins_is i inside =
        ap (λ b. b && not (is_reached x has due i (decides i))) (same_has i inside)
        ∙ ap (λ n. old_has i && not (is_reached x has due i n)) (same_decides i inside)
        ∙ ap (λ b. old_has i && not b) (reached_is i (old_decides i) inside)

    abbrev far_x : ℕ → ℕ
    far_x i = most x.count (λ k. tick k (due k) + delay k i)

    abbrev far_s : ℕ → ℕ
    far_s i = most s.count (λ k. tick k (old k) + s.delay k i)

    looks_up : (i : ℕ) → i < s.count → far_s i ≤ far_x i
    looks_up i inside =
        (let h = same_most s.count (λ k. tick k (due k) + delay k i) (λ k. tick k (old k) + s.delay k i) (λ k there. ap (λ n. tick k n + delay k i) (same_due k there) ∙ ap (λ n. tick k (old k) + n) (same_delay k i there inside)) in
        omega arith)

    found_other : (i w : ℕ) → i < s.count → w < s.count → w ≢ i → old_has w ≡ true → (r : Option ℕ) → found_before s old_has old i (suc (far_s i)) ≡ r → found_before x has due i (suc (far_x i)) ≡ r
    found_other i w inside there other own None f =
        let bound = most_from s.count (λ k. tick k (old k) + s.delay k i) w there in
        let up = ticks_up (s.clocks i) (are.line.steady i (omega arith)) (far_s i) in
        let here : is_reached s old_has old i (far_s i) ≡ true =
        any_from s.count w (by_s i (far_s i)) there
        (and_from (old_has w) (not (w == i) && nat_le (tick w (old w) + s.delay w i) (tick i (far_s i))) own
        (and_from (not (w == i)) (nat_le (tick w (old w) + s.delay w i) (tick i (far_s i))) (ap not (ne_eqb w i other)) (le-leb (tick w (old w) + s.delay w i) (tick i (far_s i)) (omega arith)))) in
        let no = first_none (is_reached s old_has old i) (suc (far_s i)) f (far_s i) (omega arith) in
        cc
    found_other i w inside there other own (Some q) f =
        let y = first_is (is_reached s old_has old i) (suc (far_s i)) q f in
        let less = looks_up i inside in
        first_found (is_reached x has due i) (suc (far_x i)) q
        (record {
          inside = (let h = y.inside in omega arith);
          passes = reached_is i q inside ∙ y.passes;
          none_before = λ j below. reached_is i j inside ∙ y.none_before j below;
        })

    abbrev looks_x : ℕ → ℕ
    looks_x i = cond (has i) (due i) (far_x i)

    abbrev looks_s : ℕ → ℕ
    looks_s i = cond (old_has i) (old i) (far_s i)

    pub found_is : (i : ℕ) → i < s.count → found_before x has due i (suc (looks_x i)) ≡ found_before s old_has old i (suc (looks_s i))
    found_is i inside = elim (cases_Bool (old_has i)) [
      | inl own ↦
          ap (λ c. found_before x has due i (suc (cond c (due i) (far_x i)))) (same_has i inside ∙ own)
          ∙ ap (λ n. found_before x has due i (suc n)) (same_due i inside)
          ∙ first_cong (is_reached x has due i) (is_reached s old_has old i) (suc (old i)) (λ q less. reached_is i q inside)
          ∙ sym (ap (λ c. found_before s old_has old i (suc (cond c (old i) (far_s i)))) own)
      | inr not_own ↦
          (let other : some.0 ≢ i = (λ f. (let g : old_has some.0 ≡ old_has i = ap old_has f in let h = some.2 in cc)) in
          ap (λ c. found_before x has due i (suc (cond c (due i) (far_x i)))) (same_has i inside ∙ not_own)
          ∙ found_other i some.0 inside some.1 other some.2 (found_before s old_has old i (suc (far_s i))) refl
          ∙ sym (ap (λ c. found_before s old_has old i (suc (cond c (old i) (far_s i)))) not_own))
    ]

    pub place_is : (i : ℕ) → i < s.count → hard_place (due i) (found_before x has due i (suc (looks_x i))) ≡ hard_place (old i) (found_before s old_has old i (suc (looks_s i)))
    place_is i inside = ap (hard_place (due i)) (found_is i inside) ∙ ap (λ n. hard_place n (found_before s old_has old i (suc (looks_s i)))) (same_due i inside)

    pub from_is : (i : ℕ) → i < s.count → hard_from (due i) (found_before x has due i (suc (looks_x i))) ≡ hard_from (old i) (found_before s old_has old i (suc (looks_s i)))
    from_is i inside = ap (hard_from (due i)) (found_is i inside) ∙ ap (λ n. hard_from n (found_before s old_has old i (suc (looks_s i)))) (same_due i inside)

  -- the first frame, from the power-up on
  module _ (w : Waiting) (none : has_first w s.count ≡ false) (some : (k : ℕ) × (k < s.count) × (has_first w k ≡ true)) where
    abbrev u : Waiting
    u = record w { stations = x }

    abbrev v : Waiting
    v = record w { stations = s }

    begins_alike : (k : ℕ) → k < s.count → begins_first u k ≡ begins_first v k
    begins_alike = begins_is (has_first u) (has_first v) (λ k there. refl) none (due_first u) (due_first v) (λ k there. refl) (decision_quantum u) (decision_quantum v) (λ k there. refl) some

    from_alike : (k : ℕ) → k < s.count → (first_start u).from k ≡ (first_start v).from k
    from_alike = from_is (has_first u) (has_first v) (λ k there. refl) none (due_first u) (due_first v) (λ k there. refl) (decision_quantum u) (decision_quantum v) (λ k there. refl) some

    place_alike : (k : ℕ) → k < s.count → (first_start u).place k ≡ (first_start v).place k
    place_alike = place_is (has_first u) (has_first v) (λ k there. refl) none (due_first u) (due_first v) (λ k there. refl) (decision_quantum u) (decision_quantum v) (λ k there. refl) some

    last_by : Bool → ℕ → ℕ → ℕ
    last_by c n k = cond c (w.decides k) ((n - suc (sample_at (s.lengths k))) / bit_quanta (s.lengths k))

    pub first_alike : AreAlike s.count (first_outset u) (first_outset v)
    unfolding last_by
    first_alike = record {
      frames = refl;
      handed = refl;
      past = λ k there.
          ap (λ c. silent_past c (w.frames k) (w.which k) (last_by c ((first_start u).from k) k)) (begins_alike k there)
          ∙ ap (λ n. silent_past (begins_first v k) (w.frames k) (w.which k) (last_by (begins_first v k) n k)) (from_alike k there);
      drives = begins_alike;
      place = place_alike;
      from = from_alike;
    }

  -- and one after another
  module _ (p o : Outset) (end : ℕ) (which decides : ℕ → ℕ) (same_frames : p.frames ≡ o.frames) (same_place : (k : ℕ) → k < s.count → (expected_bits x p (end + 12)).place k ≡ (expected_bits s o (end + 12)).place k)
      (same_past : (k : ℕ) → k < s.count → past_at x p (end + 12) k ≡ past_at s o (end + 12) k) (none : nat_lt (which s.count) (length (o.frames s.count)) ≡ false)
      (some : (k : ℕ) × (k < s.count) × (nat_lt (which k) (length (o.frames k)) ≡ true)) where
    abbrev rx : Resting
    rx = resting_after x p end which decides

    abbrev rs : Resting
    rs = resting_after s o end which decides

    has_alike : (k : ℕ) → has_next rx k ≡ has_next rs k
    has_alike k = ap (λ f. nat_lt (which k) (length (f k))) same_frames

    due_alike : (k : ℕ) → k < s.count → due_next rx k ≡ due_next rs k
    due_alike k there = ap (λ n. n + suc (decides k) * bit_quanta (s.lengths k)) (same_place k there)

    decides_alike : (k : ℕ) → k < s.count → decision_next rx k ≡ decision_next rs k
    decides_alike k there = ap (λ n. n + decides k * bit_quanta (s.lengths k) + sample_at (s.lengths k)) (same_place k there)

    next_begins : (k : ℕ) → k < s.count → begins_next rx k ≡ begins_next rs k
    next_begins = begins_is (has_next rx) (has_next rs) (λ k there. has_alike k) (has_alike l ∙ none) (due_next rx) (due_next rs) due_alike (decision_next rx) (decision_next rs) decides_alike some

    next_from : (k : ℕ) → k < s.count → (start_next rx).from k ≡ (start_next rs).from k
    next_from = from_is (has_next rx) (has_next rs) (λ k there. has_alike k) (has_alike l ∙ none) (due_next rx) (due_next rs) due_alike (decision_next rx) (decision_next rs) decides_alike some

    next_place : (k : ℕ) → k < s.count → (start_next rx).place k ≡ (start_next rs).place k
    next_place = place_is (has_next rx) (has_next rs) (λ k there. has_alike k) (has_alike l ∙ none) (due_next rx) (due_next rs) due_alike (decision_next rx) (decision_next rs) decides_alike some

    last_at : Bool → ℕ → ℕ → ℕ → ℕ
    last_at c from place k = cond c (decides k) ((from - suc (place + sample_at (s.lengths k))) / bit_quanta (s.lengths k))

    waits_alike : (k : ℕ) → k < s.count → past_next rx (past_at x p (end + 12)) k ≡ past_next rs (past_at s o (end + 12)) k
    unfolding last_at
    waits_alike k there =
        ap (λ q. q ++ waiting_past (begins_next rx k) (p.frames k) (which k) (last_next rx k)) (same_past k there)
        ∙ ap (λ c. past_at s o (end + 12) k ++ waiting_past c (p.frames k) (which k) (last_at c ((start_next rx).from k) ((expected_bits x p (end + 12)).place k) k)) (next_begins k there)
        ∙ ap (λ n. past_at s o (end + 12) k ++ waiting_past (begins_next rs k) (p.frames k) (which k) (last_at (begins_next rs k) n ((expected_bits x p (end + 12)).place k) k)) (next_from k there)
        ∙ ap (λ n. past_at s o (end + 12) k ++ waiting_past (begins_next rs k) (p.frames k) (which k) (last_at (begins_next rs k) ((start_next rs).from k) n k)) (same_place k there)
        ∙ ap (λ f. past_at s o (end + 12) k ++ waiting_past (begins_next rs k) (f k) (which k) (last_next rs k)) same_frames

    pub next_alike : AreAlike s.count (outset_next rx (past_at x p (end + 12))) (outset_next rs (past_at s o (end + 12)))
    next_alike = record {
      frames = same_frames;
      handed = refl;
      past = λ k there.
          ap (λ c. cond c (past_next rx (past_at x p (end + 12)) k) []) (lt-ltb k (suc s.count) (omega arith)) ∙ waits_alike k there
          ∙ sym (ap (λ c. cond c (past_next rs (past_at s o (end + 12)) k) []) (lt-ltb k s.count there));
      drives = next_begins;
      place = next_place;
      from = next_from;
    }
