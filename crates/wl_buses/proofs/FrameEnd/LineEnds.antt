-- The nodes of a line go to the end of a frame as is expected, if all begin it so.
use Rattle.std.proofs.Common.{◌≡◌, ◌∙◌, ◌⊎◌, inl, inr, refl, sym, ap, ℕ, zero, suc, ◌+◌, ◌-◌, ◌*◌, ◌<◌, ◌≤◌, ◌&&◌, not, Bool, false, [], ◌∷◌, ◌++◌, Some, None, arith}
use Rattle.std.specs.Prelude.{◌==◌}
use Rattle.std.proofs.lemmas.Bool.{cases_eq, cases_lt, ne_eqb}
use Rattle.wl_level.specs.declared.Level.{Level}
use Rattle.wl_level.specs.declared.Level.TheVariants.{Recessive}
use Rattle.wl_level.specs.Levels.{is_dominant, level_of}
use Rattle.wl_confine.specs.Counts.{counts_of}
use Rattle.wl_sync.specs.Bits.{beat_of}
use Rattle.wl_sync.specs.Running.{clock_after}
use Rattle.wl_topology.specs.Driven.{driven}
use Rattle.wl_machine.specs.Frames.{stuffed_end}
use Rattle.wl_machine.specs.Judged.{stretch_of}
use Rattle.wl_node.specs.declared.setup.NodeSetup.{NodeSetup}
use Rattle.wl_node.specs.History.{History, staying_history, seen_next}
use Rattle.wl_phase.specs.Clocks.{instant, steady_tick}
use Rattle.wl_phase.proofs.Callers.{floor_high, floor_low}
use Rattle.std.proofs.Math.Nat.{lt_of_mul-lt-mul_left}
use Rattle.wl_phase.specs.InStep.{seen_before}
use Rattle.wl_plan.specs.Line.{Line}
use Rattle.wl_plan.specs.Simulation.{level, seen}
use Rattle.wl_plan.specs.Sound.{IsCausal}
use Rattle.wl_buses.specs.BothProofs.Expected.{IsExpected, levels_found}
use Rattle.wl_buses.specs.BothProofs.Levels.{levels_before}
use Rattle.wl_buses.specs.OneFrame.Stations.{AreStations, HaveRoom, HaveRoomToSample, Stations}
use Rattle.wl_buses.specs.OneFrame.Starts.{Start}
use Rattle.wl_buses.specs.OneFrame.Clocked.{BitIs}
use Rattle.wl_buses.specs.OneFrame.Course.{bus_bit}
use Rattle.wl_sync.specs.declared.Beat.TheVariants.{Plain}
use Rattle.wl_buses.specs.OneFrame.Machines.{HasWon, bus_levels}
use Rattle.wl_buses.specs.OneFrame.Acknowledged.{CatchUp, answering, chased_way}
use Rattle.wl_buses.specs.OneFrame.Expected.{IsOutset, Outset, expected_bits, expected_drove, expected_sample, wants}
use Rattle.wl_buses.specs.OneFrame.Nodes.{GoesToNext, IsInBit, IsRun, clock_sees}
use Rattle.wl_buses.specs.OneFrame.Lines.{BeginsAsExpected, IsBeforeEnd, IsLineOf, finds_expected, node_after}
use Rattle.wl_buses.proofs.OneFrame.Expecting.{after_there, driven_at, from_all, from_sample, none_driven}
use Rattle.wl_buses.proofs.OneFrame.Nodes.{drive_by, seen_before_same}
use Rattle.wl_buses.proofs.OneFrame.Lines.{finds_what_comes, run_of}
use Rattle.wl_buses.proofs.OneFrame.Machines.{level_back}
use Rattle.wl_buses.proofs.OneFrame.Measures.{tick_next}
use Rattle.wl_buses.specs.FrameEnd.Asked.{EndAsAsked}
use Rattle.wl_buses.specs.FrameEnd.Rests.{NodeEnds}
use Rattle.wl_buses.specs.FrameEnd.Lines.{LineEnds, LineRests, finds_end, earliest_of, next_due, rests_until}
use Rattle.wl_buses.proofs.FrameEnd.Asked.{as_asked}
use Rattle.wl_buses.proofs.FrameEnd.Below.{ClockLaws, MachineLaws}
use Rattle.wl_buses.proofs.FrameEnd.Finding.{finds_the_end}
use Rattle.wl_buses.proofs.FrameEnd.Hearing as hearing
use Rattle.wl_buses.proofs.FrameEnd.NodeEnds.{node_ends}
use Rattle.wl_buses.proofs.FrameEnd.Slot as slot

-- the law on one bit of the stuffed part
abbrev pub GoesOn : Type 0
GoesOn = (s : Stations) (o : Outset) (length i : ℕ) (setup : NodeSetup) (levels : ℕ → Level) (node : ℕ → History) → AreStations s → HaveRoom s → IsOutset s o
    → ((n : ℕ) → n < length → stuffed_end (bus_levels s (expected_bits s o) n) ≡ None) → i < s.count → setup.segments ≡ s.lengths i → IsRun setup levels node → (n : ℕ) → suc n < length
    → ((q : ℕ) → expected_sample s o n i < q → q ≤ expected_sample s o (suc n) i → levels q ≡ level_of (driven s.count s.delay (expected_drove s o length) i (steady_tick (s.clocks i) q)))
    → IsInBit s o i levels node n → GoesToNext s o i levels node n

-- what is expected is driven
abbrev pub DriveExpected : Type 0
DriveExpected = (l : Line) (until : ℕ → ℕ) (drove : ℕ → ℕ → Bool) → IsCausal l → IsExpected l until drove → (i t : ℕ) → i < l.nodes → t < until i → level l i t ≡ drove i t

abbrev pub FindLevels : Type 0
FindLevels = (l : Line) (until : ℕ → ℕ) (drove : ℕ → ℕ → Bool) → IsCausal l → IsExpected l until drove → (i k : ℕ) → i < l.nodes → ((j : ℕ) → j < k → l.instant i j < until i)
    → seen l i k ≡ levels_before (levels_found l drove i) k

pub levels_agree : (a b : ℕ → Level) (k : ℕ) → ((j : ℕ) → suc j ≤ k → a j ≡ b j) → levels_before a k ≡ levels_before b k
levels_agree a b zero h = refl
levels_agree a b (suc k) h = ap (λ v. v ++ a k ∷ []) (levels_agree a b k (λ j less. h j (omega arith))) ∙ ap (λ x. levels_before b k ++ x ∷ []) (h k (omega arith))

-- the least of some numbers
least_own : (n : ℕ) (f : ℕ → ℕ) (own : ℕ) → earliest_of n f own ≤ own
least_own zero f own = omega arith
least_own (suc n) f own = (let e = least_own n f own in omega arith)

least_other : (n : ℕ) (f : ℕ → ℕ) (own k : ℕ) → k < n → earliest_of n f own ≤ f k
least_other zero f own k less = absurd (omega arith)
least_other (suc n) f own k less = elim (cases_lt k n) [
  | inl below ↦ (let e = least_other n f own k below in omega arith)
  | inr last ↦ (let same : n ≡ k = omega arith in let e : f n ≡ f k = ap f same in omega arith)
]

least_above : (n : ℕ) (f : ℕ → ℕ) (own x : ℕ) → x < own → ((k : ℕ) → k < n → x < f k) → x < earliest_of n f own
least_above zero f own x first h = first
least_above (suc n) f own x first h = (let e = least_above n f own x first (λ k less. h k (omega arith)) in let last = h n (omega arith) in omega arith)

least_is : (n : ℕ) (f : ℕ → ℕ) (own : ℕ) → (earliest_of n f own ≡ own) ⊎ ((k : ℕ) × (k < n) × (earliest_of n f own ≡ f k))
least_is zero f own = inl refl
least_is (suc n) f own = elim (cases_lt (f n) (earliest_of n f own)) [
  | inl less ↦ inr (n, omega arith, omega arith)
  | inr more ↦ elim (least_is n f own) [
    | inl e ↦ inl (omega arith)
    | inr x ↦ inr (x.0, (let h = x.1 in omega arith), (let e = x.2 in omega arith))
  ]
]

module _ (m : MachineLaws) (clocks : ClockLaws) (goes_on : GoesOn) (l : Line) (setups : ℕ → NodeSetup) (s : Stations) (line : IsLineOf l setups s) (are : AreStations s) (room : HaveRoom s)
    (o : Outset) (is : IsOutset s o) (end : ℕ) (valid : (n : ℕ) → n < end → stuffed_end (bus_levels s (expected_bits s o) n) ≡ None)
    (over : stuffed_end (bus_levels s (expected_bits s o) end) ≡ Some end) (won : HasWon s (expected_bits s o) o.frames end)
    (chase : ℕ → ℕ) (catch : CatchUp s won.station chase) (enough : HaveRoomToSample (answering s (chased_way s won.station chase)))
    (begin : (i : ℕ) → i < s.count → BeginsAsExpected l setups s o end i) where
  abbrev bits : ℕ → Start
  bits = expected_bits s o

  abbrev drove : ℕ → ℕ → Bool
  drove = expected_drove s o (end + 13)

  abbrev tick : ℕ → ℕ → ℕ
  tick k q = steady_tick (s.clocks k) q

  abbrev S : ℕ → ℕ → ℕ
  S n i = expected_sample s o n i

  abbrev from : ℕ → ℕ → ℕ
  from n i = (bits n).from i

  abbrev levels : ℕ → ℕ → Level
  levels i = finds_end l s o end i

  abbrev node : ℕ → ℕ → History
  node i = node_after (setups i) (levels i)

  abbrev was : ℕ → ℕ → Level
  was i = finds_expected l s o end i

  abbrev old : ℕ → ℕ → History
  old i = node_after (setups i) (was i)

  finds : (i q : ℕ) → i < s.count → levels i q ≡ level_of (driven s.count s.delay drove i (tick i q))
  finds i q inside = finds_what_comes l setups s line o (end + 13) i q inside

  segments : (i : ℕ) → i < s.count → (setups i).segments ≡ s.lengths i
  segments i inside = line.segments i (let e = line.nodes in omega arith)

  asked : EndAsAsked s o end won.station won.frame
  asked = as_asked m s are room o is end valid over won

  abbrev z : ℕ
  z = hearing.z m s are room o is end valid over won chase catch enough

  z_is : suc z ≡ end
  z_is = hearing.z_is m s are room o is end valid over won chase catch enough

  samples_up : (a n i : ℕ) → a ≤ n → i < s.count → S a i ≤ S n i
  samples_up a n i less inside = hearing.samples_up m s are room o is end valid over won chase catch enough a n i inside less

  -- up to the sample of the CRC delimiter a node finds the same
  same_finds : (i q : ℕ) → i < s.count → q ≤ S end i → levels i q ≡ level_of (driven s.count s.delay (expected_drove s o end) i (tick i q))
  same_finds i q inside by_end = finds i q inside ∙ ap level_of (hearing.found_was m s are room o is end valid over won chase catch enough i q inside by_end)

  same_levels : (i q : ℕ) → i < s.count → q ≤ S end i → levels i q ≡ was i q
  same_levels i q inside by_end = same_finds i q inside by_end ∙ sym (finds_what_comes l setups s line o end i q inside)

  same_node : (i q : ℕ) → i < s.count → q ≤ suc (S end i) → node i q ≡ old i q
  same_node i q inside by_end = ap (staying_history (setups i)) (levels_agree (levels i) (was i) q (λ j less. same_levels i j inside (omega arith)))

  same_seen : (i q : ℕ) → i < s.count → q ≤ S end i → clock_sees (levels i) (node i) q ≡ clock_sees (was i) (old i) q
  same_seen i q inside by_end = ap (λ h. seen_next h (levels i q)) (same_node i q inside (omega arith)) ∙ ap (seen_next (old i q)) (same_levels i q inside by_end)

  first_bit : (i : ℕ) → i < s.count → IsInBit s o i (levels i) (node i) 0
  first_bit i inside =
      let b = (begin i inside).bit in
      let up = samples_up 0 end i (omega arith) inside in
      let last = same_node i (suc (S 0 i)) inside (omega arith) in
      record {
        clock = record {
          sampled =
              ap (λ v. beat_of (s.lengths i) v (clock_sees (levels i) (node i) (S 0 i)))
              (seen_before_same (clock_sees (levels i) (node i)) (clock_sees (was i) (old i)) (S 0 i) (λ j less. same_seen i j inside (omega arith)))
              ∙ ap (beat_of (s.lengths i) (seen_before (clock_sees (was i) (old i)) (S 0 i))) (same_seen i (S 0 i) inside up) ∙ b.clock.sampled;
          steady = λ e. ap (clock_after (s.lengths i)) (seen_before_same (clock_sees (levels i) (node i)) (clock_sees (was i) (old i)) (suc (S 0 i)) (λ j less. same_seen i j inside (omega arith))) ∙ b.clock.steady e;
        };
        stretch = ap (λ h. stretch_of h.inputs) last ∙ b.stretch;
        counts = ap (λ h. counts_of h.happened) last ∙ b.counts;
        drive = ap (λ h. h.drive) last ∙ b.drive;
      }

  -- the stuffed part
  early_at : (i n : ℕ) → i < s.count → n < end → IsInBit s o i (levels i) (node i) n
  early_at i zero inside less = first_bit i inside
  early_at i (suc n) inside less =
      (goes_on s o end i (setups i) (levels i) (node i) are room is valid inside (segments i inside) (run_of (setups i) (levels i)) n less
      (λ q a b. (let up = samples_up (suc n) end i (omega arith) inside in same_finds i q inside (omega arith))) (early_at i n inside (omega arith))).bit

  early_next : (i n : ℕ) → i < s.count → suc n < end → GoesToNext s o i (levels i) (node i) n
  early_next i n inside less =
      goes_on s o end i (setups i) (levels i) (node i) are room is valid inside (segments i inside) (run_of (setups i) (levels i)) n less
      (λ q a b. (let up = samples_up (suc n) end i (omega arith) inside in same_finds i q inside (omega arith))) (early_at i n inside (omega arith))

  -- and the end
  ends_at : (i : ℕ) → i < s.count → NodeEnds s o end won.station i won.frame (setups i) (levels i) (node i)
  ends_at i inside =
      node_ends m s are room o is end valid over won clocks i inside (finds_the_end m s are room o is end valid over won chase catch enough i inside) (setups i) (segments i inside) (levels i) (node i) (run_of (setups i) (levels i)) 12 (omega arith) (λ n q e a b. finds i q inside)
      (λ n e. early_at i n inside (omega arith)) (omega arith) (omega arith)

  next_at : (i n : ℕ) → i < s.count → suc n < end + 12 → GoesToNext s o i (levels i) (node i) n
  next_at i n inside less = elim (cases_lt (suc n) end) [
    | inl early ↦ early_next i n inside early
    | inr late ↦ (ends_at i inside).next (suc n - end) n (omega arith) (omega arith)
  ]

  bit_at : (i n : ℕ) → i < s.count → n < end + 12 → IsInBit s o i (levels i) (node i) n
  bit_at i zero inside less = first_bit i inside
  bit_at i (suc n) inside less = (next_at i n inside less).bit

  -- what is wanted after the slot
  none_wanted : (i n : ℕ) → i < s.count → end + 2 ≤ n → n ≤ end + 12 → wants s o n i ≡ false
  none_wanted i n inside low high =
      let e : end + (n - end) ≡ n = omega arith in
      ap (λ k. wants s o k i) (sym e) ∙ asked.drives (n - end) i (omega arith) inside
      ∙ ap (λ b. b && not (i == won.station)) (ne_eqb (n - end) 1 (λ f. omega (arith, f)))

  -- what a node drives between two samples
  record Step (i n : ℕ) : Type 0 where
    before : (q : ℕ) → S n i < q → q ≤ from (suc n) i → (node i q).drive ≡ level_of (wants s o n i)
    after : (q : ℕ) → from (suc n) i < q → q ≤ suc (S (suc n) i) → (node i q).drive ≡ level_of (wants s o (suc n) i)

  after_bit : (n i : ℕ) → n < end + 12 → i < s.count → S n i < from (suc n) i
  after_bit n i less inside = elim (cases_lt n end) [
    | inl early ↦ after_there m.steps m.errors m.winner m.stuffed m.six m.ten s are room o is end valid n i early inside
    | inr late ↦ hearing.begins_after m s are room o is end valid over won chase catch enough (suc n - end) n i (omega arith) (omega arith) inside
  ]

  sample_from : (n i : ℕ) → i < s.count → from n i ≤ S n i
  sample_from n i inside = from_sample m.steps m.errors m.winner m.stuffed m.six m.ten s are room o is end valid n i inside

  step_at : (i n : ℕ) → i < s.count → n < end + 12 → Step i n
  step_at i n inside less = elim (cases_lt (suc n) (end + 12)) [
    | inl more ↦ (let x = next_at i n inside more in record { before = x.before; after = x.after })
    | inr end_of ↦
        (let rests = (ends_at i inside).rests in
        let e : n ≡ end + 11 = omega arith in
        let low : S n i ≡ S (end + 11) i = ap (λ k. S k i) e in
        let high : S (suc n) i ≡ S (end + 12) i = ap (λ k. S k i) (let f : suc n ≡ end + 12 = omega arith in f) in
        let from_high = sample_from (suc n) i inside in
        let from_low = after_bit n i less inside in
        record {
          before = λ q a b. rests.drive q (omega arith) (omega arith) ∙ ap level_of (sym (none_wanted i n inside (omega arith) (omega arith)));
          after = λ q a b. rests.drive q (omega arith) (omega arith) ∙ ap level_of (sym (none_wanted i (suc n) inside (omega arith) (omega arith)));
        })
  ]

  drive_after : (i n q : ℕ) → i < s.count → n < end + 13 → from n i < q → q ≤ suc (S n i) → (node i q).drive ≡ level_of (wants s o n i)
  drive_after i zero q inside less low high =
      (let up = samples_up 0 end i (omega arith) inside in ap (λ h. h.drive) (same_node i q inside (omega arith)) ∙ (begin i inside).after q low high)
  drive_after i (suc n) q inside less low high = (step_at i n inside (omega arith)).after q low high

  drive_bit : (i n q : ℕ) → i < s.count → suc n < end + 13 → from n i < q → q ≤ from (suc n) i → (node i q).drive ≡ level_of (wants s o n i)
  drive_bit i n q inside next low high = elim (cases_lt (S n i) q) [
    | inl more ↦ (step_at i n inside (omega arith)).before q more high
    | inr few ↦ drive_after i n q inside (omega arith) low (omega arith)
  ]

  -- a quantum lies in one of the bits, or before them
  record InBit (i k : ℕ) : Type 0 where
    bit : ℕ
    inside_bits : bit < end + 13
    from_low : from bit i ≤ k
    from_high : bit < end + 12 → k < from (suc bit) i
    driven_as : is_dominant (node i (suc k)).drive ≡ wants s o bit i

  in_bit : (i k n : ℕ) → i < s.count → n < end + 13 → from 0 i ≤ k → k ≤ S n i → InBit i k
  in_bit i k zero inside less low high = record {
    bit = 0;
    inside_bits = less;
    from_low = low;
    from_high = λ more. (let after = after_bit 0 i more inside in omega arith);
    driven_as = ap is_dominant (drive_after i 0 (suc k) inside less (omega arith) (omega arith)) ∙ level_back (wants s o 0 i);
  }
  in_bit i k (suc n) inside less low high = elim (cases_lt k (from (suc n) i)) [
    | inl before ↦ elim (cases_lt (S n i) k) [
      | inl more ↦ (let fs = sample_from n i inside in
          record {
            bit = n;
            inside_bits = omega arith;
            from_low = omega arith;
            from_high = λ more_bits. before;
            driven_as = ap is_dominant (drive_bit i n (suc k) inside less (omega arith) before) ∙ level_back (wants s o n i);
          })
      | inr few ↦ in_bit i k n inside (omega arith) low few
    ]
    | inr upto ↦ record {
      bit = suc n;
      inside_bits = less;
      from_low = upto;
      from_high = λ more. (let after = after_bit (suc n) i more inside in omega arith);
      driven_as = ap is_dominant (drive_after i (suc n) (suc k) inside less (omega arith) (omega arith)) ∙ level_back (wants s o (suc n) i);
    }
  ]

  -- what is expected there
  slot_from : (i : ℕ) → i < s.count → tick i (from end i) ≤ tick i (from (suc end) i)
  slot_from i inside =
      let first = slot.slot_after_delimiter m s are room o is end valid over won chase catch enough i inside in
      let same : tick i (from end i) ≡ tick i ((bits end).place i) = ap (tick i) (slot.delimiter_from m s are room o is end valid over won i) in
      omega arith

  early_drove : (n i t : ℕ) → n < end → i < s.count → tick i (from n i) ≤ t → t < tick i (from (suc n) i) → drove i t ≡ wants s o n i
  early_drove n i t less inside low high =
      let up = from_all m.steps m.errors m.winner m.stuffed m.six m.ten s are room o is end valid (suc n) end i (omega arith) (omega arith) inside in
      let after = slot_from i inside in
      slot.drove_before m s are room o is end valid over won chase catch enough i t inside (omega arith)
      ∙ driven_at m.steps m.errors m.winner m.stuffed m.six m.ten s are room o is end valid n i t less inside low high

  late_from : (n i : ℕ) → i < s.count → suc (suc end) ≤ n → n < end + 13 → tick i (from (suc (suc end)) i) ≤ tick i (from n i)
  late_from n i inside low high = elim (cases_eq n (suc (suc end))) [
    | inl same ↦ (let e : tick i (from n i) ≡ tick i (from (suc (suc end)) i) = ap (λ k. tick i (from k i)) same in omega arith)
    | inr other ↦
        (let up = samples_up (suc (suc end)) (n - 1) i (omega (arith, other)) inside in
        let one = sample_from (suc (suc end)) i inside in
        let two = after_bit (n - 1) i (omega arith) inside in
        let e : suc (n - 1) ≡ n = omega arith in
        let f : from (suc (n - 1)) i ≡ from n i = ap (λ k. from k i) e in
        tick_next s are i inside (from (suc (suc end)) i) (from n i) (omega arith))
  ]

  drove_at : (n i t : ℕ) → n < end + 13 → i < s.count → tick i (from n i) ≤ t → (n < end + 12 → t < tick i (from (suc n) i)) → drove i t ≡ wants s o n i
  drove_at n i t less inside low high = elim (cases_lt n end) [
    | inl early ↦ early_drove n i t early inside low (high (omega arith))
    | inr late ↦ elim (cases_eq n end) [
      | inl same ↦
          (let a : tick i (from n i) ≡ tick i ((bits end).place i) = ap (λ k. tick i (from k i)) same ∙ ap (tick i) (slot.delimiter_from m s are room o is end valid over won i) in
          let b : tick i (from (suc n) i) ≡ tick i (from (suc end) i) = ap (λ k. tick i (from (suc k) i)) same in
          let before = high (omega arith) in
          slot.drove_before m s are room o is end valid over won chase catch enough i t inside (omega arith)
          ∙ slot.was_quiet m s are room o is end valid over won chase catch enough i t inside (omega arith)
          ∙ sym (ap (λ k. wants s o k i) same ∙ hearing.delimiter_wants m s are room o is end valid over won chase catch enough i inside))
      | inr other ↦ elim (cases_eq n (suc end)) [
        | inl second ↦
            (let a : tick i (from n i) ≡ tick i (from (suc end) i) = ap (λ k. tick i (from k i)) second in
            let b : tick i (from (suc n) i) ≡ tick i (from (suc (suc end)) i) = ap (λ k. tick i (from (suc k) i)) second in
            let before = high (omega arith) in
            slot.drove_slot m s are room o is end valid over won chase catch enough i t inside (omega arith) (omega arith) ∙ sym (ap (λ k. wants s o k i) second))
        | inr more ↦
            (let up = late_from n i inside (omega (arith, other, more)) less in
            let first = slot.slot_up m s are room o is end valid over won chase catch enough i inside in
            slot.drove_after m s are room o is end valid over won chase catch enough i t inside (omega arith) (omega arith)
            ∙ sym (none_wanted i n inside (omega (arith, other, more)) (omega arith)))
      ]
    ]
  ]

  quiet_first : (i t : ℕ) → i < s.count → t < tick i (from 0 i) → drove i t ≡ false
  quiet_first i t inside less =
      let up = from_all m.steps m.errors m.winner m.stuffed m.six m.ten s are room o is end valid 0 end i (omega arith) (omega arith) inside in
      let after = slot_from i inside in
      slot.drove_before m s are room o is end valid over won chase catch enough i t inside (omega arith)
      ∙ none_driven m.steps m.errors m.winner m.stuffed m.six m.ten s are room o is end valid i t
      (λ n in_end dominant from_n to_n. (let high = from_all m.steps m.errors m.winner m.stuffed m.six m.ten s are room o is end valid 0 n i (omega arith) (omega arith) inside in absurd (omega arith)))

  drives_there : (i k t : ℕ) → i < s.count → k ≤ S (end + 12) i → tick i k ≤ t → t < tick i (suc k) → drove i t ≡ is_dominant (node i (suc k)).drive
  drives_there i k t inside few low high = elim (cases_lt k (from 0 i)) [
    | inl early ↦
        (let next = tick_next s are i inside (suc k) (from 0 i) early in
        let one = sample_from 0 i inside in
        let up = samples_up 0 end i (omega arith) inside in
        quiet_first i t inside (omega arith)
        ∙ sym (ap is_dominant (ap (λ h. h.drive) (same_node i (suc k) inside (omega arith)) ∙ (begin i inside).before (suc k) early)))
    | inr upto ↦
        (let b = in_bit i k (end + 12) inside (omega arith) upto few in
        let bl = b.from_low in
        let one = tick_next s are i inside (from b.bit i) k bl in
        drove_at b.bit i t b.inside_bits inside (omega arith) (λ more. (let two = tick_next s are i inside (suc k) (from (suc b.bit) i) (b.from_high more) in omega arith))
        ∙ sym b.driven_as)
  ]

  is_expected : (stop : ℕ) → IsBeforeEnd l s o (end + 13) stop → IsExpected l (λ i. stop) drove
  is_expected stop before = record {
    near = λ i j ni nj. omega arith;
    inside = λ i ni. before.inside;
    before = λ i t ni less early. (let e = line.nodes in
        let inside : i < s.count = omega arith in
        let first = line.ticks i 0 ni in
        let up = tick_next s are i inside 0 (from 0 i) (omega arith) in
        quiet_first i t inside (omega arith));
    drives = λ i k t ni less low high. (let e = line.nodes in
        let inside : i < s.count = omega arith in
        let one = line.ticks i k ni in
        let two = line.ticks i (suc k) ni in
        let last = before.sampled i inside in
        let place : end + 13 - 1 ≡ end + 12 = omega arith in
        let same : tick i (suc (S (end + 13 - 1) i)) ≡ tick i (suc (S (end + 12) i)) = ap (λ n. tick i (suc (S n i))) place in
        let few : k ≤ S (end + 12) i = elim (cases_lt (S (end + 12) i) k) [
          | inl more ↦ (let up = tick_next s are i inside (suc (S (end + 12) i)) k more in absurd (omega arith))
          | inr f ↦ f
        ] in
        drives_there i k t inside few (omega arith) (omega arith) ∙ sym (line.drives i (levels_before (levels i) (suc k)) ni));
  }

  pub line_ends : DriveExpected → FindLevels → (stop : ℕ) → IsBeforeEnd l s o (end + 13) stop → LineEnds l setups s o end won.station won.frame stop
  line_ends driven_is seen_is stop before = record {
    drives = driven_is l (λ i. stop) drove line.causal (is_expected stop before);
    node = λ i k ni less. ap (staying_history (setups i)) (seen_is l (λ i. stop) drove line.causal (is_expected stop before) i k ni less);
    bits = bit_at;
    ends = ends_at;
  }

  -- after the third bit of the intermission a node is silent up to the next one
  silent_after : (i q : ℕ) → i < s.count → S (end + 12) i < q → levels i q ≡ Recessive
  silent_after i q inside after =
      (let up = samples_up (suc (suc end)) (end + 12) i (omega arith) inside in
      finds i q inside ∙ ap level_of (hearing.silent_then m s are room o is end valid over won chase catch enough i q inside (omega arith)))

  next_bit : (i : ℕ) → i < s.count → BitIs (s.lengths i) (clock_sees (levels i) (node i)) (S (end + 12) i) (next_due s o end i) (next_due s o end i) Recessive
  next_bit i inside =
      clocks.edges.silent (s.lengths i) (clock_sees (levels i) (node i)) ((bits (end + 12)).place i) (level_of (bus_bit s bits (end + 12))) (are.line.book i inside)
      (ends_at i inside).rests.clock.sampled (λ q a b. silent_after i q inside a)

  rest_drive : (i p : ℕ) → i < s.count → suc (S (end + 12) i) + p ≤ next_due s o end i → (node i (suc (S (end + 12) i) + p)).drive ≡ Recessive
  rest_drive i zero inside less =
      (let up = samples_up (end + 11) (end + 12) i (omega arith) inside in
      (ends_at i inside).rests.drive (suc (S (end + 12) i) + 0) (omega arith) (omega arith))
  rest_drive i (suc p) inside less =
      (let q : ℕ = suc (S (end + 12) i) + p in
      let e : suc q ≡ suc (S (end + 12) i) + suc p = omega arith in
      let plain = (next_bit i inside).starts.others q (omega arith) (omega arith) (λ f. omega (arith, f)) in
      let beat = ap (λ x. beat_of x (seen_before (clock_sees (levels i) (node i)) q) (clock_sees (levels i) (node i) q)) (segments i inside) ∙ plain in
      ap (λ k. (node i k).drive) (sym e) ∙ drive_by (setups i) (levels i) (node i) (run_of (setups i) (levels i)) q Plain beat ∙ rest_drive i p inside (omega arith))

  drives_late : (i k t : ℕ) → i < s.count → S (end + 12) i < k → k < next_due s o end i → tick i k ≤ t → drove i t ≡ is_dominant (node i (suc k)).drive
  drives_late i k t inside after less low =
      (let one = late_from (end + 12) i inside (omega arith) (omega arith) in
      let two = sample_from (end + 12) i inside in
      let three = tick_next s are i inside (from (end + 12) i) k (omega arith) in
      let four = slot.slot_up m s are room o is end valid over won chase catch enough i inside in
      let e : suc (S (end + 12) i) + (k - S (end + 12) i) ≡ suc k = omega arith in
      slot.drove_after m s are room o is end valid over won chase catch enough i t inside (omega arith) (omega arith)
      ∙ sym (ap is_dominant (ap (λ q. (node i q).drive) (sym e) ∙ rest_drive i (k - S (end + 12) i) inside (omega arith))))

  next_tick : (i n k : ℕ) → i < s.count → n < k → tick i n < tick i k
  next_tick i n k inside less =
      let steady = are.line.steady i inside in
      let slow = steady.not_fast in
      let low = floor_low (s.clocks i) n in
      let high = floor_high (s.clocks i) (suc n) steady.divides in
      let one : instant (s.clocks i) (suc n) ≡ instant (s.clocks i) n + (s.clocks i).num = omega arith in
      let both : (s.clocks i).den * suc (tick i n) < (s.clocks i).den * suc (tick i (suc n)) = omega arith in
      let up = lt_of_mul-lt-mul_left (s.clocks i).den both in
      let rest = tick_next s are i inside (suc n) k less in
      omega arith

  abbrev until : ℕ → ℕ
  until = rests_until s o end

  near_by : (i j : ℕ) → i < s.count → j < s.count → until j ≤ until i + s.delay i j
  near_by i j inside there = elim (least_is s.count (λ k. tick k (next_due s o end k) + s.delay k i) (tick i (next_due s o end i))) [
    | inl own ↦ (let x = least_other s.count (λ k. tick k (next_due s o end k) + s.delay k j) (tick j (next_due s o end j)) i inside in omega arith)
    | inr by ↦
        (let k = by.0 in
        let lt = by.1 in
        let e = by.2 in
        let x = least_other s.count (λ w. tick w (next_due s o end w) + s.delay w j) (tick j (next_due s o end j)) k lt in
        let detour = are.line.detours k i j lt inside there in
        omega arith)
  ]

  expected_until : ((i : ℕ) → i < s.count → until i ≤ l.stop) → IsExpected l until drove
  expected_until inside_stop = record {
    near = λ i j ni nj. (let e = line.nodes in
        let d = line.delays i j ni nj in
        let x = near_by i j (omega arith) (omega arith) in
        omega arith);
    inside = λ i ni. (let e = line.nodes in inside_stop i (omega arith));
    before = λ i t ni less early. (let e = line.nodes in
        let inside : i < s.count = omega arith in
        let first = line.ticks i 0 ni in
        let up = tick_next s are i inside 0 (from 0 i) (omega arith) in
        quiet_first i t inside (omega arith));
    drives = λ i k t ni less low high. (let e = line.nodes in
        let inside : i < s.count = omega arith in
        let one = line.ticks i k ni in
        let two = line.ticks i (suc k) ni in
        let last = least_own s.count (λ w. tick w (next_due s o end w) + s.delay w i) (tick i (next_due s o end i)) in
        let few : k < next_due s o end i = elim (cases_lt k (next_due s o end i)) [
          | inl f ↦ f
          | inr more ↦ (let up = tick_next s are i inside (next_due s o end i) k more in absurd (omega arith))
        ] in
        elim (cases_lt (S (end + 12) i) k) [
          | inl late ↦ drives_late i k t inside late few (omega arith)
          | inr early ↦ drives_there i k t inside early (omega arith) (omega arith)
        ] ∙ sym (line.drives i (levels_before (levels i) (suc k)) ni));
  }

  pub line_rests : DriveExpected → FindLevels → ((i k : ℕ) → i < s.count → k < s.count → tick i (S (end + 12) i) < tick k (next_due s o end k) + s.delay k i)
      → ((i : ℕ) → i < s.count → until i ≤ l.stop) → LineRests l setups s o end won.station won.frame
  line_rests driven_is seen_is early inside_stop = record {
    drives = driven_is l until drove line.causal (expected_until inside_stop);
    node = λ i k ni less. ap (staying_history (setups i)) (seen_is l until drove line.causal (expected_until inside_stop) i k ni less);
    in_time = λ i inside.
        (let low = (are.line.book i inside).lengths.ps2_low in
        let up = next_tick i (S (end + 12) i) (next_due s o end i) inside (omega arith) in
        least_above s.count (λ k. tick k (next_due s o end k) + s.delay k i) (tick i (next_due s o end i)) (tick i (S (end + 12) i)) up (λ k there. early i k inside there));
    ends = ends_at;
  }
