-- The nodes of a line do what is expected of them, if all begin the frame so.
use Rattle.std.proofs.Common.{◌≡◌, ◌∙◌, inl, inr, refl, sym, ap, ℕ, zero, suc, ◌-◌, ◌<◌, ◌≤◌, ◌||◌, ◌&&◌, Bool, true, false, [], ◌∷◌, ◌++◌, Some, None, arith}
use Rattle.std.specs.Prelude.{nat_le}
use Rattle.std.proofs.lemmas.Bool.{cases_lt}
use Rattle.std.proofs.lemmas.List.Sums.{fold-append}
use Rattle.wl_level.specs.declared.Level.{Level}
use Rattle.wl_level.specs.Levels.{is_dominant, level_of}
use Rattle.wl_topology.specs.Driven.{DrivenLaws, driven}
use Rattle.wl_topology.proofs.Callers.{any_same}
use Rattle.wl_machine.specs.Stretch.Input.{Sample}
use Rattle.wl_machine.specs.Frames.{stuffed_end}
use Rattle.wl_node.specs.declared.setup.NodeSetup.{NodeSetup}
use Rattle.wl_node.specs.History.{History, history_after, staying_history, no_history}
use Rattle.wl_phase.specs.Clocks.{steady_tick}
use Rattle.wl_plan.specs.Line.{Line}
use Rattle.wl_plan.specs.Simulation.{level, seen}
use Rattle.wl_plan.specs.Sound.{IsCausal}
use Rattle.wl_buses.specs.BothProofs.Expected.{IsExpected, levels_found}
use Rattle.wl_buses.specs.BothProofs.Levels.{levels_before}
use Rattle.wl_wire.specs.Wire.{sampled}
use Rattle.wl_buses.specs.OneFrame.Stations.{AreStations, HaveRoom, Stations}
use Rattle.wl_buses.specs.OneFrame.Machines.{AreMachines, HasWon, bus_levels}
use Rattle.wl_buses.specs.OneFrame.Clocked.{EdgeLaws, NoEdgeLaws}
use Rattle.wl_buses.specs.OneFrame.Expected.{IsOutset, Outset, expected_bits, expected_drove, expected_sample, past_at, wants}
use Rattle.wl_buses.specs.OneFrame.Nodes.{GoesToNext, IsInBit, IsRun}
use Rattle.wl_buses.specs.OneFrame.Lines.{BeginsAsExpected, DoesAsExpected, IsBeforeEnd, IsLineOf, finds_expected, node_after}
use Rattle.wl_buses.proofs.OneFrame.Expecting.{after_there, driven_at, drives_are, from_all, from_sample, none_driven}
use Rattle.wl_buses.proofs.OneFrame.Going.{goes_on}
use Rattle.wl_buses.proofs.OneFrame.Machines.{FindNoErrors, LeastWins, SendStuffed, SixOrFront, StayInStep, TenHaveEdge, level_back, won}
use Rattle.wl_buses.proofs.OneFrame.Seeing.{right_at}
use Rattle.wl_buses.proofs.OneFrame.Measures.{tick_next}

pub no_or : (b c : Bool) → c ≡ false → (b || c) ≡ b
no_or true c e = refl
no_or false c e = e

-- a node after the levels that are expected
pub run_of : (setup : NodeSetup) (levels : ℕ → Level) → IsRun setup levels (node_after setup levels)
unfolding staying_history
run_of setup levels = record { first = refl; next = λ q. fold-append (history_after setup) no_history (levels_before levels q) (levels q ∷ []) }

-- what it finds is what reaches it
pub finds_driven : (l : Line) (setups : ℕ → NodeSetup) (s : Stations) → IsLineOf l setups s → (drove : ℕ → ℕ → Bool) (i q : ℕ) → i < s.count
    → levels_found l drove i q ≡ level_of (driven s.count s.delay drove i (steady_tick (s.clocks i) q))
finds_driven l setups s line drove i q inside =
    let e = line.nodes in
    ap level_of (no_or (driven l.nodes l.delay drove i (l.instant i q)) (l.disturbed i (l.instant i q)) (line.undisturbed i (l.instant i q) (omega arith))
    ∙ ap (λ c. driven c l.delay drove i (l.instant i q)) (sym e)
    ∙ delays (l.instant i q)
    ∙ ap (driven s.count s.delay drove i) (line.ticks i q (omega arith)))
  where
    delays : (t : ℕ) → driven s.count l.delay drove i t ≡ driven s.count s.delay drove i t
    delays t =
        any_same s.count (λ k. nat_le (l.delay k i) t && drove k (t - l.delay k i)) (λ k. nat_le (s.delay k i) t && drove k (t - s.delay k i))
        (λ k lt. ap (λ d. nat_le d t && drove k (t - d)) (sym (line.delays k i (let e = line.nodes in omega arith) (let e = line.nodes in omega arith))))

pub finds_what_comes : (l : Line) (setups : ℕ → NodeSetup) (s : Stations) → IsLineOf l setups s → (o : Outset) (total i q : ℕ) → i < s.count
    → finds_expected l s o total i q ≡ level_of (driven s.count s.delay (expected_drove s o total) i (steady_tick (s.clocks i) q))
finds_what_comes l setups s line o total i q inside = finds_driven l setups s line (expected_drove s o total) i q inside

module _ (steps : StayInStep) (errors : FindNoErrors) (winner : LeastWins) (stuffed : SendStuffed) (six : SixOrFront) (ten : TenHaveEdge) (laws : DrivenLaws)
    (edges : EdgeLaws) (calm : NoEdgeLaws)
    (l : Line) (setups : ℕ → NodeSetup) (s : Stations) (line : IsLineOf l setups s) (are : AreStations s) (room : HaveRoom s) (o : Outset) (is : IsOutset s o) (total : ℕ) (some : 0 < total)
    (valid : (n : ℕ) → n < total → stuffed_end (bus_levels s (expected_bits s o) n) ≡ None)
    (begin : (i : ℕ) → i < s.count → BeginsAsExpected l setups s o total i) where
  abbrev drove : ℕ → ℕ → Bool
  drove = expected_drove s o total

  abbrev bits_from : ℕ → ℕ → ℕ
  bits_from n i = (expected_bits s o n).from i

  abbrev levels : ℕ → ℕ → Level
  levels i = finds_expected l s o total i

  abbrev node : ℕ → ℕ → History
  node i = node_after (setups i) (levels i)

  run : (i : ℕ) → IsRun (setups i) (levels i) (node i)
  run i = run_of (setups i) (levels i)

  finds : (i q : ℕ) → i < s.count → levels i q ≡ level_of (driven s.count s.delay drove i (steady_tick (s.clocks i) q))
  finds i q inside = finds_what_comes l setups s line o total i q inside

  -- all bits at a node
  bit_at : (i n : ℕ) → i < s.count → n < total → IsInBit s o i (levels i) (node i) n
  bit_at i zero inside less = (begin i inside).bit
  bit_at i (suc n) inside less =
      (goes_on steps errors winner stuffed six ten laws edges calm s are room o is total valid i inside (setups i) (line.segments i (let e = line.nodes in omega arith)) (levels i) (node i) (run i) n less
      (λ q a b. finds i q inside) (bit_at i n inside (omega arith))).bit

  next_at : (i n : ℕ) → i < s.count → suc n < total → GoesToNext s o i (levels i) (node i) n
  next_at i n inside less =
      goes_on steps errors winner stuffed six ten laws edges calm s are room o is total valid i inside (setups i) (line.segments i (let e = line.nodes in omega arith)) (levels i) (node i) (run i) n less
      (λ q a b. finds i q inside) (bit_at i n inside (omega arith))

  -- what it drives, after so many quanta
  drive_after : (i n q : ℕ) → i < s.count → n < total → bits_from n i < q → q ≤ suc (expected_sample s o n i) → (node i q).drive ≡ level_of (wants s o n i)
  drive_after i zero q inside less low high = (begin i inside).after q low high
  drive_after i (suc n) q inside less low high = (next_at i n inside less).after q low high

  drive_bit : (i n q : ℕ) → i < s.count → n < total → suc n < total → bits_from n i < q → q ≤ bits_from (suc n) i → (node i q).drive ≡ level_of (wants s o n i)
  drive_bit i n q inside less next low high = elim (cases_lt (expected_sample s o n i) q) [
    | inl more ↦ (next_at i n inside next).before q more high
    | inr few ↦ drive_after i n q inside less low (omega arith)
  ]

  -- a quantum lies in one of the bits, or before them
  record InBit (i k : ℕ) : Type 0 where
    bit : ℕ
    inside_bits : bit < total
    from_low : bits_from bit i ≤ k
    from_high : k < bits_from (suc bit) i
    drive : (node i (suc k)).drive ≡ level_of (wants s o bit i)

  in_bit : (i k n : ℕ) → i < s.count → n < total → bits_from 0 i ≤ k → k ≤ expected_sample s o n i → InBit i k
  in_bit i k zero inside less low high = record {
    bit = 0;
    inside_bits = less;
    from_low = low;
    from_high = (let after = after_there steps errors winner stuffed six ten s are room o is total valid 0 i less inside in omega arith);
    drive = drive_after i 0 (suc k) inside less (omega arith) (omega arith);
  }
  in_bit i k (suc n) inside less low high = elim (cases_lt k (bits_from (suc n) i)) [
    | inl before ↦ elim (cases_lt (expected_sample s o n i) k) [
      | inl more ↦ (let fs = from_sample steps errors winner stuffed six ten s are room o is total valid n i inside in
          record {
            bit = n;
            inside_bits = omega arith;
            from_low = omega arith;
            from_high = before;
            drive = drive_bit i n (suc k) inside (omega arith) less (omega arith) before;
          })
      | inr few ↦ in_bit i k n inside (omega arith) low few
    ]
    | inr from ↦ record {
      bit = suc n;
      inside_bits = less;
      from_low = from;
      from_high = (let after = after_there steps errors winner stuffed six ten s are room o is total valid (suc n) i less inside in omega arith);
      drive = drive_after i (suc n) (suc k) inside less (omega arith) (omega arith);
    }
  ]

  drives_there : (i k t : ℕ) → i < s.count → k ≤ expected_sample s o (total - 1) i → steady_tick (s.clocks i) k ≤ t → t < steady_tick (s.clocks i) (suc k)
      → drove i t ≡ is_dominant (node i (suc k)).drive
  drives_there i k t inside few low high = elim (cases_lt k (bits_from 0 i)) [
    | inl early ↦
        (let next = tick_next s are i inside (suc k) (bits_from 0 i) early in
        none_driven steps errors winner stuffed six ten s are room o is total valid i t
        (λ n less dominant from_n to_n. (let up = from_all steps errors winner stuffed six ten s are room o is total valid 0 n i (omega arith) (omega arith) inside in absurd (omega arith)))
        ∙ sym (ap is_dominant ((begin i inside).before (suc k) early)))
    | inr from ↦
        (let b = in_bit i k (total - 1) inside (omega arith) from few in
        let bl = b.from_low in
        let bh = b.from_high in
        let one = tick_next s are i inside (bits_from b.bit i) k bl in
        let two = tick_next s are i inside (suc k) (bits_from (suc b.bit) i) bh in
        driven_at steps errors winner stuffed six ten s are room o is total valid b.bit i t b.inside_bits inside (omega arith) (omega arith)
        ∙ sym (ap is_dominant b.drive ∙ level_back (wants s o b.bit i)))
  ]

  pub is_expected : (end : ℕ) → IsBeforeEnd l s o total end → IsExpected l (λ i. end) drove
  is_expected end before = record {
    near = λ i j ni nj. omega arith;
    inside = λ i ni. before.inside;
    before = λ i t ni less early. (let e = line.nodes in
        let inside : i < s.count = omega arith in
        let tick = line.ticks i 0 ni in
        none_driven steps errors winner stuffed six ten s are room o is total valid i t
        (λ n in_total dominant from_n to_n. (let up = tick_next s are i inside 0 (bits_from n i) (omega arith) in absurd (omega arith))));
    drives = λ i k t ni less low high. (let e = line.nodes in
        let inside : i < s.count = omega arith in
        let one = line.ticks i k ni in
        let two = line.ticks i (suc k) ni in
        let last = before.sampled i inside in
        let few : k ≤ expected_sample s o (total - 1) i = elim (cases_lt (expected_sample s o (total - 1) i) k) [
          | inl more ↦ (let up = tick_next s are i inside (suc (expected_sample s o (total - 1) i)) k more in absurd (omega arith))
          | inr f ↦ f
        ] in
        drives_there i k t inside few (omega arith) (omega arith) ∙ sym (line.drives i (levels_before (levels i) (suc k)) ni));
  }

  -- who is left
  machines : AreMachines s (expected_bits s o) drove o.frames (past_at s o) total
  machines = record {
    earlier = is.earlier;
    handed = o.handed;
    reached = is.reached;
    begin = is.may;
    joins = is.joins;
    drives = λ n k less lt. drives_are steps errors winner stuffed six ten s are room o is n k;
    samples = λ n k less lt. ap (λ b. past_at s o n k ++ Sample (sampled (level_of b) (o.frames k) (o.handed n k)) ∷ [])
        (any_same s.count (wants s o n) (expected_bits s o n).drives (λ j inside. sym (drives_are steps errors winner stuffed six ten s are room o is n j))
        ∙ sym (right_at steps errors winner stuffed six ten laws s are room o is total valid n k less lt));
  }

  pub left : stuffed_end (bus_levels s (expected_bits s o) total) ≡ Some total → HasWon s (expected_bits s o) o.frames total
  left end =
      won steps errors winner stuffed six ten s (expected_bits s o) drove o.frames (past_at s o) total is.frames machines is.some total (omega arith)
      (λ k lt m below. right_at steps errors winner stuffed six ten laws s are room o is total valid m k below lt) end

  abbrev pub DrivesExpected : Type 0
  DrivesExpected = (l : Line) (until : ℕ → ℕ) (drove : ℕ → ℕ → Bool) → IsCausal l → IsExpected l until drove → (i t : ℕ) → i < l.nodes → t < until i → level l i t ≡ drove i t

  abbrev pub SeesLevels : Type 0
  SeesLevels = (l : Line) (until : ℕ → ℕ) (drove : ℕ → ℕ → Bool) → IsCausal l → IsExpected l until drove → (i k : ℕ) → i < l.nodes → ((j : ℕ) → j < k → l.instant i j < until i)
      → seen l i k ≡ levels_before (levels_found l drove i) k

  pub does : DrivesExpected → SeesLevels → (end : ℕ) → IsBeforeEnd l s o total end → DoesAsExpected l setups s o total end
  does driven_is seen_is end before = record {
    drives = driven_is l (λ i. end) drove line.causal (is_expected end before);
    node = λ i k ni less. ap (staying_history (setups i)) (seen_is l (λ i. end) drove line.causal (is_expected end before) i k ni less);
    bits = bit_at;
    won = left;
  }
