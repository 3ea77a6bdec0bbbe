-- A node that begins a frame as is expected goes through the whole of it, whatever it has done before.
use Rattle.std.proofs.Common.{◌≡◌, ◌∙◌, inl, inr, ap, ℕ, zero, suc, ◌+◌, ◌-◌, ◌<◌, ◌≤◌, Some, None, arith}
use Rattle.std.proofs.lemmas.Bool.{cases_lt}
use Rattle.wl_level.specs.declared.Level.{Level}
use Rattle.wl_level.specs.Levels.{level_of}
use Rattle.wl_topology.specs.Driven.{driven}
use Rattle.wl_machine.specs.Frames.{stuffed_end}
use Rattle.wl_node.specs.declared.setup.NodeSetup.{NodeSetup}
use Rattle.wl_node.specs.History.{History}
use Rattle.wl_phase.specs.Clocks.{steady_tick}
use Rattle.wl_buses.specs.OneFrame.Expected.{IsOutset, Outset, expected_bits, expected_drove, expected_sample}
use Rattle.wl_buses.specs.OneFrame.Machines.{HasWon, bus_levels}
use Rattle.wl_buses.specs.OneFrame.Nodes.{GoesToNext, IsInBit, IsRun}
use Rattle.wl_buses.specs.OneFrame.Stations.{AreStations, HaveRoom, Stations}
use Rattle.wl_buses.specs.FrameEnd.Finds.{FindsTheEnd}
use Rattle.wl_buses.proofs.FrameEnd.LineEnds.{GoesOn}
use Rattle.wl_buses.proofs.FrameEnd.Below.{MachineLaws}
use Rattle.wl_buses.proofs.FrameEnd.Placing.{found_was, samples_up}
use Rattle.wl_buses.specs.NextFrames.NextNodes.{BeginsSince}

module _ (m : MachineLaws) (goes_on : GoesOn) (s : Stations) (are : AreStations s) (room : HaveRoom s) (o : Outset) (is : IsOutset s o) (end : ℕ)
    (valid : (n : ℕ) → n < end → stuffed_end (bus_levels s (expected_bits s o) n) ≡ None)
    (over : stuffed_end (bus_levels s (expected_bits s o) end) ≡ Some end) (won : HasWon s (expected_bits s o) o.frames end)
    (i : ℕ) (inside : i < s.count) (hears : FindsTheEnd s o end i) (setup : NodeSetup) (segments : setup.segments ≡ s.lengths i) (levels : ℕ → Level) (node : ℕ → History) (run : IsRun setup levels node) (since low : ℕ)
    (upto : ℕ) (second : 11 ≤ upto) (finds : (q : ℕ) → low < q → q ≤ expected_sample s o (end + upto) i → levels q ≡ level_of (driven s.count s.delay (expected_drove s o (end + 13)) i (steady_tick (s.clocks i) q))) where
  abbrev S : ℕ → ℕ
  S n = expected_sample s o n i

  up : (a n : ℕ) → a ≤ n → S a ≤ S n
  up a n less = samples_up m s are room o is end valid over won a n i inside less

  -- up to the sample of the CRC delimiter it finds what the stuffed part drives
  pub finds_early : (q : ℕ) → low < q → q ≤ S end → levels q ≡ level_of (driven s.count s.delay (expected_drove s o end) i (steady_tick (s.clocks i) q))
  finds_early q more less =
      (let e = up end (end + upto) (omega arith) in finds q more (omega arith)) ∙ ap level_of (found_was m s are room o is end valid over won i inside hears.later q less)

  -- bit by bit up to the second one of the intermission, if it goes to that at the end
  module _ (by_low : low ≤ S 0) (begins : BeginsSince s o i levels node since) (Ends : Type 0)
      (ends_law : ((n q : ℕ) → suc n ≡ end → S n < q → q ≤ S (end + upto) → levels q ≡ level_of (driven s.count s.delay (expected_drove s o (end + 13)) i (steady_tick (s.clocks i) q)))
      → ((n : ℕ) → suc n ≡ end → IsInBit s o i levels node n) → Ends) (goes : Ends → (place n : ℕ) → place ≤ 11 → end + place ≡ suc n → GoesToNext s o i levels node n) where
    abbrev Early : ℕ → Type 0
    Early n = IsInBit s o i levels node n

    early_next : (n : ℕ) → suc n < end → Early n → GoesToNext s o i levels node n
    early_next n less at =
        goes_on s o end i setup levels node are room is valid inside segments run n less
        (λ q a b. (let first = up 0 n (omega arith) in let last = up (suc n) end (omega arith) in finds_early q (omega arith) (omega arith))) at

    early_at : (n : ℕ) → n < end → Early n
    early_at zero less = begins.bit
    early_at (suc n) less = (early_next n less (early_at n (omega arith))).bit

    pub to_the_end : Ends
    to_the_end = ends_law (λ n q e a b. (let first = up 0 n (omega arith) in finds q (omega arith) b)) (λ n e. early_at n (omega arith))

    pub next_at : (n : ℕ) → suc n < end + 12 → GoesToNext s o i levels node n
    next_at n less = elim (cases_lt (suc n) end) [
      | inl early ↦ early_next n early (early_at n (omega arith))
      | inr late ↦ goes to_the_end (suc n - end) n (omega arith) (omega arith)
    ]
