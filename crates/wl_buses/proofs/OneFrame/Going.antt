-- A node that finds what is expected of stations does what is expected of it.
use Rattle.std.proofs.Common.{◌≡◌, ◌∙◌, refl, sym, ap, ℕ, suc, ◌<◌, ◌≤◌, true, false, length, Option, None, arith}
use Rattle.std.proofs.lemmas.Bool.{ne_eqb}
use Rattle.wl_level.specs.declared.Level.{Level}
use Rattle.wl_level.specs.Levels.{level_of}
use Rattle.wl_sync.specs.declared.Seen.{Seen}
use Rattle.wl_topology.specs.Driven.{DrivenLaws, any_below, driven}
use Rattle.wl_topology.proofs.Callers.{any_same}
use Rattle.wl_frame.specs.Grammar.{Content}
use Rattle.wl_frame.proofs.Callers.{length_more}
use Rattle.wl_machine.specs.Stretch.{Sampled}
use Rattle.wl_machine.specs.Stretch.Sort.{Framing}
use Rattle.wl_machine.specs.Frames.{stuffed_end}
use Rattle.wl_machine.specs.Judged.{awaits_start, judged, stretch_of}
use Rattle.wl_machine.specs.States.{stretch_by}
use Rattle.wl_node.specs.declared.setup.NodeSetup.{NodeSetup}
use Rattle.wl_node.specs.History.{History}
use Rattle.wl_phase.specs.Clocks.{steady_tick}
use Rattle.wl_wire.specs.InStep.{is_fine}
use Rattle.wl_wire.specs.Wire.{sampled}
use Rattle.wl_buses.specs.OneFrame.Stations.{AreStations, HaveRoom, Stations}
use Rattle.wl_buses.specs.OneFrame.Course.{bus_bit}
use Rattle.wl_buses.specs.OneFrame.Machines.{bus_levels}
use Rattle.wl_buses.specs.OneFrame.Clocked.{BitIs, EdgeLaws, NoEdgeLaws}
use Rattle.wl_buses.specs.OneFrame.Expected.{HasSampled, IsOutset, Outset, SeesExpected, expected_bits, expected_drove, expected_sample, past_at, wants}
use Rattle.wl_buses.specs.OneFrame.Nodes.{GoesToNext, IsInBit, IsRun}
use Rattle.wl_buses.proofs.OneFrame.Expecting.{after_there, drives_are}
use Rattle.wl_buses.proofs.OneFrame.Ideal.{fine, framing}
use Rattle.wl_buses.proofs.OneFrame.Machines.{FindNoErrors, LeastWins, SendStuffed, SixOrFront, StayInStep, TenHaveEdge}
use Rattle.wl_buses.proofs.OneFrame.Nodes.{goes_to_next, has_expected, sees_expected, sees_in}
use Rattle.wl_buses.proofs.OneFrame.Seeing.{bit_goes, has_next, right_at}

module _ (steps : StayInStep) (errors : FindNoErrors) (winner : LeastWins) (stuffed : SendStuffed) (six : SixOrFront) (ten : TenHaveEdge) (laws : DrivenLaws)
    (edges : EdgeLaws) (calm : NoEdgeLaws)
    (s : Stations) (are : AreStations s) (room : HaveRoom s) (o : Outset) (is : IsOutset s o) (total : ℕ)
    (valid : (n : ℕ) → n < total → stuffed_end (bus_levels s (expected_bits s o) n) ≡ None)
    (i : ℕ) (inside : i < s.count) (setup : NodeSetup) (segments : setup.segments ≡ s.lengths i) (levels : ℕ → Level) (node : ℕ → History) (run : IsRun setup levels node)
    (n : ℕ) (less : suc n < total)
    (finds : (q : ℕ) → expected_sample s o n i < q → q ≤ expected_sample s o (suc n) i
    → levels q ≡ level_of (driven s.count s.delay (expected_drove s o total) i (steady_tick (s.clocks i) q)))
    (at : IsInBit s o i levels node n) where
  frame : (head : Option Content) × (stretch_of (past_at s o (suc n) i) ≡ stretch_by (Framing head) (bus_levels s (expected_bits s o) (suc n)))
  frame =
      framing steps errors winner stuffed six ten s o is (expected_bits s o) (drives_are steps errors winner stuffed six ten s are room o is) (λ k. refl) n i (valid n (omega arith)) inside

  no_start : awaits_start (stretch_of (past_at s o (suc n) i)) ≡ false
  no_start =
      ap awaits_start frame.1
      ∙ ne_eqb (length (bus_levels s (expected_bits s o) (suc n))) 0 (λ e. (let l = length_more (bus_levels s (expected_bits s o) n) (level_of (bus_bit s (expected_bits s o) n)) in omega arith))

  after : expected_sample s o n i < (expected_bits s o (suc n)).from i
  after = after_there steps errors winner stuffed six ten s are room o is total valid n i (omega arith) inside

  -- what it is expected to see
  abbrev sees : ℕ → Seen
  sees = sees_in setup levels node run s o i n segments at after

  sees_there : SeesExpected s o total i sees n
  sees_there = sees_expected setup levels node run s o i n segments at after no_start total finds

  has_there : HasSampled s o i sees n
  has_there = has_expected setup levels node run s o i n segments at after

  bit : BitIs (s.lengths i) sees (expected_sample s o n i) ((expected_bits s o (suc n)).place i) ((expected_bits s o (suc n)).from i) (level_of (bus_bit s (expected_bits s o) (suc n)))
  bit = bit_goes steps errors winner stuffed six ten laws s are room o is total valid edges calm n i less inside sees sees_there has_there

  has_after : HasSampled s o i sees (suc n)
  has_after = has_next steps errors winner stuffed six ten laws s are room o is total valid edges calm n i less inside sees sees_there has_there

  bus_is : any_below s.count (wants s o (suc n)) ≡ bus_bit s (expected_bits s o) (suc n)
  bus_is = any_same s.count (wants s o (suc n)) (expected_bits s o (suc n)).drives (λ k lt. sym (drives_are steps errors winner stuffed six ten s are room o is (suc n) k))

  abbrev given : Sampled
  given = sampled (level_of (any_below s.count (wants s o (suc n)))) (o.frames i) (o.handed (suc n) i)

  fine_there : is_fine (judged (stretch_of (past_at s o (suc n) i)) given).happened ≡ true
  fine_there =
      ap (λ b. is_fine (judged (stretch_of (past_at s o (suc n) i)) (sampled (level_of b) (o.frames i) (o.handed (suc n) i))).happened) bus_is
      ∙ fine steps errors winner stuffed six ten s o is (expected_bits s o) (drives_are steps errors winner stuffed six ten s are room o is) (λ k. refl) (suc n) i (o.handed (suc n) i) (valid (suc n) less) inside

  pub goes_on : GoesToNext s o i levels node n
  goes_on =
      let place = bit.samples.place in
      let longer : expected_sample s o n i < expected_sample s o (suc n) i = omega arith in
      goes_to_next setup levels node run s o i n segments at after bit frame.0 frame.1 (valid (suc n) less) given (ap level_of bus_is) fine_there refl
      (finds (expected_sample s o (suc n) i) longer (omega arith) ∙ ap level_of (right_at steps errors winner stuffed six ten laws s are room o is total valid (suc n) i less inside))
      longer has_after
