-- The first frame of a plan goes as expected.
use Rattle.std.proofs.Common.{◌≡◌, ℕ, ◌<◌, List, [], None, arith}
use Rattle.wl_frame.specs.Grammar.{Content}
use Rattle.wl_machine.specs.Frames.{stuffed_end}
use Rattle.wl_plan.specs.declared.plan.Plan.{Plan}
use Rattle.wl_plan.specs.Checked.{CheckedIsSound}
use Rattle.wl_plan.specs.Line.{Line}
use Rattle.wl_plan.specs.PlanLine.{line_of, setup_at}
use Rattle.wl_node.specs.declared.setup.NodeSetup.{NodeSetup}
use Rattle.wl_buses.specs.OneFrame.Stations.{AreOnALine, AreStations, HaveRoom, HaveWays, Stations}
use Rattle.wl_buses.specs.OneFrame.Ends.{HasStuffedBits}
use Rattle.wl_buses.specs.OneFrame.Expected.{IsOutset, Outset, expected_bits}
use Rattle.wl_buses.specs.OneFrame.Lines.{BeginsAfter, DoesAsExpected, IsBeforeEnd, IsLineOf, RestsBefore, finds_expected, node_after}
use Rattle.wl_buses.specs.OneFrame.Machines.{bus_levels}
use Rattle.wl_buses.specs.OneFrame.Plans.{IsPlanOf}
use Rattle.wl_buses.proofs.OneFrame.Plans.{line_of_plan}
use Rattle.wl_buses.specs.FirstFrame.FirstFrames.{GoesToItsCrc, outset_of, waiting_of}
use Rattle.wl_buses.specs.FirstFrame.FirstStarts.{AreIdle, HandTheFirst, Waiting, first_outset, rest_first}

-- the laws that this rests on
abbrev pub PlanLaw : Type 0
PlanLaw = (plan : Plan) (s : Stations) (o : Outset) (rest : ℕ → ℕ) (length end : ℕ) → IsPlanOf plan s → plan.disturbances ≡ [] → HaveWays s → HaveRoom s → IsOutset s o → 0 < length
    → ((n : ℕ) → n < length → stuffed_end (bus_levels s (expected_bits s o) n) ≡ None) → ((i : ℕ) → i < s.count → BeginsAfter s o i (rest i))
    → ((i : ℕ) → i < s.count → RestsBefore s o i (finds_expected (line_of plan) s o length i) (node_after (setup_at plan i) (finds_expected (line_of plan) s o length i)) (rest i))
    → IsBeforeEnd (line_of plan) s o length end → DoesAsExpected (line_of plan) (setup_at plan) s o length end

abbrev pub EndLaw : Type 0
EndLaw = (s : Stations) (o : Outset) → AreStations s → HaveRoom s → IsOutset s o → (length : ℕ) × HasStuffedBits s o length

pub record BeginLaws : Type 0 where
  pub outset : (w : Waiting) → AreOnALine w.stations → AreIdle w → IsOutset w.stations (first_outset w)
  pub after : (w : Waiting) → AreOnALine w.stations → AreIdle w → (i : ℕ) → i < w.stations.count → BeginsAfter w.stations (first_outset w) i (rest_first w i)

abbrev pub RestLaw : Type 0
RestLaw = (l : Line) (setups : ℕ → NodeSetup) (w : Waiting) (length i : ℕ) → IsLineOf l setups w.stations → AreStations w.stations → HaveRoom w.stations → AreIdle w → HandTheFirst w setups
    → ((n : ℕ) → n < length → stuffed_end (bus_levels w.stations (expected_bits w.stations (first_outset w)) n) ≡ None) → i < w.stations.count
    → RestsBefore w.stations (first_outset w) i (finds_expected l w.stations (first_outset w) length i)
    (node_after (setups i) (finds_expected l w.stations (first_outset w) length i)) (rest_first w i)

pub goes : PlanLaw → EndLaw → BeginLaws → RestLaw → CheckedIsSound → (plan : Plan) (queues : ℕ → List Content) (s : Stations) → IsPlanOf plan s → plan.disturbances ≡ [] → HaveWays s → HaveRoom s
    → AreOnALine s → AreIdle (waiting_of plan queues s) → HandTheFirst (waiting_of plan queues s) (setup_at plan) → GoesToItsCrc plan queues s
goes does ends begins rests sound plan queues s of calm ways room line idle hands =
    let are : AreStations s = record { line = line; ways = ways } in
    let is : IsOutset s (outset_of plan queues s) = begins.outset (waiting_of plan queues s) line idle in
    let bits = ends s (outset_of plan queues s) are room is in
    let all : (end : ℕ) → IsBeforeEnd (line_of plan) s (outset_of plan queues s) bits.0 end → DoesAsExpected (line_of plan) (setup_at plan) s (outset_of plan queues s) bits.0 end =
    λ end before. does plan s (outset_of plan queues s) (rest_first (waiting_of plan queues s)) bits.0 end of calm ways room is bits.1.some bits.1.going (begins.after (waiting_of plan queues s) line idle)
    (λ i inside. rests (line_of plan) (setup_at plan) (waiting_of plan queues s) bits.0 i (line_of_plan sound plan s of calm) are room idle hands bits.1.going inside)
    before in
    record {
      bits = bits.0;
      stuffed = bits.1;
      does = all;
      won = (all 0 (record { inside = omega arith; sampled = λ i inside. omega arith })).won bits.1.over;
    }
