use Rattle.std.proofs.Common.{◌≡◌, inl, inr, ℕ, suc, ◌+◌, ◌<◌, arith}
use Rattle.std.proofs.lemmas.Bool.{cases_lt}
use Rattle.wl_segments.specs.Lengths.{sample_at}
use Rattle.wl_topology.specs.Driven.{DrivenLaws}
use Rattle.wl_node.specs.declared.setup.NodeSetup.{NodeSetup}
use Rattle.wl_machine.specs.Frames.{stuffed_end}
use Rattle.std.proofs.Common.{None}
use Rattle.wl_phase.specs.Ways.{WayLaws}
use Rattle.wl_phase.proofs.Callers.{Goes}
use Rattle.wl_plan.specs.Line.{Line}
use Rattle.wl_buses.specs.OneFrame.Clocked.{EdgeLaws}
use Rattle.wl_buses.specs.OneFrame.Expected.{IsOutset, Outset, expected_bits}
use Rattle.wl_buses.specs.OneFrame.Lines.{BeginsAfter, BeginsAsExpected, IsLineOf, RestsBefore, finds_expected, node_after}
use Rattle.wl_buses.specs.OneFrame.Machines.{bus_levels}
use Rattle.wl_buses.specs.OneFrame.Stations.{AreStations, HaveRoom, Stations}
use Rattle.wl_buses.proofs.OneFrame.Beginning.{bit_start_laws}
use Rattle.wl_buses.proofs.OneFrame.Calm.{LevelGoes, SampleGoes, no_edge_laws}
use Rattle.wl_buses.proofs.OneFrame.Clocked.{bit_place_laws}
use Rattle.wl_buses.proofs.OneFrame.Lines.{finds_what_comes, run_of}
use Rattle.wl_buses.proofs.OneFrame.Machines.{FindNoErrors, LeastWins, SendStuffed, SixOrFront, StayInStep, TenHaveEdge}
use Rattle.wl_buses.proofs.OneFrame.Outsets.{has_begun}
use Rattle.wl_buses.proofs.one_frame.laws.a_node_at_rest_begins_as_expected.Goals as goal

begins_by : StayInStep → FindNoErrors → LeastWins → SendStuffed → SixOrFront → TenHaveEdge → DrivenLaws → Goes → LevelGoes → SampleGoes → WayLaws → EdgeLaws
    → (l : Line) (setups : ℕ → NodeSetup) (s : Stations) (o : Outset) (length i rest : ℕ) → IsLineOf l setups s → AreStations s → HaveRoom s → IsOutset s o → 0 < length
    → ((n : ℕ) → n < length → stuffed_end (bus_levels s (expected_bits s o) n) ≡ None) → i < s.count → BeginsAfter s o i rest
    → RestsBefore s o i (finds_expected l s o length i) (node_after (setups i) (finds_expected l s o length i)) rest → BeginsAsExpected l setups s o length i
begins_by steps errors winner stuffed six ten laws goes level sample ways edges l setups s o length i rest line are room is some valid inside after rests =
    let x =
    has_begun steps errors winner stuffed six ten laws goes level sample ways (bit_place_laws ways) (bit_start_laws goes ways) edges (no_edge_laws goes sample level ways) s are room o is length some
    valid i inside (setups i) (line.segments i (let e = line.nodes in omega arith)) (finds_expected l s o length i) (node_after (setups i) (finds_expected l s o length i))
    (run_of (setups i) (finds_expected l s o length i)) rest
    (record { sampled = rests.sampled; clock = rests.clock; stretch = rests.stretch; takes = λ two. absurd (rests.over two); counts = rests.counts; drive = rests.drive (suc (rest + sample_at (s.lengths i))) (omega arith) }) after
    (λ q more less. finds_what_comes l setups s line o length i q inside) in
    record {
      bit = x.0;
      before = λ q less. elim (cases_lt (rest + sample_at (s.lengths i)) q) [ inl more ↦ x.1 q more less | inr few ↦ rests.drive q (omega arith) ];
      after = x.2;
    }

pub returns : goal.returns
returns c =
    begins_by c.machines_stay_in_step.ensures.step c.machines_stay_in_step.ensures.errors c.the_least_field_wins.ensures c.a_transmitter_sends_its_head_stuffed.ensures.sent
    c.a_front_of_no_stuffing_ends_six_equal_bits.ensures c.ten_bits_have_an_edge.ensures.ten c.driven_laws.ensures
    (record { clock = c.clock_goes_on.ensures.clock; beat = c.clock_goes_on.ensures.beat; sync = c.clock_goes_on.ensures.sync })
    c.clock_goes_on.ensures.level c.clock_goes_on.ensures.sample c.an_edge_moves_the_sample.ensures c.a_station_begins_its_bits.ensures
