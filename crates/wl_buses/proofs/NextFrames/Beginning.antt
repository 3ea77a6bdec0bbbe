-- A node that rests begins a frame as is expected, whatever it has done before.
use Rattle.std.proofs.Common.{◌≡◌, ◌⊎◌, inl, inr, ℕ, suc, ◌+◌, ◌<◌, ◌≤◌, None, arith}
use Rattle.wl_level.specs.declared.Level.{Level}
use Rattle.wl_level.specs.declared.Level.TheVariants.{Recessive}
use Rattle.wl_level.specs.Levels.{level_of}
use Rattle.std.proofs.lemmas.Bool.{cases_lt}
use Rattle.wl_segments.specs.Lengths.{sample_at}
use Rattle.wl_topology.specs.Driven.{driven}
use Rattle.wl_machine.specs.Frames.{stuffed_end}
use Rattle.wl_node.specs.declared.setup.NodeSetup.{NodeSetup}
use Rattle.wl_node.specs.History.{History}
use Rattle.wl_phase.specs.Clocks.{steady_tick}
use Rattle.wl_phase.specs.Ways.{WayLaws}
use Rattle.wl_phase.proofs.Callers.{Goes}
use Rattle.wl_buses.specs.OneFrame.Starts.{BeginsAlone, FollowsHard}
use Rattle.wl_buses.specs.OneFrame.Clocked.{EdgeLaws, NoEdgeLaws}
use Rattle.wl_buses.specs.OneFrame.Expected.{IsOutset, Outset, expected_bits, expected_drove, expected_sample}
use Rattle.wl_buses.specs.OneFrame.Lines.{BeginsAfter}
use Rattle.wl_buses.specs.OneFrame.Machines.{bus_levels}
use Rattle.wl_buses.specs.OneFrame.Nodes.{HandsAsExpected, IsRun}
use Rattle.wl_buses.specs.OneFrame.Stations.{AreStations, HaveRoom, Stations}
use Rattle.wl_buses.proofs.OneFrame.Calm.{LevelGoes, SampleGoes}
use Rattle.wl_buses.proofs.OneFrame.Clocked.{bit_place_laws}
use Rattle.wl_buses.proofs.OneFrame.Beginning.{bit_start_laws}
use Rattle.wl_buses.proofs.OneFrame.Outsets.{IsAtRest, has_begun}
use Rattle.wl_buses.specs.FrameEnd.Again.{RestsAgain}
use Rattle.wl_buses.specs.FrameEnd.Third.{RestsInThird}
use Rattle.wl_buses.proofs.FrameEnd.Below.{MachineLaws}
use Rattle.wl_buses.specs.NextFrames.NextNodes.{BeginsSince}

-- its start of frame begins after that
pub rest_early : (s : Stations) (o : Outset) (i rest : ℕ) → BeginsAfter s o i rest → BeginsAlone s o.start i ⊎ FollowsHard s o.start i → rest + sample_at (s.lengths i) ≤ expected_sample s o 0 i
rest_early s o i rest after (inl itself) = (let due = after.alone itself in let place = itself.place in omega arith)
rest_early s o i rest after (inr hard) = (let later = after.later hard in let place = hard.place in omega arith)

-- whatever its machine is handed with the start of frame, if it is in the third bit of its intermission
module _ (m : MachineLaws) (goes : Goes) (level : LevelGoes) (sample : SampleGoes) (ways : WayLaws) (edges : EdgeLaws) (calm : NoEdgeLaws) (s : Stations) (o : Outset) (length i rest since : ℕ)
    (setup : NodeSetup) (levels : ℕ → Level) (node : ℕ → History) (are : AreStations s) (room : HaveRoom s) (is : IsOutset s o) (some : 0 < length)
    (valid : (n : ℕ) → n < length → stuffed_end (bus_levels s (expected_bits s o) n) ≡ None) (inside : i < s.count) (segments : setup.segments ≡ s.lengths i) (run : IsRun setup levels node)
    (after : BeginsAfter s o i rest) where
  abbrev Finds : Type 0
  Finds = (q : ℕ) → rest + sample_at (s.lengths i) < q → q ≤ expected_sample s o 0 i → levels q ≡ level_of (driven s.count s.delay (expected_drove s o length) i (steady_tick (s.clocks i) q))

  begins_from : IsAtRest s o i setup levels node rest → ((q : ℕ) → since < q → q ≤ suc (rest + sample_at (s.lengths i)) → (node q).drive ≡ Recessive) → Finds → BeginsSince s o i levels node since
  begins_from at quiet finds =
      let x =
      has_begun m.steps m.errors m.winner m.stuffed m.six m.ten m.driven goes level sample ways (bit_place_laws ways) (bit_start_laws goes ways) edges calm s are room o is length some
      valid i inside setup segments levels node run rest at after finds in
      record {
        bit = x.0;
        before = λ q low less. elim (cases_lt (rest + sample_at (s.lengths i)) q) [ inl more ↦ x.1 q more less | inr few ↦ quiet q low (omega arith) ];
        after = x.2;
      }

  -- it rests
  pub begins_since : RestsAgain s (o.past i) i levels node rest since → since ≤ rest + sample_at (s.lengths i) → Finds → BeginsSince s o i levels node since
  begins_since rests early finds =
      begins_from (record {
        sampled = rests.sampled;
        clock = rests.clock;
        stretch = rests.stretch;
        takes = λ two. absurd (rests.over two);
        counts = rests.counts;
        drive = rests.drive (suc (rest + sample_at (s.lengths i))) (omega arith) (omega arith);
      }) rests.drive finds

  -- it is in the third bit of its intermission, and its queue hands it its frame
  pub begins_in_third : RestsInThird s (o.past i) i levels node rest since → since ≤ rest + sample_at (s.lengths i) → HandsAsExpected s o i setup node → Finds → BeginsSince s o i levels node since
  begins_in_third rests early hands finds =
      begins_from (record {
        sampled = rests.sampled;
        clock = rests.clock;
        stretch = rests.stretch;
        takes = λ two. hands;
        counts = rests.counts;
        drive = rests.drive (suc (rest + sample_at (s.lengths i))) (omega arith) (omega arith);
      }) rests.drive finds
