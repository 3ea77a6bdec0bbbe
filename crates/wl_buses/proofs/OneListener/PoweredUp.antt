-- A station that only listens rests before a first frame, from its power-up on.
use Rattle.std.proofs.Common.{◌≡◌, sym, subst, ℕ, suc, ◌+◌, ◌<◌, None, arith}
use Rattle.wl_level.specs.declared.Level.{Level}
use Rattle.wl_level.specs.Levels.{level_of}
use Rattle.wl_segments.specs.Lengths.{sample_at}
use Rattle.wl_topology.specs.Driven.{driven}
use Rattle.wl_machine.specs.Frames.{stuffed_end}
use Rattle.wl_node.specs.declared.setup.NodeSetup.{NodeSetup}
use Rattle.wl_node.specs.History.{History}
use Rattle.wl_phase.specs.Clocks.{steady_tick}
use Rattle.wl_phase.specs.Ways.{WayLaws}
use Rattle.wl_buses.specs.OneFrame.Clocked.{EdgeLaws, NoEdgeLaws}
use Rattle.wl_buses.specs.OneFrame.Expected.{IsOutset, Outset, expected_bits, expected_drove}
use Rattle.wl_buses.specs.OneFrame.Lines.{BeginsAfter}
use Rattle.wl_buses.specs.OneFrame.Machines.{bus_levels}
use Rattle.wl_buses.specs.OneFrame.Nodes.{IsRun}
use Rattle.wl_buses.specs.OneFrame.Stations.{AreStations, HaveRoom, Stations}
use Rattle.wl_buses.specs.FirstFrame.FirstStarts.{AreIdle, HandTheFirst, Waiting, first_outset, rest_first}
use Rattle.wl_buses.specs.FrameEnd.Again.{RestsAgain}
use Rattle.wl_buses.specs.OneListener.Beside.{with_listener}
use Rattle.wl_buses.specs.OneListener.Frames.{waiting_with}
use Rattle.wl_buses.proofs.FirstFrame.Beginning.{MayTogether}
use Rattle.wl_buses.proofs.FirstFrame.Resting.{NothingFound, nothing_first, rests_first}
use Rattle.wl_buses.proofs.FirstFrame.Silent.{IsUntouched}

module _ (together : MayTogether) (nothing : NothingFound) (ways : WayLaws) (calm : NoEdgeLaws) (edges : EdgeLaws) (s : Stations) (w : Waiting) (are : AreStations (with_listener s))
    (room : HaveRoom (with_listener s)) (idle : AreIdle (waiting_with s w)) (setups : ℕ → NodeSetup) (hand : HandTheFirst (waiting_with s w) setups)
    (outset : IsOutset (with_listener s) (first_outset (waiting_with s w)))
    (after_first : BeginsAfter (with_listener s) (first_outset (waiting_with s w)) s.count (rest_first (waiting_with s w) s.count)) (segments : (setups s.count).segments ≡ s.lengths s.count)
    (levels : ℕ → Level) (node : ℕ → History) (run : IsRun (setups s.count) levels node) where
  abbrev v : Waiting
  v = waiting_with s w

  abbrev x : Stations
  x = with_listener s

  abbrev rest : ℕ
  rest = rest_first v s.count

  -- what follows if it finds up to the start of a frame what that asks
  pub record Begun (o : Outset) : Type 0 where
    pub after : BeginsAfter x o s.count rest
    pub rests : RestsAgain x (o.past s.count) s.count levels node rest 0
    pub untouched : IsUntouched (node (suc (rest + sample_at (s.lengths s.count))))

  abbrev BeginsBy : ℕ → Outset → Type 0
  BeginsBy length o =
      ((n : ℕ) → n < length → stuffed_end (bus_levels x (expected_bits x o) n) ≡ None)
      → ((q : ℕ) → q < o.start.from s.count → levels q ≡ level_of (driven x.count s.delay (expected_drove x o length) s.count (steady_tick (s.clocks s.count) q))) → Begun o

  begun : (length : ℕ) → BeginsBy length (first_outset v)
  begun length valid finds =
      let inside : s.count < x.count = omega arith in
      let r = rests_first together nothing ways calm edges setups v are room idle hand outset length valid s.count inside segments levels node run finds in
      record {
        after = after_first;
        rests = record { sampled = r.sampled; clock = r.clock; stretch = r.stretch; over = r.over; counts = r.counts; drive = λ q low high. r.drive q high };
        untouched = nothing_first together nothing ways calm edges setups v are room idle hand outset length valid s.count inside segments levels node run finds (suc (rest + sample_at (s.lengths s.count))) (omega arith);
      }

  pub begun_by : (length : ℕ) (o : Outset) → o ≡ first_outset v → BeginsBy length o
  begun_by length o e = subst (BeginsBy length) (sym e) (begun length)
