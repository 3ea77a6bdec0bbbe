-- The first frame on the bus of a plan, whole.
use Rattle.std.specs.Prelude.{ℕ, ◌+◌, List}
use Rattle.wl_frame.specs.Grammar.{Content}
use Rattle.wl_plan.specs.declared.plan.Plan.{Plan}
use Rattle.wl_plan.specs.PlanLine.{line_of, setup_at}
use Rattle.wl_buses.specs.OneFrame.Ends.{HasStuffedBits}
use Rattle.wl_buses.specs.OneFrame.Expected.{expected_bits}
use Rattle.wl_buses.specs.OneFrame.Lines.{IsBeforeEnd}
use Rattle.wl_buses.specs.OneFrame.Machines.{HasWon}
use Rattle.wl_buses.specs.OneFrame.Stations.{Stations}
use Rattle.wl_buses.specs.FirstFrame.FirstFrames.{outset_of}
use Rattle.wl_buses.specs.FrameEnd.Lines.{LineEnds}

-- It has so many bits up to the end of its CRC sequence. Up to a tick by which no node has sampled more than the third bit of the intermission all nodes do what is expected. One node has won the
-- arbitration and sent its frame, and each other one has received it (Bosch CAN 2.0 part B, section 3.1).
pub record FirstGetsThrough (plan : Plan) (queues : ℕ → List Content) (s : Stations) : Type 0 where
  pub bits : ℕ
  pub stuffed : HasStuffedBits s (outset_of plan queues s) bits
  pub ends : (stop : ℕ) → IsBeforeEnd (line_of plan) s (outset_of plan queues s) (bits + 13) stop
      → (won : HasWon s (expected_bits s (outset_of plan queues s)) queues bits)
      × LineEnds (line_of plan) (setup_at plan) s (outset_of plan queues s) bits won.station won.frame stop
