-- The machines of stations at the end of a frame, of which one sender is left.
use Rattle.std.specs.Prelude.{◌≡◌, ℕ, ◌+◌, ◌<◌, ◌≤◌, ◌==◌, ◌&&◌, not, true, List, Option, None, Some, if◌then◌else◌}
use Rattle.wl_level.specs.declared.Level.{Level}
use Rattle.wl_frame.specs.Stuffing.{destuffed_bits}
use Rattle.wl_frame.specs.Grammar.{Content, content_of, is_crc_right}
use Rattle.wl_machine.specs.declared.state.Role.TheVariants.{Rx, Tx}
use Rattle.wl_machine.specs.Frames.{frame_role, stuffed_end}
use Rattle.wl_machine.specs.Judged.{head_of, stretch_of}
use Rattle.wl_buses.specs.OneFrame.Stations.{HaveRoomToSample, Stations}
use Rattle.wl_buses.specs.OneFrame.Course.{bus_bit}
use Rattle.wl_buses.specs.OneFrame.Acknowledged.{CatchUp, answering, chased_way}
use Rattle.wl_buses.specs.OneFrame.Machines.{bus_levels}
use Rattle.wl_buses.specs.OneFrame.Expected.{Outset, expected_bits, past_at, wants}
use Rattle.wl_buses.specs.FrameEnd.Ends.{end_bit, end_stretch}

-- what was on the bus in the stuffed part
abbrev pub stuffed_levels : Stations → Outset → (end : ℕ) → List Level
stuffed_levels s o end = bus_levels s (expected_bits s o) end

-- The stuffed part of the frame that is expected ends before bit `end`.
pub record EndsBefore (s : Stations) (o : Outset) (end : ℕ) : Type 0 where
  pub none : (n : ℕ) → n < end → stuffed_end (stuffed_levels s o n) ≡ None
  pub there : stuffed_end (stuffed_levels s o end) ≡ Some end

-- The frame of the winner can be acknowledged: each other station catches up with it in so many edges, and there is room for acknowledgements.
pub record CanBeAnswered (s : Stations) (winner : ℕ) (chase : ℕ → ℕ) : Type 0 where
  pub catch : CatchUp s winner chase
  pub room : HaveRoomToSample (answering s (chased_way s winner chase))

-- the frame with which station k has begun, if it began one
abbrev pub begun_frame : Stations → Outset → (end k : ℕ) → Option Content
begun_frame s o end k = head_of (stretch_of (past_at s o end k)).sort

-- The stuffed part of a frame ends before bit `end`. One station is its sender, and its frame was on the bus. From then on each machine is where the end of a frame puts it: all but the
-- sender drive the ACK slot dominant, and nobody anything else (Bosch CAN 2.0 part B, section 3.2.1, ACK field).
pub record EndAsAsked (s : Stations) (o : Outset) (end sender : ℕ) (frame : Content) : Type 0 where
  pub own : begun_frame s o end sender ≡ Some frame
  pub role : (k : ℕ) → k < s.count → frame_role (begun_frame s o end k) (stuffed_levels s o end) ≡ (if k == sender then Tx else Rx)
  pub crc : is_crc_right (destuffed_bits (stuffed_levels s o end) end) ≡ true
  pub read : content_of (destuffed_bits (stuffed_levels s o end) end) ≡ frame
  pub stretch : (place k : ℕ) → place ≤ 12 → k < s.count → stretch_of (past_at s o (end + place) k) ≡ end_stretch (begun_frame s o end k) (stuffed_levels s o end) place
  pub drives : (place k : ℕ) → place ≤ 12 → k < s.count → wants s o (end + place) k ≡ (end_bit place && not (k == sender))
  pub bus : (place : ℕ) → place ≤ 12 → bus_bit s (expected_bits s o) (end + place) ≡ end_bit place
