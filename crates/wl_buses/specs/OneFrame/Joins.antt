-- A station that joins a start of frame, and sends the bits after it.
use Rattle.std.specs.Prelude.{◌≡◌, ℕ, suc, ◌<◌, true, false, Some, slice_get}
use Rattle.wl_frame.specs.Grammar.{Content}
use Rattle.wl_machine.specs.declared.state.Role.TheVariants.{Tx}
use Rattle.wl_machine.specs.Frames.{frame_role}
use Rattle.wl_machine.specs.Judged.{stretch_of}
use Rattle.wl_machine.specs.Stretch.Sort.{Framing}
use Rattle.wl_machine.specs.States.{stretch_by}
use Rattle.wl_buses.specs.OneFrame.Stations.{Stations}
use Rattle.wl_buses.specs.OneFrame.Course.{still_sends}
use Rattle.wl_buses.specs.OneFrame.Machines.{bus_levels}
use Rattle.wl_buses.specs.OneFrame.Expected.{Outset, expected_bits, past_at}

-- Station k joins the start of frame with this frame, which it is handed with its sample of that: it drives no start of frame, and after each of so many bits it sends the frame, of which
-- it takes what was on the bus for its own bits. It is the transmitter as long as it still sends (Bosch CAN 2.0 part B, section 3.2.5, intermission).
pub record JoinsWith (s : Stations) (o : Outset) (length k : ℕ) (frame : Content) : Type 0 where
  pub handed : slice_get (o.frames k) (o.handed 0 k).which ≡ Some frame
  pub silent : o.start.drives k ≡ false
  pub framing : (n : ℕ) → n < length → stretch_of (past_at s o (suc n) k) ≡ stretch_by (Framing (Some frame)) (bus_levels s (expected_bits s o) (suc n))
  pub sends : still_sends s (expected_bits s o) 1 k ≡ true
  pub role : (n : ℕ) → n < length → still_sends s (expected_bits s o) (suc n) k ≡ true → frame_role (Some frame) (bus_levels s (expected_bits s o) (suc n)) ≡ Tx
  pub still : (n : ℕ) → n < length → frame_role (Some frame) (bus_levels s (expected_bits s o) (suc n)) ≡ Tx → still_sends s (expected_bits s o) (suc n) k ≡ true
