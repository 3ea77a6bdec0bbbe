-- Where the stuffed part of a frame ends that stations are expected to drive.
use Rattle.std.specs.Prelude.{◌≡◌, ℕ, ◌<◌, Some, None}
use Rattle.wl_machine.specs.Frames.{stuffed_end}
use Rattle.wl_buses.specs.OneFrame.Stations.{Stations}
use Rattle.wl_buses.specs.OneFrame.Expected.{Outset, expected_bits}
use Rattle.wl_buses.specs.OneFrame.Machines.{bus_levels}

-- It has so many bits, from the start of frame to the last bit of the CRC sequence, stuff bits among them (Bosch CAN 2.0 part B, section 6).
pub record HasStuffedBits (s : Stations) (o : Outset) (length : ℕ) : Type 0 where
  pub some : 0 < length
  pub going : (n : ℕ) → n < length → stuffed_end (bus_levels s (expected_bits s o) n) ≡ None
  pub over : stuffed_end (bus_levels s (expected_bits s o) length) ≡ Some length
