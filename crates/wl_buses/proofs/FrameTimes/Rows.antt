-- Worked times of frames, by computation.
use Rattle.std.proofs.Common.{◌≡◌, ◌-◌, ◌*◌, ◌/◌, true, false, refl}
use Rattle.wl_segments.specs.declared.SyncRules.TheVariants.{Book}
use Rattle.wl_bound.specs.Families.{Bus}
use Rattle.wl_buses.specs.FrameTimes.Times.{frame_time, tail_time, whole_instant}
use Rattle.wl_buses.specs.FrameTimes.BusTimes.{bit_times, bus_times, lag_time}

-- A base frame of eight bytes has 98 bits up to the end of its CRC sequence (Bosch CAN 2.0 part B, section 3.2.1). With its stuff bits it has 122 at most, since 4 * 122 <= 5 * 98 - 1.
most_bits : (5 * 98 - 1) / 4 ≡ 122
most_bits = refl

-- At 500 kbit/s with quanta of 125 ns, in ns: a bit takes 2000, and its sample comes after 13 of 16 quanta. Between two nodes are 225.
two_nodes : Bus
two_nodes = record {
  nodes = 2;
  tick = 1;
  shortest = λ i. 125;
  longest = λ i. 125;
  turns = λ i. 0;
  lengths = λ i. record { prop = 6; ps1 = 6; ps2 = 3; sjw = 3; sync = Book };
  sends = λ i. true;
  delay = λ i j. 225;
  added = λ i j. 0;
  listens = λ i. false;
}

-- the bit of the other node may begin 225 ns later, and the greatest jump are three quanta
lag : lag_time two_nodes 0 1 ≡ 225
unfolding two_nodes
lag = refl

times : bus_times two_nodes ≡ record { unit = 1; bit = 2000; sample = 1625; shift = 375 }
unfolding two_nodes
times = refl

simple : bit_times two_nodes ≡ record { unit = 1; bit = 2000; sample = 1625; shift = 2000 }
unfolding two_nodes
simple = refl

-- So the longest base frame of eight bytes takes 135 bits and the shift up to the next start of frame, and up to the sample of its last bit 131 bits, the way to a sample and the shift.
frame : frame_time (record { unit = 1; bit = 2000; sample = 1625; shift = 375 }) 122 ≡ 270375
frame = refl

tail : tail_time (record { unit = 1; bit = 2000; sample = 1625; shift = 375 }) 122 ≡ 264000
tail = refl

-- a quantum of 7 / 3 ticks after another one, in sixths of a tick
instant : whole_instant (record { unit = 6; bit = 0; sample = 0; shift = 0 }) (record { offset = 5; part = 0; num = 7; den = 3 }) 1 ≡ 44
instant = refl
