-- What the clocks and delays of a bus with one sender have to meet wherever within its tolerance each clock lies, in whole numbers.
use Rattle.std.specs.Prelude.{◌≢◌, ℕ, ◌+◌, ◌-◌, ◌*◌, ◌<◌, ◌≤◌}
use Rattle.wl_segments.specs.Lengths.{sample_at, bit_quanta}
use Rattle.wl_buses.specs.OneSender.OneSender.{SenderBus, IsListener, lengths_of}

-- By nodes, the shortest and the longest quantum that the tolerance of its clock admits, in units. A tick has so many.
pub record Tolerance : Type 0 where
  pub units : ℕ
  pub shortest : ℕ → ℕ
  pub longest : ℕ → ℕ

-- each clock lies within it
pub record IsWithinTolerance (t : Tolerance) (b : SenderBus) : Type 0 where
  pub some : 0 < t.units
  pub slowest : (i : ℕ) → i < b.line.nodes → t.units * (b.clocks i).num ≤ t.longest i * (b.clocks i).den
  pub fastest : (i : ℕ) → i < b.line.nodes → t.shortest i * (b.clocks i).den ≤ t.units * (b.clocks i).num

-- the shortest and the longest bit of a node
abbrev pub fastest_bit : Tolerance → SenderBus → ℕ → ℕ
fastest_bit t b i = bit_quanta (lengths_of b i) * t.shortest i

abbrev pub slowest_bit : Tolerance → SenderBus → ℕ → ℕ
slowest_bit t b i = bit_quanta (lengths_of b i) * t.longest i

-- by how much a bit of node i may be longer than one of node j
abbrev pub longer_bit : Tolerance → SenderBus → (i j : ℕ) → ℕ
longer_bit t b i j = slowest_bit t b i - fastest_bit t b j

-- from one node over another one to a third, in units
abbrev pub way_over : Tolerance → SenderBus → (i j k : ℕ) → ℕ
way_over t b i j k = (b.line.delay i j + b.line.delay j k) * t.units

-- The inequalities, of listeners i and j, the sender, and any node w. No clock is named in them: drift within the jump widths, and the way there and back (Bosch CAN 2.0
-- part B, section 10).
pub record FitClocks (t : Tolerance) (b : SenderBus) : Type 0 where
  -- ten bits of either are within the jump width of the other, and of the sender's own, and its next bit comes after the sample
  pub slow : (j : ℕ) → IsListener b j → 10 * slowest_bit t b b.sender ≤ 10 * fastest_bit t b j + (lengths_of b j).sjw * t.shortest j
  pub fast : (j : ℕ) → IsListener b j → 10 * slowest_bit t b j ≤ 10 * fastest_bit t b b.sender + (lengths_of b j).sjw * t.longest j
  pub sample : (j : ℕ) → IsListener b j → 10 * slowest_bit t b j + t.units ≤ 10 * fastest_bit t b b.sender + (lengths_of b j).ps2 * t.longest j
  pub jump : (j : ℕ) → IsListener b j → 10 * slowest_bit t b b.sender ≤ 10 * fastest_bit t b j + (lengths_of b b.sender).sjw * t.longest b.sender
  -- what a node drives comes back to it by its sample
  pub loops : (j : ℕ) → IsListener b j → b.line.delay j j * t.units ≤ sample_at (lengths_of b j) * t.shortest j
  -- an acknowledgement comes after the sender's sample of the CRC delimiter, and after that of each other listener
  pub after_sample : (j : ℕ) → IsListener b j
      → t.longest j + 2 * t.units + 10 * longer_bit t b b.sender j ≤ (lengths_of b b.sender).ps2 * t.shortest b.sender + way_over t b b.sender j b.sender
  pub apart : (i j : ℕ) → IsListener b i → IsListener b j → i ≢ j
      → t.longest i + 2 * t.units + 10 * longer_bit t b j i + b.line.delay b.sender j * t.units ≤ (lengths_of b j).ps2 * t.shortest j + way_over t b b.sender i j
  -- it is over by the sender's sample of the ACK delimiter, there and back, and by that of each other listener
  pub ends_there : (j : ℕ) → IsListener b j
      → way_over t b b.sender j b.sender + 11 * longer_bit t b j b.sender ≤ sample_at (lengths_of b b.sender) * t.shortest b.sender
  pub ends : (i j : ℕ) → IsListener b i → IsListener b j → i ≢ j
      → t.longest j + t.units + 11 * longer_bit t b i j + way_over t b b.sender i j
      ≤ sample_at (lengths_of b j) * t.shortest j + b.line.delay b.sender j * t.units
  -- One that comes before another node's slot has begun moves that node. It lasts until the sample that it moves, and all others are over by the one after that.
  pub lasts : (i j : ℕ) → IsListener b i → IsListener b j → i ≢ j → 10 * longer_bit t b j i + t.units ≤ (lengths_of b j).ps2 * t.shortest j
  pub jumps : (i j : ℕ) → IsListener b i → IsListener b j → i ≢ j → 10 * longer_bit t b j i ≤ (lengths_of b j).sjw * t.shortest j
  pub moved : (i j w : ℕ) → IsListener b i → IsListener b j → i ≢ j → w < b.line.nodes → w ≢ i → w ≢ j
      → 10 * longer_bit t b j i + longer_bit t b j w + way_over t b b.sender j w + t.longest i + 2 * t.units + t.longest w
      ≤ way_over t b b.sender i w + sample_at (lengths_of b w) * t.shortest w
