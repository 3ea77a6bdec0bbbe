-- How long a frame lasts, in units of time, of which a tick has a number of one's choice. This project's.
use Rattle.std.specs.Prelude.{◌≡◌, ◌≢◌, ℕ, zero, suc, ◌+◌, ◌*◌, ◌/◌, ◌<◌, ◌≤◌, true}
use Rattle.wl_segments.specs.Lengths.{bit_quanta, sample_at}
use Rattle.wl_phase.specs.Clocks.{Steady, instant}
use Rattle.wl_buses.specs.OneFrame.Expected.{expected_bits, expected_sample}
use Rattle.wl_buses.specs.OneFrame.Stations.{Stations, shared_instant, shared_tick}
use Rattle.wl_buses.specs.FrameEnd.Lines.{next_due}
use Rattle.wl_buses.specs.FrameEnd.Rests.{passing_bit}
use Rattle.wl_buses.specs.NextFrames.Frames.{FollowOneAnother, Frame}

-- So many units are a tick, the longest bit, and the longest time from place 0 to the sample. The next frame may begin later by `shift` than the bits of this one say.
pub record Times : Type 0 where
  pub unit : ℕ
  pub bit : ℕ
  pub sample : ℕ
  pub shift : ℕ

-- No station takes longer. A bit of station i begins by the shift after that of a station k that may send, and no acknowledgement moves a sender by more (Bosch CAN 2.0 part B, section 10: the
-- resynchronisation jump width).
pub record TakeNoLonger (s : Stations) (t : Times) : Type 0 where
  pub bits : (i : ℕ) → i < s.count → t.unit * (bit_quanta (s.lengths i) * (s.clocks i).num) ≤ t.bit * (s.clocks i).den
  pub samples : (i : ℕ) → i < s.count → t.unit * (sample_at (s.lengths i) * (s.clocks i).num) ≤ t.sample * (s.clocks i).den
  pub lags : (i k : ℕ) → i < s.count → k < s.count → i ≢ k → s.may_send k ≡ true → t.unit * s.way k i ≤ (t.shift + t.unit * s.delay i k) * shared_tick s i k
  pub jumps : (k : ℕ) → k < s.count → s.may_send k ≡ true → t.unit * ((s.lengths k).sjw * (s.clocks k).num) ≤ t.shift * (s.clocks k).den

-- Quantum n of station i begins at most so much time after quantum p of station k. Both instants are exact.
pub record ComesWithin (s : Stations) (t : Times) (time i n k p : ℕ) : Type 0 where
  pub within : t.unit * shared_instant s i k n ≤ t.unit * shared_instant s k i p + time * shared_tick s i k

-- the instant of a quantum in whole units, rounded down
abbrev pub whole_instant : Times → Steady → ℕ → ℕ
whole_instant t c n = (t.unit * instant c n) / c.den

-- the quantum of place 0 of the start of frame at a station, and of the bit after the intermission
abbrev pub start_place : Stations → Frame → ℕ → ℕ
start_place s f i = (expected_bits s f.outset 0).place i

abbrev pub following_place : Stations → Frame → ℕ → ℕ
following_place s f i = next_due s f.outset f.bits i

-- the quantum with whose sample the frame of a winner passes station i, sent or received
abbrev pub passing_sample : Stations → Frame → (winner i : ℕ) → ℕ
passing_sample s f winner i = expected_sample s f.outset (passing_bit f.bits i winner) i

-- The time from place 0 of the winner's start of frame to that of the bit after the intermission, at any station. A frame has so many bits up to the end of its CRC sequence, ten more up to the end of
-- frame, and three of the intermission (Bosch CAN 2.0 part B, sections 3.2.1 and 3.2.5).
abbrev pub frame_time : Times → (bits : ℕ) → ℕ
frame_time t bits = (bits + 13) * t.bit + t.shift

-- the time from there to that sample
abbrev pub tail_time : Times → (bits : ℕ) → ℕ
tail_time t bits = (bits + 9) * t.bit + t.sample + t.shift

-- the times of n frames, from one of them on
abbrev pub frames_time : Times → (frames : ℕ → Frame) → (first n : ℕ) → ℕ
frames_time t frames first zero = 0
frames_time t frames first (suc n) = frames_time t frames first n + frame_time t (frames (first + n)).bits

-- the stations that win frames that follow one another
abbrev pub AreWinners : (s : Stations) (frames : ℕ → Frame) (count : ℕ) → FollowOneAnother s frames count → (winner : ℕ → ℕ) → Type 0
AreWinners s frames count are winner = (n : ℕ) (less : n < count) → (are.each n less).won.station ≡ winner n

-- There is no gap between n frames, from one of them on, and the next: the winner of each has had it ready by its third bit of the intermission of the frame before (Bosch CAN 2.0 part B, section
-- 3.2.5).
abbrev pub HaveNoGap : (s : Stations) (frames : ℕ → Frame) (count : ℕ) → FollowOneAnother s frames count → (winner : ℕ → ℕ) → (first n : ℕ) → Type 0
HaveNoGap s frames count are winner first n = (k : ℕ) (less : suc (first + k) < count) → k < n → (are.next (first + k) less).decides (winner (suc (first + k))) ≡ 0
