-- Frames one after another on one line, begun by any number of stations.
use Rattle.std.specs.Prelude.{◌≡◌, ℕ, suc, ◌+◌, ◌<◌, Bool, true}
use Rattle.wl_topology.specs.Driven.{any_below}
use Rattle.wl_buses.specs.OneFrame.Acknowledged.{chased_way}
use Rattle.wl_buses.specs.OneFrame.Expected.{IsOutset, Outset, expected_bits, expected_drove, expected_sample, past_at}
use Rattle.wl_buses.specs.OneFrame.Machines.{HasWon}
use Rattle.wl_buses.specs.OneFrame.Stations.{Stations}
use Rattle.wl_buses.specs.FrameEnd.Again.{HasRoomToRest}
use Rattle.wl_buses.specs.FrameEnd.Asked.{CanBeAnswered, EndsBefore}
use Rattle.wl_buses.specs.NextFrames.NextStarts.{HaveMore, Resting, outset_next, resting_after}

-- how a frame begins, and how many bits it has up to the end of its CRC sequence, stuff bits among them
pub record Frame : Type 0 where
  pub outset : Outset
  pub bits : ℕ

-- It is one that stations are expected to drive, one of them has won, it can be acknowledged, and all rest before the next one.
pub record IsBegun (s : Stations) (f : Frame) : Type 0 where
  pub outset : IsOutset s f.outset
  pub some : 0 < f.bits
  pub ends : EndsBefore s f.outset f.bits
  pub won : HasWon s (expected_bits s f.outset) f.outset.frames f.bits
  pub chase : ℕ → ℕ
  pub answer : CanBeAnswered s won.station chase
  pub room : HasRoomToRest s (chased_way s won.station chase)

-- Frame b is begun next after frame a, by stations that rest with the third bit of its intermission: with which later bit each decides to send, and which of its frames.
pub record IsBegunAfter (s : Stations) (a b : Frame) : Type 0 where
  pub which : ℕ → ℕ
  pub decides : ℕ → ℕ
  pub more : HaveMore s a.outset.frames which
  pub is : b.outset ≡ outset_next (resting_after s a.outset a.bits which decides) (past_at s a.outset (a.bits + 12))

pub record FollowOneAnother (s : Stations) (frames : ℕ → Frame) (count : ℕ) : Type 0 where
  pub each : (n : ℕ) → n < count → IsBegun s (frames n)
  pub next : (n : ℕ) → suc n < count → IsBegunAfter s (frames n) (frames (suc n))

-- The same of frames, and nothing of how they are acknowledged: what each station finds of that is said of it alone.
pub record IsOneFrame (s : Stations) (f : Frame) : Type 0 where
  pub outset : IsOutset s f.outset
  pub some : 0 < f.bits
  pub ends : EndsBefore s f.outset f.bits
  pub won : HasWon s (expected_bits s f.outset) f.outset.frames f.bits

pub record AreInOrder (s : Stations) (frames : ℕ → Frame) (count : ℕ) : Type 0 where
  pub each : (n : ℕ) → n < count → IsOneFrame s (frames n)
  pub next : (n : ℕ) → suc n < count → IsBegunAfter s (frames n) (frames (suc n))

abbrev pub frames_in_order : (s : Stations) (frames : ℕ → Frame) (count : ℕ) → FollowOneAnother s frames count → AreInOrder s frames count
frames_in_order s frames count are = record {
  each = λ n less. record { outset = (are.each n less).outset; some = (are.each n less).some; ends = (are.each n less).ends; won = (are.each n less).won };
  next = are.next;
}

-- the stations between two frames
abbrev pub resting_of : (s : Stations) (a b : Frame) → IsBegunAfter s a b → Resting
resting_of s a b next = resting_after s a.outset a.bits next.which next.decides

-- the quantum by which station i samples the third bit of the intermission
abbrev pub third_sample : Stations → Frame → ℕ → ℕ
third_sample s f i = expected_sample s f.outset (f.bits + 12) i

-- what is driven in one frame, and in all of them
abbrev pub frame_drove : Stations → Frame → (k t : ℕ) → Bool
frame_drove s f = expected_drove s f.outset (f.bits + 13)

abbrev pub frames_drove : Stations → (frames : ℕ → Frame) → (count : ℕ) → (k t : ℕ) → Bool
frames_drove s frames count k t = any_below count (λ n. frame_drove s (frames n) k t)

-- There is room for the acknowledgement of a frame, and for all to rest after it, whichever of the stations that may send has won.
abbrev pub HasRoomForAll : Stations → (chase : ℕ → ℕ) → Type 0
HasRoomForAll s chase = (w : ℕ) → w < s.count → s.may_send w ≡ true → CanBeAnswered s w chase × HasRoomToRest s (chased_way s w chase)
