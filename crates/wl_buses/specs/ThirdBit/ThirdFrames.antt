-- Frames one after another on one line, each of which may begin in the third bit of the intermission of some stations.
use Rattle.std.specs.Prelude.{◌≡◌, ℕ, suc, ◌+◌, ◌<◌, true}
use Rattle.wl_wire.specs.Wire.{Handed}
use Rattle.wl_buses.specs.OneFrame.Stations.{Stations}
use Rattle.wl_buses.specs.OneFrame.Expected.{IsOutset, expected_bits, past_at}
use Rattle.wl_buses.specs.OneFrame.Machines.{HasWon}
use Rattle.wl_buses.specs.FrameEnd.Asked.{CanBeAnswered, EndsBefore}
use Rattle.wl_buses.specs.NextFrames.Frames.{Frame}
use Rattle.wl_buses.specs.NextFrames.NextStarts.{HaveMore}
use Rattle.wl_buses.specs.ThirdBit.ThirdStarts.{MayJoin, is_in_third, outset_third, resting_from_second}

-- It is one that stations are expected to drive, one of them has won, and it can be acknowledged: `IsBegun`, but for the room to rest.
pub record IsAnsweredFrame (s : Stations) (f : Frame) : Type 0 where
  pub outset : IsOutset s f.outset
  pub some : 0 < f.bits
  pub ends : EndsBefore s f.outset f.bits
  pub won : HasWon s (expected_bits s f.outset) f.outset.frames f.bits
  pub chase : ℕ → ℕ
  pub answer : CanBeAnswered s won.station chase

-- Frame b is begun next after frame a, by stations of which each has sampled the second bit of the intermission: with which later bit each decides to send, which of its frames, and what it is handed with its
-- sample of the start of frame if that reaches it in its third bit.
pub record FollowsFromThird (s : Stations) (a b : Frame) : Type 0 where
  pub which : ℕ → ℕ
  pub decides : ℕ → ℕ
  pub given : ℕ → Handed
  pub more : HaveMore s a.outset.frames which
  pub may : MayJoin (resting_from_second s a.outset a.bits which decides) (is_in_third s a.outset a.bits which decides) given
  pub is : b.outset
      ≡ outset_third (resting_from_second s a.outset a.bits which decides) (is_in_third s a.outset a.bits which decides) (past_at s a.outset (a.bits + 12)) given

-- There is room for the acknowledgement of a frame, whichever of the stations that may send has won.
abbrev pub CanAllBeAnswered : Stations → (chase : ℕ → ℕ) → Type 0
CanAllBeAnswered s chase = (w : ℕ) → w < s.count → s.may_send w ≡ true → CanBeAnswered s w chase
