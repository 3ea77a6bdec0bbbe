-- Room for a listener beside stations on a line, as if others heard it. This project's.
use Rattle.std.specs.Prelude.{◌≡◌, ℕ, ◌<◌, false, true}
use Rattle.wl_buses.specs.OneFrame.Acknowledged.{chased_way, most_overrun}
use Rattle.wl_buses.specs.OneFrame.Stations.{AreStations, HaveRoom, Stations}
use Rattle.wl_buses.specs.FirstFrame.FirstStarts.{Waiting}
use Rattle.wl_buses.specs.FrameEnd.Again.{HasRoomToRest}
use Rattle.wl_buses.specs.FrameEnd.Asked.{CanBeAnswered}
use Rattle.wl_buses.specs.HeardFrames.Joined.{MayJoin}
use Rattle.wl_buses.specs.NextFrames.Frames.{Frame}
use Rattle.wl_buses.specs.OneListener.Beside.{with_listener}
use Rattle.wl_buses.specs.OneListener.Muted.{FitsEleven, muted, muted_way}

-- The stations have room for acknowledgements and to rest, whoever of them wins, with one more that has no frames; and eleven bits' drift fits before the sample of that one.
pub record HasRoomBeside (s : Stations) (chase : ℕ → ℕ) : Type 0 where
  pub are : AreStations (with_listener s)
  pub room : HaveRoom (with_listener s)
  pub mute : s.may_send s.count ≡ false
  pub two : 1 < s.count
  pub answers : (w : ℕ) → w < s.count → s.may_send w ≡ true → CanBeAnswered (with_listener s) w chase
  pub rests : (w : ℕ) → w < s.count → s.may_send w ≡ true → HasRoomToRest (with_listener s) (chased_way (with_listener s) w chase)
  pub eleven : (w : ℕ) → w < s.count → s.may_send w ≡ true → FitsEleven s (chased_way (with_listener s) w chase)

-- That one may listen, if what it drives takes so many ticks longer to the others.
abbrev pub MayJoinMuted : (s : Stations) (far : ℕ) (w : Waiting) (frames : ℕ → Frame) (count : ℕ) (chase : ℕ → ℕ) → Type 0
MayJoinMuted s far w frames count chase = MayJoin s (muted s far).delay (muted s far).way (muted_way s far) w frames count chase (λ winner. most_overrun (with_listener s) winner chase)
