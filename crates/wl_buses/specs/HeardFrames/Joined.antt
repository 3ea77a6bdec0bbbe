-- Frames that follow one another on a line, and the same frames with a station that only listens among its stations. This project's.
use Rattle.std.specs.Prelude.{◌≡◌, ℕ, ◌+◌, ◌<◌, false, true}
use Rattle.wl_segments.specs.Lengths.{bit_quanta}
use Rattle.wl_frame.specs.Grammar.{Content}
use Rattle.wl_phase.specs.Clocks.{steady_tick}
use Rattle.wl_buses.specs.OneFrame.Expected.{expected_bits}
use Rattle.wl_buses.specs.OneFrame.Stations.{AreStations, HaveRoom, Stations, with_longer_ways}
use Rattle.wl_buses.specs.FirstFrame.FirstStarts.{AreIdle, Waiting, first_outset}
use Rattle.wl_buses.specs.NextFrames.Frames.{AreInOrder, Frame, frames_drove}
use Rattle.wl_buses.specs.OneListener.Beside.{with_listener}
use Rattle.wl_buses.specs.OneListener.Ends.{CanBeHeard, HasRoomToRestBeside, others_gathered}
use Rattle.wl_buses.specs.OneListener.Frames.{CanAllBeHeard, waiting_with}

-- The same stations with other delays and ways. Those of the station after the last are the listener's.
abbrev pub on_line : Stations → (delay way : ℕ → ℕ → ℕ) → Stations
on_line s delay way = record s { delay = delay; way = way }

-- What the listener drives in a frame of stations reaches none of them before all have begun the ACK slot.
abbrev pub IsFarFrom : (s : Stations) (delay : ℕ → ℕ → ℕ) → Frame → Type 0
IsFarFrom s delay f = (i k : ℕ) → i < s.count → k < s.count
    → steady_tick (s.clocks k) ((expected_bits s f.outset f.bits).place k + bit_quanta (s.lengths k)) + s.delay k i < delay s.count i

-- A station after the last may listen to these frames: it has none to send, and what it drives reaches no other. It has room beside the others, whoever of them wins, and all are idle before the first frame.
pub record MayJoin (s : Stations) (delay way late : ℕ → ℕ → ℕ) (w : Waiting) (frames : ℕ → Frame) (count : ℕ) (chase : ℕ → ℕ) (more : ℕ → ℕ → ℕ) : Type 0 where
  pub delays : (i k : ℕ) → i < s.count → k < s.count → delay i k ≡ s.delay i k
  pub two : 1 < s.count
  pub mute : s.may_send s.count ≡ false
  pub are : AreStations (with_listener (on_line s delay way))
  pub room : HaveRoom (with_listener (on_line s delay way))
  pub idle : AreIdle (waiting_with (on_line s delay way) w)
  pub can : (winner : ℕ) → winner < s.count → s.may_send winner ≡ true → CanBeHeard (on_line s delay way) winner late chase (more winner)
  pub rest : (winner : ℕ) → winner < s.count → s.may_send winner ≡ true
      → HasRoomToRestBeside (on_line s delay way) (with_longer_ways (others_gathered (on_line s delay way) winner late chase) (more winner)).way
  pub far : (n : ℕ) → n < count → IsFarFrom s delay (frames n)

-- Frames that the stations are expected to drive with the listener among them: of the others they are the same, bit by bit and tick by tick, and each of the same content. All that is asked of such frames
-- is met, so that the listener receives each (`CanAllBeHeard`).
pub record JoinsFrames (s : Stations) (delay way late : ℕ → ℕ → ℕ) (w : Waiting) (frames : ℕ → Frame) (count : ℕ) (chase : ℕ → ℕ) (content : ℕ → Content) : Type 0 where
  pub joined : ℕ → Frame
  pub are : AreInOrder (with_listener (on_line s delay way)) joined count
  pub first : (joined 0).outset ≡ first_outset (waiting_with (on_line s delay way) w)
  pub more : ℕ → ℕ → ℕ
  pub can : CanAllBeHeard (on_line s delay way) joined count are late chase more
  pub wins : (n : ℕ) (less : n < count) → (are.each n less).won.frame ≡ content n
  pub bits : (n : ℕ) → (joined n).bits ≡ (frames n).bits
  pub places : (n bit i : ℕ) → n < count → bit < (frames n).bits + 13 → i < s.count
      → (expected_bits (with_listener (on_line s delay way)) (joined n).outset bit).place i ≡ (expected_bits s (frames n).outset bit).place i
  pub drove : (i t : ℕ) → i < s.count → frames_drove (with_listener (on_line s delay way)) joined count i t ≡ frames_drove s frames count i t
