-- That frames last no longer than the times of a bus say.
use Rattle.std.specs.Prelude.{ℕ, ◌<◌}
use Rattle.wl_buses.specs.FrameTimes.Times.{ComesWithin, Times, start_place, frame_time, following_place, tail_time}
use Rattle.wl_buses.specs.OneFrame.Expected.{expected_sample}
use Rattle.wl_buses.specs.OneFrame.Stations.{Stations}
use Rattle.wl_buses.specs.FrameEnd.Rests.{passing_bit}
use Rattle.wl_buses.specs.NextFrames.Frames.{Frame, IsBegun}

-- From place 0 of the winner's start of frame to that of the bit after the intermission no more time passes than that of the frame, at each station.
abbrev pub LastNoLonger : Stations → Times → Type 0
LastNoLonger s t = (f : Frame) (b : IsBegun s f) (i : ℕ) → i < s.count → ComesWithin s t (frame_time t f.bits) i (following_place s f i) b.won.station (start_place s f b.won.station)

-- And it passes each by its tail.
abbrev pub PassNoLonger : Stations → Times → Type 0
PassNoLonger s t = (f : Frame) (b : IsBegun s f) (i : ℕ) → i < s.count
    → ComesWithin s t (tail_time t f.bits) i (expected_sample s f.outset (passing_bit f.bits i b.won.station) i) b.won.station (start_place s f b.won.station)
