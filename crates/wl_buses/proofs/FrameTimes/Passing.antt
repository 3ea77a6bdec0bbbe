-- The frames of a plan pass its nodes in time.
use Rattle.std.proofs.Common.{◌≡◌, subst, ℕ, ◌+◌, ◌<◌}
use Rattle.wl_plan.specs.declared.plan.Plan.{Plan}
use Rattle.wl_buses.specs.OneFrame.Stations.{AreOnALine, AreStations, HaveRoom, Stations}
use Rattle.wl_buses.specs.NextFrames.Frames.{Frame, IsBegun}
use Rattle.wl_buses.specs.CleanPlans.Clean.{AllGetThrough}
use Rattle.wl_buses.specs.FrameTimes.PlanTimes.{PassByTheirTails}
use Rattle.wl_buses.specs.FrameTimes.Times.{ComesWithin, TakeNoLonger, Times, passing_sample, start_place, tail_time, whole_instant}
use Rattle.wl_buses.proofs.FrameTimes.Unbroken.{PassesLaw}

-- the law that this rests on
abbrev pub LaterLaw : Type 0
LaterLaw = (s : Stations) (t : Times) (time i n q k p : ℕ) → AreOnALine s → i < s.count → k < s.count → ComesWithin s t time i n k p
    → whole_instant t (s.clocks k) p + time < whole_instant t (s.clocks i) q → n < q

-- by then a station has the sample with which a frame passes it, whichever station is said to have won
pub passed_by : PassesLaw → LaterLaw → (s : Stations) (f : Frame) (t : Times) → AreStations s → HaveRoom s → (b : IsBegun s f) → TakeNoLonger s t → (w i k : ℕ) → b.won.station ≡ w → i < s.count
    → whole_instant t (s.clocks w) (start_place s f w) + tail_time t f.bits < whole_instant t (s.clocks i) k → passing_sample s f w i < k
passed_by passes later s f t are room b take w i k wins inside =
    subst (λ j. whole_instant t (s.clocks j) (start_place s f j) + tail_time t f.bits < whole_instant t (s.clocks i) k → passing_sample s f j i < k) wins
    (later s t (tail_time t f.bits) i (passing_sample s f b.won.station i) k b.won.station (start_place s f b.won.station) are.line inside b.won.inside (passes s f t are room b take i inside))

pub pass_in_time : PassesLaw → LaterLaw → (plan : Plan) (s : Stations) (t : Times) → AreStations s → HaveRoom s → TakeNoLonger s t → (all : AllGetThrough plan s) → PassByTheirTails plan s t all
pass_in_time passes later plan s t are room take all i k n inside early less late =
    all.in_time i k n inside early less (passed_by passes later s (all.bus.frames n) t are room (all.bus.are.each n less) take (all.bus.by.winner n) i k (all.bus.by.wins n less) inside late)
