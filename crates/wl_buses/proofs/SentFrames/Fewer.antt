-- The first of some frames that follow one another do so, too, and which frame has won doesn't depend on how their number is shown.
use Rattle.std.proofs.Common.{◌≡◌, ap, ℕ, ◌<◌, ◌≤◌, arith}
use denote.Struct.Props.{props}
use Rattle.wl_buses.specs.OneFrame.Stations.{Stations}
use Rattle.wl_buses.specs.NextFrames.Frames.{FollowOneAnother, Frame}

pub fewer : (s : Stations) (frames : ℕ → Frame) (count few : ℕ) → few ≤ count → FollowOneAnother s frames count → FollowOneAnother s frames few
fewer s frames count few by all = record { each = λ n less. all.each n (omega arith); next = λ n less. all.next n (omega arith) }

-- the winner of a frame and its content
pub same_winner : (s : Stations) (frames : ℕ → Frame) (count : ℕ) (all : FollowOneAnother s frames count) (n : ℕ) (a b : n < count)
    → ((all.each n a).won.station ≡ (all.each n b).won.station) × ((all.each n a).won.frame ≡ (all.each n b).won.frame)
same_winner s frames count all n a b =
    let p : IsProp (n < count) = hlevel props in
    (ap (λ (x : n < count). (all.each n x).won.station) (p a b), ap (λ (x : n < count). (all.each n x).won.frame) (p a b))
