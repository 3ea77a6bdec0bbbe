-- Each frame that stations begin or join has a winner, and another one follows it.
use Rattle.std.proofs.Common.{◌≡◌, refl, ℕ, ◌+◌, Bool, arith}
use Rattle.wl_wire.specs.Wire.{Handed}
use Rattle.wl_buses.specs.OneFrame.Stations.{AreStations, HaveRoom, Stations}
use Rattle.wl_buses.specs.OneFrame.Expected.{IsOutset, Outset, expected_bits, past_at}
use Rattle.wl_buses.specs.OneFrame.Machines.{HasWon}
use Rattle.wl_buses.specs.FrameEnd.Asked.{CanBeAnswered, EndsBefore}
use Rattle.wl_buses.specs.NextFrames.Frames.{Frame}
use Rattle.wl_buses.specs.NextFrames.NextStarts.{HaveMore}
use Rattle.wl_buses.specs.ThirdBit.ThirdFrames.{CanAllBeAnswered, FollowsFromThird, IsAnsweredFrame}
use Rattle.wl_buses.specs.ThirdBit.ThirdStarts.{MayJoin, is_in_third, outset_third, resting_from_second}
use Rattle.wl_buses.proofs.NextFrames.Winning.{PartEnds, has_begun}

-- the laws that this rests on
abbrev pub OneWins : Type 0
OneWins = (s : Stations) (o : Outset) (end : ℕ) → AreStations s → HaveRoom s → IsOutset s o → EndsBefore s o end → HasWon s (expected_bits s o) o.frames end

abbrev pub OutsetFollows : Type 0
OutsetFollows = (s : Stations) (o : Outset) (end : ℕ) (chase which decides : ℕ → ℕ) (given : ℕ → Handed) → AreStations s → HaveRoom s → IsOutset s o → EndsBefore s o end
    → (won : HasWon s (expected_bits s o) o.frames end) → CanBeAnswered s won.station chase → HaveMore s o.frames which
    → MayJoin (resting_from_second s o end which decides) (is_in_third s o end which decides) given
    → IsOutset s (outset_third (resting_from_second s o end which decides) (is_in_third s o end which decides) (past_at s o (end + 12)) given)

pub answered_by : PartEnds → OneWins → (s : Stations) (o : Outset) (chase : ℕ → ℕ) → AreStations s → HaveRoom s → CanAllBeAnswered s chase → IsOutset s o
    → (bits : ℕ) × IsAnsweredFrame s (record { outset = o; bits = bits })
answered_by part wins s o chase are room enough is =
    let b = part s o are room is in
    let ends : EndsBefore s o b.0 = record { none = b.1.going; there = b.1.over } in
    let won = wins s o b.0 are room is ends in
    let may = is.allowed won.station won.inside (has_begun s (expected_bits s o) b.0 won.station won.sends) in (
      b.0,
      record { outset = is; some = b.1.some; ends = ends; won = won; chase = chase; answer = enough won.station won.inside may },
    )

pub follows_by : PartEnds → OneWins → OutsetFollows → (s : Stations) (a : Frame) (chase which decides : ℕ → ℕ) (given : ℕ → Handed) → AreStations s → HaveRoom s → CanAllBeAnswered s chase
    → IsAnsweredFrame s a → HaveMore s a.outset.frames which
    → MayJoin (resting_from_second s a.outset a.bits which decides) (is_in_third s a.outset a.bits which decides) given → (b : Frame) × IsAnsweredFrame s b × FollowsFromThird s a b
follows_by part wins follows s a chase which decides given are room enough is more may =
    let out = follows s a.outset a.bits is.chase which decides given are room is.outset is.ends is.won is.answer more may in
    let b = answered_by part wins s (outset_third (resting_from_second s a.outset a.bits which decides) (is_in_third s a.outset a.bits which decides) (past_at s a.outset (a.bits + 12)) given) chase are room enough out in (
      record { outset = outset_third (resting_from_second s a.outset a.bits which decides) (is_in_third s a.outset a.bits which decides) (past_at s a.outset (a.bits + 12)) given; bits = b.0 },
      b.1,
      record { which = which; decides = decides; given = given; more = more; may = may; is = refl },
    )
