-- The frame that has won is the one with which its station has joined the start of frame.
use Rattle.std.proofs.Common.{◌≡◌, ◌∙◌, refl, sym, ap, ℕ, zero, suc, ◌<◌, true, [], Some, None, arith}
use Rattle.std.specs.Prelude.{slice_get}
use Rattle.wl_frame.specs.Grammar.{Content}
use Rattle.wl_machine.specs.Frames.{stuffed_end}
use Rattle.wl_machine.specs.Judged.{head_of}
use Rattle.wl_buses.specs.OneFrame.Expected.{IsOutset, Outset, expected_bits}
use Rattle.wl_buses.specs.OneFrame.Joins.{JoinsWith}
use Rattle.wl_buses.specs.OneFrame.Machines.{HasWon, bus_levels}
use Rattle.wl_buses.specs.OneFrame.Stations.{AreStations, HaveRoom, Stations}
use Rattle.wl_buses.specs.FrameEnd.Asked.{EndsBefore}
use Rattle.wl_buses.proofs.SentFrames.Winning.{AskedLaw}

-- the law that this rests on
abbrev pub JoinsLaw : Type 0
JoinsLaw = (s : Stations) (o : Outset) (length : ℕ) → AreStations s → HaveRoom s → IsOutset s o → 0 < length
    → ((n : ℕ) → n < length → stuffed_end (bus_levels s (expected_bits s o) n) ≡ None) → (k : ℕ) → k < s.count → o.start.joins k ≡ true → (frame : Content) × JoinsWith s o length k frame

none_end : stuffed_end [] ≡ None
none_end = refl

pub won_with : JoinsLaw → AskedLaw → (s : Stations) (o : Outset) (end : ℕ) → AreStations s → HaveRoom s → IsOutset s o → EndsBefore s o end → (won : HasWon s (expected_bits s o) o.frames end)
    → o.start.joins won.station ≡ true → slice_get (o.frames won.station) (o.handed 0 won.station).which ≡ Some won.frame
won_with joins asked s o zero are room is ends won e = (let both : None ≡ Some 0 = sym none_end ∙ ends.there in cc)
won_with joins asked s o (suc n) are room is ends won e =
    let j = joins s o (suc n) are room is (omega arith) ends.none won.station won.inside e in
    j.1.handed ∙ sym (ap (λ y. head_of y.sort) (j.1.framing n (omega arith))) ∙ (asked s o (suc n) are room is ends won).own
