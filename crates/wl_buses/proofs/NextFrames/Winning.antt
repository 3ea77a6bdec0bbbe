-- One station has won each frame that stations begin, and another frame follows it.
use Rattle.std.proofs.Common.{◌≡◌, ◌∙◌, sym, ap, refl, ℕ, zero, suc, ◌+◌, ◌<◌, ◌≤◌, ◌||◌, not, Bool, true, false, List, [], ◌∷◌, ◌++◌, Some, None, arith}
use Rattle.std.proofs.lemmas.Bool.{and_parts}
use Rattle.wl_level.specs.Levels.{level_of}
use Rattle.wl_topology.proofs.Callers.{any_same}
use Rattle.wl_frame.specs.Grammar.{Content}
use Rattle.wl_machine.specs.Stretch.{Input}
use Rattle.wl_machine.specs.Stretch.Input.{Sample}
use Rattle.wl_machine.specs.Frames.{stuffed_end}
use Rattle.wl_wire.specs.Wire.{sampled}
use Rattle.wl_wire.specs.InStep.{AreSoundFrames}
use Rattle.wl_buses.specs.OneFrame.Course.{IsCourse, IsSampled, bus_bit, has_sent, still_sends}
use Rattle.wl_buses.specs.OneFrame.Ends.{HasStuffedBits}
use Rattle.wl_buses.specs.OneFrame.Expected.{IsOutset, Outset, expected_bits, expected_drove, expected_end, past_at, wants}
use Rattle.wl_buses.specs.OneFrame.Machines.{AllRight, AreMachines, HasWon, SomeBegins, bus_levels}
use Rattle.wl_buses.specs.OneFrame.OneBit.{IsRight}
use Rattle.wl_buses.specs.OneFrame.Starts.{Start}
use Rattle.wl_buses.specs.OneFrame.Stations.{AreOnALine, AreStations, HaveRoom, Stations}
use Rattle.wl_buses.proofs.OneFrame.Joining.{own_start}
use Rattle.wl_buses.proofs.OneFrame.Expecting.{drives_are}
use Rattle.wl_buses.specs.FrameEnd.Asked.{EndsBefore}
use Rattle.wl_buses.proofs.FrameEnd.Below.{MachineLaws}
use Rattle.wl_buses.specs.NextFrames.Frames.{IsBegunAfter, Frame, HasRoomForAll, IsBegun}
use Rattle.wl_buses.specs.NextFrames.NextStarts.{AreFreeNext, AreResting, HaveMore, Resting, outset_next, resting_after}

-- the laws that this rests on
abbrev pub OneLeft : Type 0
OneLeft = (s : Stations) (bits : ℕ → Start) (drove : ℕ → ℕ → Bool) (frames : ℕ → List Content) (past : ℕ → ℕ → List Input) (length : ℕ) → AreSoundFrames s.count frames
    → AreMachines s bits drove frames past length → SomeBegins s bits → (n : ℕ) → n ≤ length → AllRight s bits drove n → stuffed_end (bus_levels s bits n) ≡ Some n → HasWon s bits frames n

abbrev pub CourseLaw : Type 0
CourseLaw = (s : Stations) (o : Outset) (length : ℕ) → AreStations s → HaveRoom s → IsOutset s o → ((n : ℕ) → n < length → stuffed_end (bus_levels s (expected_bits s o) n) ≡ None)
    → IsCourse s (expected_bits s o) (expected_drove s o length) length (λ k. expected_end s o length)

abbrev pub SameBits : Type 0
SameBits = (s : Stations) (bits : ℕ → Start) (drove : ℕ → ℕ → Bool) (length : ℕ) (until : ℕ → ℕ) → AreStations s → HaveRoom s → IsCourse s bits drove length until → (n : ℕ) → n < length
    → IsSampled s bits drove n

pub winner : MachineLaws → OneLeft → CourseLaw → SameBits → (s : Stations) (o : Outset) (end : ℕ) → AreStations s → HaveRoom s → IsOutset s o → EndsBefore s o end → HasWon s (expected_bits s o) o.frames end
winner m left course same s o end are room is ends =
    left s (expected_bits s o) (expected_drove s o end) o.frames (past_at s o) end is.frames machines is.some end (omega arith) (λ i inside n less. right n less i inside) ends.there
  where
    right : (n : ℕ) → n < end → (i : ℕ) → i < s.count → IsRight s (expected_bits s o n) (expected_drove s o end) i
    right n less i inside = (same s (expected_bits s o) (expected_drove s o end) end (λ k. expected_end s o end) are room (course s o end are room is ends.none) n less).right i inside

    machines : AreMachines s (expected_bits s o) (expected_drove s o end) o.frames (past_at s o) end
    machines = record {
      earlier = is.earlier;
      handed = o.handed;
      reached = is.reached;
      begin = is.may;
      joins = is.joins;
      drives = λ n k less lt. drives_are m.steps m.errors m.winner m.stuffed m.six m.ten s are room o is n k;
      samples = λ n k less lt. ap (λ b. past_at s o n k ++ Sample (sampled (level_of b) (o.frames k) (o.handed n k)) ∷ [])
          (any_same s.count (wants s o n) (expected_bits s o n).drives (λ j inside. sym (drives_are m.steps m.errors m.winner m.stuffed m.six m.ten s are room o is n j)) ∙ sym (right n less k lt));
    }

-- the winner has begun the frame
pub has_begun : (s : Stations) (bits : ℕ → Start) (n k : ℕ) → still_sends s bits n k ≡ true → has_sent bits 0 k ≡ true
has_begun s bits zero k e = e
has_begun s bits (suc n) k e = has_begun s bits n k (and_parts (still_sends s bits n k) (has_sent bits n k || not (bus_bit s bits n)) e).0

-- with a start of frame of its own, if it joins none
pub has_driven : (s : Stations) (bits : ℕ → Start) (n k : ℕ) → (bits 0).joins k ≡ false → still_sends s bits n k ≡ true → (bits 0).drives k ≡ true
has_driven s bits n k none e = own_start ((bits 0).drives k) ((bits 0).joins k) none (has_begun s bits n k e)

abbrev pub PartEnds : Type 0
PartEnds = (s : Stations) (o : Outset) → AreStations s → HaveRoom s → IsOutset s o → (length : ℕ) × HasStuffedBits s o length

abbrev pub OutsetLaw : Type 0
OutsetLaw = (r : Resting) (before : ℕ → List Input) → AreOnALine r.stations → AreResting r → AreFreeNext r.stations.count r.frames before → IsOutset r.stations (outset_next r before)

-- so a frame that begins is one of these, whatever its outset
pub begun_by : MachineLaws → OneLeft → CourseLaw → SameBits → PartEnds → (s : Stations) (o : Outset) (chase : ℕ → ℕ) → AreStations s → HaveRoom s → HasRoomForAll s chase → IsOutset s o
    → (bits : ℕ) × IsBegun s (record { outset = o; bits = bits })
begun_by m left course same part s o chase are room enough is =
    let b = part s o are room is in
    let ends : EndsBefore s o b.0 = record { none = b.1.going; there = b.1.over } in
    let won = winner m left course same s o b.0 are room is ends in
    let may = is.allowed won.station won.inside (has_begun s (expected_bits s o) b.0 won.station won.sends) in
    let all = enough won.station won.inside may in (
      b.0,
      record { outset = is; some = b.1.some; ends = ends; won = won; chase = chase; answer = all.0; room = all.1 },
    )

pub another : MachineLaws → OneLeft → CourseLaw → SameBits → PartEnds → OutsetLaw
    → ((s : Stations) (a : Frame) (sent decides : ℕ → ℕ) → AreStations s → HaveRoom s → IsBegun s a → HaveMore s a.outset.frames sent → AreResting (resting_after s a.outset a.bits sent decides))
    → ((s : Stations) (a : Frame) → AreStations s → HaveRoom s → IsBegun s a → AreFreeNext s.count a.outset.frames (past_at s a.outset (a.bits + 12)))
    → (s : Stations) (a : Frame) (chase sent decides : ℕ → ℕ) → AreStations s → HaveRoom s → HasRoomForAll s chase → IsBegun s a → HaveMore s a.outset.frames sent
    → (b : Frame) × IsBegun s b × IsBegunAfter s a b
another m left course same part begins rest free s a chase sent decides are room enough is more =
    let o : Outset = outset_next (resting_after s a.outset a.bits sent decides) (past_at s a.outset (a.bits + 12)) in
    let out = begins (resting_after s a.outset a.bits sent decides) (past_at s a.outset (a.bits + 12)) are.line (rest s a sent decides are room is more) (free s a are room is) in
    let b = begun_by m left course same part s (outset_next (resting_after s a.outset a.bits sent decides) (past_at s a.outset (a.bits + 12))) chase are room enough out in (
      record { outset = outset_next (resting_after s a.outset a.bits sent decides) (past_at s a.outset (a.bits + 12)); bits = b.0 },
      b.1,
      record { which = sent; decides = decides; more = more; is = refl },
    )
