-- With room for acknowledgements each station finds the end of a frame.
use Rattle.std.proofs.Common.{◌≡◌, ◌∙◌, sym, ap, subst, ℕ, suc, ◌<◌, ◌≤◌, true, false, Some, None, arith}
use Rattle.wl_machine.specs.Frames.{stuffed_end}
use Rattle.wl_phase.specs.Clocks.{steady_tick}
use Rattle.wl_buses.specs.OneFrame.Stations.{AreStations, HaveRoom, HaveRoomToSample, Stations}
use Rattle.wl_buses.specs.OneFrame.Starts.{BeginBit, Drives, Start, reaches_at}
use Rattle.wl_buses.specs.OneFrame.Course.{bus_bit}
use Rattle.wl_buses.specs.OneFrame.Machines.{HasWon, bus_levels}
use Rattle.wl_buses.specs.OneFrame.Acknowledged.{CatchUp, answering, chased_way}
use Rattle.wl_buses.specs.OneFrame.Expected.{IsOutset, Outset, expected_bits, expected_sample}
use Rattle.wl_buses.specs.FrameEnd.Finds.{FindsTheEnd, IsAnsweredBy, finds_at, ack_slot}
use Rattle.wl_buses.proofs.FrameEnd.Below.{MachineLaws}
use Rattle.wl_buses.proofs.FrameEnd.Hearing as hearing
use Rattle.wl_buses.proofs.FrameEnd.Slot.{begin_slot, slot_is}

module _ (m : MachineLaws) (s : Stations) (are : AreStations s) (room : HaveRoom s) (o : Outset) (is : IsOutset s o) (end : ℕ)
    (valid : (n : ℕ) → n < end → stuffed_end (bus_levels s (expected_bits s o) n) ≡ None)
    (over : stuffed_end (bus_levels s (expected_bits s o) end) ≡ Some end) (won : HasWon s (expected_bits s o) o.frames end)
    (chase : ℕ → ℕ) (catch : CatchUp s won.station chase) (enough : HaveRoomToSample (answering s (chased_way s won.station chase))) (i : ℕ) (inside : i < s.count) where
  abbrev slot : Start
  slot = ack_slot s o end

  abbrev e : Start
  e = hearing.e m s are room o is end valid over won chase catch enough

  slot_e : slot ≡ e
  slot_e = slot_is m s are room o is end valid over won

  answered : (q : ℕ) → expected_sample s o end i < q → finds_at s o end i q ≡ true → IsAnsweredBy s o end i q
  answered q after x =
      let w = hearing.answerer m s are room o is end valid over won chase catch enough i q inside after x in
      let reach = w.reaches in
      let same : reaches_at s slot w.by i ≡ reaches_at s e w.by i = ap (λ b. reaches_at s b w.by i) slot_e in
      record { by = w.by; there = w.there; dominant = ap (λ b. b.drives w.by) slot_e ∙ w.dominant; reaches = omega arith }

  lasts : (k q : ℕ) → Drives s slot i k → reaches_at s slot k i ≤ steady_tick (s.clocks i) q → q ≤ expected_sample s o (suc end) i → finds_at s o end i q ≡ true
  lasts k q drives reach by_next =
      let same : reaches_at s slot k i ≡ reaches_at s e k i = ap (λ b. reaches_at s b k i) slot_e in
      hearing.answer_found m s are room o is end valid over won chase catch enough i q k inside drives.inside (ap (λ b. b.drives k) (sym slot_e) ∙ drives.dominant) (omega arith) by_next

  before : (n q : ℕ) → suc n ≡ end → bus_bit s (expected_bits s o) n ≡ false → expected_sample s o n i < q → q ≤ expected_sample s o end i → finds_at s o end i q ≡ false
  before n q same quiet after by_end =
      let z_is = hearing.z_is m s are room o is end valid over won chase catch enough in
      let e_n : n ≡ hearing.z m s are room o is end valid over won chase catch enough = omega arith in
      let f = ap (λ k. expected_sample s o k i) e_n in
      hearing.silent_delimiter m s are room o is end valid over won chase catch enough i q inside (ap (bus_bit s (expected_bits s o)) (sym e_n) ∙ quiet) (omega arith) by_end

  begin_all : BeginBit s slot
  begin_all = subst (BeginBit s) (sym slot_e) (begin_slot m s are room o is end valid over won chase catch enough)

  pub finds_the_end : FindsTheEnd s o end i
  finds_the_end = record {
    begin = begin_all i inside;
    later = λ k drives. hearing.slot_later m s are room o is end valid over won chase catch enough i k inside drives.inside;
    in_time = λ k drives. hearing.due_slot m s are room o is end valid over won chase catch enough i k inside drives.inside;
    before = before;
    delimiter = hearing.right_delimiter m s are room o is end valid over won chase catch enough i inside;
    answered = answered;
    lasts = lasts;
    slot = hearing.right_slot m s are room o is end valid over won chase catch enough i inside;
    silent = λ q from. hearing.silent_then m s are room o is end valid over won chase catch enough i q inside from;
  }
