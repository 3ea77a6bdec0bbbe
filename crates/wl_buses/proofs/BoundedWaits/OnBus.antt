-- The frames on a line as those that queues hand to a bus: when each begins, and which were ready then.
use Rattle.std.proofs.Common.{◌≡◌, ◌≢◌, ◌∙◌, ◌⊎◌, inl, inr, refl, sym, ap, ap₂, subst, ℕ, zero, suc, ◌+◌, ◌-◌, ◌*◌, ◌<◌, ◌≤◌, true, false, List, [], ◌∷◌, length, None, Some, arith}
use Rattle.std.proofs.lemmas.Bool.{both_ways, cases_Bool, cases_eq, cases_lt, lt-ltb}
use Rattle.std.proofs.Math.Nat.{mul-le-mul_left, mul-le-mul_right}
use Rattle.wl_segments.specs.Lengths.{bit_quanta}
use Rattle.wl_frame.specs.Grammar.{bits_of}
use Rattle.wl_frame.specs.Stuffing.{Stuffs}
use Rattle.wl_phase.specs.Clocks.{steady_tick}
use Rattle.wl_node.specs.declared.setup.NodeSetup.{NodeSetup}
use Rattle.wl_node.specs.declared.setup.Queued.{Queued}
use Rattle.wl_node.specs.declared.setup.QueueOrder.{QueueOrder}
use Rattle.wl_node.specs.declared.setup.QueueOrder.TheVariants.{Fifo, Priority}
use Rattle.wl_node.specs.Queues.{field_number, head_by}
use Rattle.wl_wire.specs.Winner.{Beats}
use Rattle.wl_buses.specs.BothProofs.Queues.{head_at}
use Rattle.wl_buses.proofs.Callers.{levels_length}
use Rattle.wl_buses.specs.FrameTimes.Times.{ComesWithin, Times, start_place, frame_time, following_place, tail_time}
use Rattle.wl_buses.specs.OneFrame.Expected.{expected_bits, expected_sample}
use Rattle.wl_buses.specs.OneFrame.Machines.{bus_levels}
use Rattle.wl_buses.specs.OneFrame.Stations.{AreStations, HaveRoom, Stations}
use Rattle.wl_buses.specs.FirstFrame.FirstStarts.{AreIdle, HandTheFirst}
use Rattle.wl_buses.specs.FrameEnd.Rests.{passing_bit}
use Rattle.wl_buses.specs.NextFrames.Frames.{FollowOneAnother, Frame, HasRoomForAll, IsBegun, IsBegunAfter, resting_of}
use Rattle.wl_buses.specs.NextFrames.NextStarts.{AreResting, begins_next, has_next}
use Rattle.wl_buses.proofs.NextFrames.Winning.{has_driven}
use Rattle.wl_buses.specs.CleanLines.Lines.{FramesOfLine, HaveSegments, decision_of, waiting_with}
use Rattle.wl_buses.specs.TakesPart.Decisions.{AllMayDecide}
use Rattle.wl_buses.specs.TakesPart.Takes.{IsReachedFirst}
use Rattle.wl_buses.specs.BoundedWaits.Lasting.{LastNoLonger, PassNoLonger}
use Rattle.wl_buses.specs.BoundedWaits.Leaving.{IsQueued, ready_won}
use Rattle.wl_buses.proofs.BoundedWaits.Leaving.{Goes, HaveOneField, Holds, all_go, all_less, far, first_low, handed_entry, handed_ready, least_low, of_queue}
use Rattle.wl_buses.specs.BoundedWaits.Messages.{AreReadyLate, DelayNoLonger, Delays, HaveMessages, IsEntry, Messages, terms_of}
use Rattle.wl_buses.proofs.BoundedWaits.Parts.{part_at, parts_of, product_but}
use Rattle.wl_buses.specs.BoundedWaits.QueuedFrames.{AreQueuedFrames, QueuedFrames}
use Rattle.wl_buses.proofs.BoundedWaits.Measure.{far_parts, in_units, near_parts, parts_up, quanta_on, some_parts, whole, within_parts}
use Rattle.wl_buses.proofs.BoundedWaits.Offered.{BeganLaws, FirstParts, HasHead, IsOffered, Parts, Readies, gap_before, left, offered_first, offered_next, one_prompt, prompt_place, start_is, start_of, wakes}
use Rattle.wl_buses.proofs.BoundedWaits.Scaling.{scaled}

-- the laws that this rests on
abbrev pub Rests : Type 0
Rests = (s : Stations) (a b : Frame) → AreStations s → HaveRoom s → IsBegun s a → (next : IsBegunAfter s a b) → AreResting (resting_of s a b next)

abbrev pub Once : Type 0
Once = (s : Stations) (a b : Frame) (chase : ℕ → ℕ) → AreStations s → HaveRoom s → HasRoomForAll s chase → AllMayDecide s chase → IsBegun s a → (next : IsBegunAfter s a b) → (i k : ℕ) → i < s.count
    → has_next (resting_of s a b next) k ≡ true → next.decides k ≡ 0 → begins_next (resting_of s a b next) i ≡ true → next.decides i ≡ 0

pub record ForwardLaws : Type 0 where
  pub own : (s : Stations) (frames : ℕ → Frame) (count : ℕ) → AreStations s → HaveRoom s → FollowOneAnother s frames count → (n k bit i : ℕ) → n < k → k < count → i < s.count
      → (expected_bits s (frames n).outset 0).place i < expected_sample s (frames k).outset bit i
  pub other : (s : Stations) (frames : ℕ → Frame) (count : ℕ) → AreStations s → HaveRoom s → FollowOneAnother s frames count → (n k bit i j : ℕ) → n < k → k < count → i < s.count → j < s.count → i ≢ j
      → steady_tick (s.clocks j) ((expected_bits s (frames n).outset 0).place j) < steady_tick (s.clocks i) (expected_sample s (frames k).outset bit i) + s.delay i j

-- the frame with which a node wins is the one that its queue handed it as it decided
abbrev pub Handed : (setups : ℕ → NodeSetup) (s : Stations) → FramesOfLine setups (waiting_with setups s) → Type 0
Handed setups s bus = (n : ℕ) (less : n < bus.count) → head_at (setups (bus.by.winner n)) (left setups s bus (bus.by.winner n) n) (decision_of setups (waiting_with setups s) bus n less) ≡ Some (bus.by.content n)

-- its frames in parts of a unit
abbrev pub frames_on : (setups : ℕ → NodeSetup) (s : Stations) → FramesOfLine setups (waiting_with setups s) → Times → Messages → QueuedFrames
frames_on setups s bus t ms = record {
  count = bus.count;
  message = λ n. ms.of (bus.by.winner n) (bus.by.content n);
  ready = λ n. part_at s t (bus.by.winner n) (ready_won s setups bus.frames bus.by.winner bus.by.content n);
  winner = bus.by.winner;
  begin = λ n. part_at s t (bus.by.winner n) (start_place s (bus.frames n) (bus.by.winner n));
  sent = λ n. part_at s t (bus.by.winner n) (expected_sample s (bus.frames n).outset (passing_bit (bus.frames n).bits (bus.by.winner n) (bus.by.winner n)) (bus.by.winner n));
  gap = gap_before setups s bus;
}

pub order_cases : (o : QueueOrder) → (o ≡ Fifo) ⊎ (o ≡ Priority)
order_cases Fifo = inl refl
order_cases Priority = inr refl

some_held : (u : List Queued) (n : ℕ) (x : Queued) → IsQueued u n x → 0 < length u
some_held [] n x is = absurd (let e : None ≡ Some x = is in cc)
some_held (q ∷ u) n x is = omega arith

module _ (setups : ℕ → NodeSetup) (s : Stations) (bus : FramesOfLine setups (waiting_with setups s)) (t : Times) (ms : Messages) (d : Delays) (of : HaveSegments setups s) (are : AreStations s) (room : HaveRoom s)
    (idle_at : AreIdle (waiting_with setups s)) (late_enough : AreReadyLate s setups) (have : HaveMessages s setups ms) (delays : DelayNoLonger s t ms d)
    (hands : HandTheFirst (waiting_with setups s) setups) (handed : Handed setups s bus) (began : BeganLaws) (rests : Rests) (readies : Readies) (parts : Parts) (first : FirstParts)
    (chase : ℕ → ℕ) (for_all : HasRoomForAll s chase) (decide : AllMayDecide s chase) (once : Once) (forward : ForwardLaws) (lasts : LastNoLonger s t) (passing : PassNoLonger s t) where
  abbrev D : ℕ
  D = parts_of s

  abbrev w : ℕ → ℕ
  w = bus.by.winner

  abbrev x : QueuedFrames
  x = frames_on setups s bus t ms

  abbrev at : ℕ → ℕ → ℕ
  at i q = part_at s t i q

  abbrev but : ℕ → ℕ
  but i = product_but (λ k. (s.clocks k).den) i s.count

  won_is : (n : ℕ) (less : n < bus.count) → (bus.are.each n less).won.station ≡ w n
  won_is n less = bus.by.wins n less

  pub wins : (n : ℕ) → n < bus.count → w n < s.count
  wins n less = subst (λ k. k < s.count) (won_is n less) (bus.are.each n less).won.inside

  offered : (n : ℕ) → n < bus.count → IsOffered setups s bus n
  offered zero less = offered_first setups s bus of are room began handed less hands first idle_at late_enough
  offered (suc n) less =
      offered_next setups s bus of are room began handed readies parts n less
      (rests s (bus.frames n) (bus.frames (suc n)) are room (bus.are.each n (omega arith)) (bus.are.next n less))

  -- each begins with a start of frame of its own
  none_joins : (n : ℕ) → n < bus.count → (k : ℕ) → (bus.frames n).outset.start.joins k ≡ false
  none_joins zero less k = ap (λ o. o.start.joins k) bus.first
  none_joins (suc n) less k = ap (λ o. o.start.joins k) (bus.are.next n less).is

  drives : (n : ℕ) → n < bus.count → (start_of setups s bus n).drives (w n) ≡ true
  drives n less =
      let won = (bus.are.each n less).won in
      subst (λ k. (start_of setups s bus n).drives k ≡ true) (won_is n less) (has_driven s (expected_bits s (bus.frames n).outset) (bus.frames n).bits won.station (none_joins n less won.station) won.sends)

  -- the entry of a frame
  abbrev u : ℕ → ℕ → List Queued
  u i n = left setups s bus i n

  abbrev ready_then : ℕ → ℕ
  ready_then n = ready_won s setups bus.frames bus.by.winner bus.by.content n

  abbrev message : ℕ → ℕ
  message n = ms.of (w n) (bus.by.content n)

  entry_of : (n : ℕ) → n < bus.count → (x : Queued) × Holds (u (w n) n) x × (x.frame ≡ bus.by.content n) × (x.ready ≡ ready_then n)
  entry_of n less = handed_entry (setups (w n)).order (u (w n) n) (decision_of setups (waiting_with setups s) bus n less) (bus.by.content n) (handed n less)

  in_queue : (i n : ℕ) (x : Queued) → Holds (u i n) x → Holds (setups i).queue x
  in_queue i n x h = of_queue s setups bus.frames bus.by.winner bus.by.content i n x h

  queued : (n : ℕ) → n < bus.count → (a : ℕ) × (q : Queued) × IsEntry setups (w n) a q × (q.frame ≡ bus.by.content n)
  queued n less = (let x = entry_of n less in let h = in_queue (w n) n x.0 x.1 in (h.0, x.0, h.1, x.2))

  goes : (i : ℕ) → i < s.count → Goes (ms.of i) ms.every (setups i).queue
  goes i inside m n p q low one other = (have.ordered i m n p q inside low one other, λ same. have.apart i m n p q inside low one other same)

  fields : (i : ℕ) → i < s.count → (setups i).order ≡ Priority → HaveOneField (ms.of i) ms.every (setups i).queue
  fields i inside prio p q one other same = have.one_field i one.0 other.0 p q inside prio one.1 other.1 same

  goes_then : (i n : ℕ) → i < s.count → Goes (ms.of i) ms.every (u i n)
  goes_then i n inside = all_go s setups bus.frames bus.by.winner bus.by.content i (ms.of i) ms.every (goes i inside) n

  -- a later frame of a queue is there before
  there_before : (n k : ℕ) → n ≤ k → (less : k < bus.count) → Holds (u (w k) n) (entry_of k less).0
  there_before n k low less = all_less s setups bus.frames bus.by.winner bus.by.content (w k) n k (entry_of k less).0 low (entry_of k less).1

  some_before : (n k : ℕ) → n ≤ k → k < bus.count → 0 < length (u (w k) n)
  some_before n k low less = (let h = there_before n k low less in some_held (u (w k) n) h.0 (entry_of k less).0 h.1)

  wakes_before : (n k : ℕ) → n ≤ k → k < bus.count → wakes setups s bus (w k) n ≤ ready_then k
  wakes_before n k low less =
      let h = there_before n k low less in
      let first = first_low (ms.of (w k)) ms.every (u (w k) n) h.0 (entry_of k less).0 (goes_then (w k) n (wins k less)) h.1 in
      let e = (entry_of k less).3 in
      omega arith

  -- a station that has one begins no sooner than it is ready
  begun : (n : ℕ) → n < bus.count → x.ready n ≤ x.begin n
  begun n less =
      let o = offered n less in
      let ready = handed_ready (setups (w n)).order (u (w n) n) (o.offers.decision (w n)) (bus.by.content n) o.own in
      let decided = o.part.decided (w n) (wins n less) (drives n less) in
      parts_up s are t (w n) (ready_then n) (start_place s (bus.frames n) (w n)) (omega arith)

  -- how much of a unit's parts a time of a station takes
  pub but_some : (i : ℕ) → i < s.count → 0 < but i
  but_some i inside = by (but i) (whole s are t i inside)
    where
      by : (b : ℕ) → (s.clocks i).den * b ≡ D → 0 < b
      by zero e = (let some = some_parts s are t in absurd (omega arith))
      by (suc b) e = omega arith

  less_units : (i u y : ℕ) → i < s.count → u < y * (s.clocks i).den → u * but i < y * D
  less_units i u y inside h =
      let m : suc u * but i ≤ y * D = in_units s are t i (suc u) y inside h in
      let some = but_some i inside in
      omega arith

  lead_own : (i : ℕ) → i < s.count → t.unit * ((bit_quanta (s.lengths i) - 1) * (s.clocks i).num) * but i < d.lead * D
  lead_own i inside = less_units i (t.unit * ((bit_quanta (s.lengths i) - 1) * (s.clocks i).num)) d.lead inside (delays.own i inside)

  lead_other : (i k : ℕ) → i < s.count → k < s.count → i ≢ k → t.unit * ((bit_quanta (s.lengths i) - 1) * (s.clocks i).num) * but i + t.unit * s.delay i k * D < d.lead * D
  lead_other i k inside there apart =
      let m = less_units i (t.unit * ((bit_quanta (s.lengths i) - 1) * (s.clocks i).num) + t.unit * s.delay i k * (s.clocks i).den) d.lead inside (delays.others i k inside there apart) in
      let e : t.unit * s.delay i k * ((s.clocks i).den * but i) ≡ t.unit * s.delay i k * D = ap (λ y. t.unit * s.delay i k * y) (whole s are t i inside) in
      omega arith

  -- a station with a frame to send, that is ready from a quantum on
  module _ (n : ℕ) (less : n < bus.count) (i : ℕ) (inside : i < s.count) (some : 0 < length (u i n)) (ready : ℕ) where
    abbrev o : IsOffered setups s bus n
    o = offered n less

    has_offer : o.offers.has i ≡ true
    has_offer = o.has i inside ∙ lt-ltb 0 (length (u i n)) some

    soon_parts : (q : ℕ) → q < ready + bit_quanta (s.lengths i) → at i q ≤ at i ready + t.unit * ((bit_quanta (s.lengths i) - 1) * (s.clocks i).num) * but i
    soon_parts q h =
        let up = parts_up s are t i q (ready + (bit_quanta (s.lengths i) - 1)) (omega arith) in
        let sum = quanta_on s are t i ready (bit_quanta (s.lengths i) - 1) in
        omega arith

    due_parts : at i (o.offers.due i) ≤ at i (o.offers.decision i) + d.wake * D
    due_parts =
        let due : at i (o.offers.due i) ≡ at i (o.offers.decision i + (s.lengths i).ps2) = ap (at i) (o.due i inside) in
        let sum = quanta_on s are t i (o.offers.decision i) (s.lengths i).ps2 in
        let wake = in_units s are t i (t.unit * ((s.lengths i).ps2 * (s.clocks i).num)) d.wake inside (delays.wakes i inside) in
        omega arith

    by_own : i ≡ w n → x.begin n ≤ at i (o.offers.due i)
    by_own same =
        let low = o.part.by_due i inside has_offer in
        let up = parts_up s are t i ((start_of setups s bus n).place i) (o.offers.due i) low in
        let e : at i ((start_of setups s bus n).place i) ≡ x.begin n = ap (λ k. at k ((start_of setups s bus n).place k)) same in
        omega arith

    by_other : i ≢ w n → x.begin n ≤ at i (o.offers.due i) + t.unit * s.delay i (w n) * D
    by_other apart =
        near_parts s are t (w n) i (start_place s (bus.frames n) (w n)) (o.offers.due i) (s.delay i (w n)) (wins n less) inside
        (o.part.near i (w n) inside (wins n less) apart has_offer)

    after_gap : wakes setups s bus i n ≤ ready → gap_before setups s bus n ≡ true → x.begin n < at i ready + d.lead * D + d.wake * D
    after_gap low gap =
        let late = o.soon i inside some (inr gap) in
        let soon = soon_parts (o.offers.decision i) (omega arith) in
        let due = due_parts in
        elim (cases_eq i (w n)) [
          | inl same ↦ (let by = by_own same in let lead = lead_own i inside in omega arith)
          | inr apart ↦ (let by = by_other apart in let lead = lead_other i (w n) inside (wins n less) apart in omega arith)
        ]

    -- it has decided before
    after_head : o.offers.decision i < ready → x.begin n < at i ready + d.lead * D
    after_head early =
        let due = o.due i inside in
        let soon = soon_parts (o.offers.due i) (omega arith) in
        elim (cases_eq i (w n)) [
          | inl same ↦ (let by = by_own same in let lead = lead_own i inside in omega arith)
          | inr apart ↦ (let by = by_other apart in let lead = lead_other i (w n) inside (wins n less) apart in omega arith)
        ]

    -- one that a start of frame has reached first
    module _ (none : (start_of setups s bus n).drives i ≡ false) where
      not_winner : i ≢ w n
      not_winner e = both_ways ((start_of setups s bus n).drives i) none (ap (start_of setups s bus n).drives e ∙ drives n less)

      reached_by : (y : IsReachedFirst s o.offers i) → x.begin n ≤ at i (o.offers.decision i) + t.unit * s.delay i (w n) * D
      reached_by y =
          let far = far_parts s are t i y.by (o.offers.decision i) (o.offers.due y.by) (s.delay y.by i) inside y.inside y.reached in
          elim (cases_eq y.by (w n)) [
            | inl same ↦
                (let low = o.part.by_due y.by y.inside y.offers in
                let up = parts_up s are t y.by ((start_of setups s bus n).place y.by) (o.offers.due y.by) low in
                let e : at y.by ((start_of setups s bus n).place y.by) ≡ x.begin n = ap (λ k. at k ((start_of setups s bus n).place k)) same in
                let one : 1 ≤ s.delay y.by i = are.line.later y.by i y.inside inside in
                let m : (t.unit * D) * 1 ≤ (t.unit * D) * s.delay y.by i = mul-le-mul_left (t.unit * D) one in
                omega arith)
            | inr other ↦
                (let near =
                near_parts s are t (w n) y.by (start_place s (bus.frames n) (w n)) (o.offers.due y.by) (s.delay y.by (w n)) (wins n less) y.inside
                (o.part.near y.by (w n) y.inside (wins n less) other y.offers) in
                let over = are.line.detours y.by i (w n) y.inside inside (wins n less) in
                let loop = are.line.later i i inside inside in
                let m : (t.unit * D) * (s.delay y.by (w n) + 1) ≤ (t.unit * D) * (s.delay y.by i + s.delay i (w n)) = mul-le-mul_left (t.unit * D) (omega arith) in
                omega arith)
          ]

      reached_late : wakes setups s bus i n ≤ ready → x.begin n < at i ready + d.lead * D
      reached_late low =
          let by = reached_by (o.part.missed i inside has_offer none) in
          let late = o.soon i inside some (inl none) in
          let soon = soon_parts (o.offers.decision i) (omega arith) in
          let lead = lead_other i (w n) inside (wins n less) not_winner in
          omega arith

  -- A node that takes part in a frame beyond a level, and doesn't mix levels, has no frame within it ready.
  module _ (m n k : ℕ) (low : n < k) (less : k < bus.count) (pure : ms.mixed m (w k) ≡ false) (beyond : ms.joins m (message n) ≡ false) (joins : ms.joins m (message k) ≡ true) where
    abbrev i : ℕ
    i = w k

    before : n < bus.count
    before = omega arith

    abbrev decision : ℕ
    decision = (offered n before).offers.decision i

    module _ (h : HasHead setups s bus n (w k) decision) where
      head_entry : (a : ℕ) × (q : Queued) × IsEntry setups i a q × (q.frame ≡ h.frame)
      head_entry = (let y = handed_entry (setups i).order (u i n) decision h.frame h.is in let q = in_queue i n y.0 y.1 in (q.0, y.0, q.1, y.2))

      -- its head is beyond the level too
      head_beyond : ms.joins m (ms.of i h.frame) ≡ true → ⊥
      head_beyond within = elim h.role [
        | inl won ↦ both_ways (ms.joins m (message n)) beyond (sym (ap₂ (λ j c. ms.joins m (ms.of j c)) won.0 won.1) ∙ within)
        | inr beats ↦
            (let a = queued n before in
            let b = head_entry in
            have.stronger m (w n) a.0 (w k) b.0 a.1 b.1 (wins n before) (wins k less) a.2 b.2 (ap (λ c. ms.joins m (ms.of (w n) c)) a.3 ∙ beyond) (ap (λ c. ms.joins m (ms.of (w k) c)) b.3 ∙ within)
            (subst (λ c. Beats c b.1.frame) (sym a.3) (subst (λ c. Beats (bus.by.content n) c) (sym b.3) beats)))
      ]

      not_fifo : (setups (w k)).order ≡ Fifo → ⊥
      not_fifo fifo = (let b = head_entry in head_beyond (ap (λ c. ms.joins m (ms.of (w k) c)) (sym b.3) ∙ have.within m (w k) b.0 b.1 (wins k less) fifo b.2 pure))

      before_ready : (setups (w k)).order ≡ Priority → decision < ready_then k
      before_ready prio = elim (cases_lt decision (ready_then k)) [
        | inl early ↦ early
        | inr by_then ↦
            (let y = there_before n k (omega arith) less in
            let e = entry_of k less in
            let same = e.3 in
            let least = least_low (ms.of (w k)) ms.every (u (w k) n) decision y.0 e.0 (goes_then (w k) n (wins k less)) y.1 (omega arith) in
            let head : Some least.0 ≡ Some h.frame = sym least.1 ∙ sym (ap (λ o. head_by o (u (w k) n) decision) prio) ∙ h.is in
            let b = head_entry in
            let z = in_queue (w k) n e.0 y in
            let low_field = least.2 in
            let field : field_number least.0 ≡ field_number b.1.frame = ap field_number ((let r : least.0 ≡ h.frame = cc in r) ∙ sym b.3) in
            elim (cases_Bool (ms.joins m (ms.of (w k) h.frame))) [
              | inl within ↦ absurd (head_beyond within)
              | inr over ↦
                  (let more = have.greater m (w k) b.0 z.0 b.1 e.0 (wins k less) prio b.2 z.1 (ap (λ c. ms.joins m (ms.of (w k) c)) b.3 ∙ over) (ap (λ c. ms.joins m (ms.of (w k) c)) e.2 ∙ joins) in
                  absurd (omega arith))
            ])
      ]

    late : x.begin n < x.ready k + d.lead * D
    late = elim (cases_Bool ((start_of setups s bus n).drives (w k))) [
      | inr none ↦
          reached_late n before (w k) (wins k less) (some_before n k (omega arith) less) (ready_then k) none (wakes_before n k (omega arith) less)
      | inl own ↦
          (let h = (offered n before).head (w k) (wins k less) own in
          elim (order_cases (setups (w k)).order) [
            | inl fifo ↦ absurd (not_fifo h fifo)
            | inr prio ↦ after_head n before (w k) (wins k less) (some_before n k (omega arith) less) (ready_then k) (before_ready h prio)
          ])
    ]

  -- lengths of frames
  bits_short : (n : ℕ) → n < bus.count → (bus.frames n).bits ≤ ms.bits (message n)
  bits_short n less =
      let won = (bus.are.each n less).won in
      let q = queued n less in
      let h : length (bus_levels s (expected_bits s (bus.frames n).outset) (bus.frames n).bits) ≤ ms.bits (message n) =
      subst (λ c. length (bus_levels s (expected_bits s (bus.frames n).outset) (bus.frames n).bits) ≤ ms.bits (ms.of (w n) c)) q.3
      (have.short (w n) q.0 q.1 (bus_levels s (expected_bits s (bus.frames n).outset) (bus.frames n).bits) (wins n less) q.2
      (subst (λ c. Stuffs (bus_levels s (expected_bits s (bus.frames n).outset) (bus.frames n).bits) (bits_of c)) (bus.by.wins_with n less ∙ sym q.3) won.stuffs)) in
      let e = levels_length s (expected_bits s (bus.frames n).outset) (bus.frames n).bits in
      omega arith

  cost_more : (a b : ℕ) → a ≤ b → frame_time t a * D ≤ frame_time t b * D
  cost_more a b h = (let m : (a + 13) * t.bit ≤ (b + 13) * t.bit = mul-le-mul_right t.bit (omega arith) in mul-le-mul_right D (omega arith))

  tail_more : (a b : ℕ) → a ≤ b → tail_time t a * D ≤ tail_time t b * D
  tail_more a b h = (let m : (a + 9) * t.bit ≤ (b + 9) * t.bit = mul-le-mul_right t.bit (omega arith) in mul-le-mul_right D (omega arith))

  ended : (n : ℕ) → n < bus.count → x.sent n ≤ x.begin n + tail_time t (ms.bits (message n)) * D
  ended n less =
      let f = bus.frames n in
      let h = passing (bus.frames n) (bus.are.each n less) (w n) (wins n less) in
      let g : ComesWithin s t (tail_time t f.bits) (w n) (expected_sample s f.outset (passing_bit f.bits (w n) (w n)) (w n)) (w n) (start_place s f (w n)) =
      subst (λ k. ComesWithin s t (tail_time t f.bits) (w n) (expected_sample s f.outset (passing_bit f.bits (w n) k) (w n)) k (start_place s f k)) (won_is n less) h in
      let parts = within_parts s are t (tail_time t f.bits) (w n) (expected_sample s f.outset (passing_bit f.bits (w n) (w n)) (w n)) (w n) (start_place s f (w n)) (wins n less) (wins n less) g in
      let more = tail_more f.bits (ms.bits (message n)) (bits_short n less) in
      omega arith

  -- without a gap the next winner begins a bit after its third one of the intermission
  next_in_time : (n : ℕ) (less : suc n < bus.count) → gap_before setups s bus (suc n) ≡ false → x.begin (suc n) ≤ x.begin n + frame_time t (ms.bits (message n)) * D
  next_in_time n less none =
      let f = bus.frames n in
      let was = bus.are.each n (omega arith) in
      let next = bus.are.next n less in
      let rested = rests s (bus.frames n) (bus.frames (suc n)) are room was next in
      let k = one_prompt setups s bus of are room began handed readies parts n less rested none in
      let own : begins_next (resting_of s (bus.frames n) (bus.frames (suc n)) next) (w (suc n)) ≡ true =
      ap (λ b. b.drives (w (suc n))) (sym (start_is setups s bus of are room began handed readies parts n less rested)) ∙ drives (suc n) less in
      let zero_is = once s (bus.frames n) (bus.frames (suc n)) chase are room for_all decide was next (w (suc n)) k.0 (wins (suc n) less) k.2 k.3 own in
      let low : start_place s (bus.frames (suc n)) (w (suc n)) ≤ following_place s (bus.frames n) (w (suc n)) =
      prompt_place setups s bus of are room began handed readies parts n less rested (w (suc n)) (wins (suc n) less) (some_before (suc n) (suc n) (omega arith) less) zero_is in
      let up = parts_up s are t (w (suc n)) (start_place s (bus.frames (suc n)) (w (suc n))) (following_place s f (w (suc n))) low in
      let h = lasts (bus.frames n) was (w (suc n)) (wins (suc n) less) in
      let g : ComesWithin s t (frame_time t f.bits) (w (suc n)) (following_place s f (w (suc n))) (w n) (start_place s f (w n)) =
      subst (λ j. ComesWithin s t (frame_time t f.bits) (w (suc n)) (following_place s f (w (suc n))) j (start_place s f j)) (won_is n (omega arith)) h in
      let parts = within_parts s are t (frame_time t f.bits) (w (suc n)) (following_place s f (w (suc n))) (w n) (start_place s f (w n)) (wins (suc n) less) (wins n (omega arith)) g in
      let more = cost_more f.bits (ms.bits (message n)) (bits_short n (omega arith)) in
      omega arith

  -- a later frame passes after this one has begun
  passes_later : (n k : ℕ) → n < k → k < bus.count → x.begin n < x.sent k + d.lead * D
  passes_later n k low less = elim (cases_eq (w k) (w n)) [
    | inl same ↦
        (let f = bus.frames k in
        let h = forward.own s bus.frames bus.count are room bus.are n k (passing_bit f.bits (w k) (w k)) (w k) low less (wins k less) in
        let up = parts_up s are t (w k) (start_place s (bus.frames n) (w k)) (expected_sample s f.outset (passing_bit f.bits (w k) (w k)) (w k)) (omega arith) in
        let e : at (w k) (start_place s (bus.frames n) (w k)) ≡ x.begin n = ap (λ j. at j (start_place s (bus.frames n) j)) same in
        let lead = lead_own (w k) (wins k less) in
        omega arith)
    | inr apart ↦
        (let f = bus.frames k in
        let h = forward.other s bus.frames bus.count are room bus.are n k (passing_bit f.bits (w k) (w k)) (w k) (w n) low less (wins k less) (wins n (omega arith)) apart in
        let near = near_parts s are t (w n) (w k) (start_place s (bus.frames n) (w n)) (expected_sample s f.outset (passing_bit f.bits (w k) (w k)) (w k)) (s.delay (w k) (w n)) (wins n (omega arith)) (wins k less) h in
        let lead = lead_other (w k) (w n) (wins k less) (wins n (omega arith)) apart in
        omega arith)
  ]

  node_is : (n : ℕ) → n < bus.count → ms.node (message n) ≡ w n
  node_is n less = (let q = queued n less in ap (λ c. ms.node (ms.of (w n) c)) (sym q.3) ∙ have.node (w n) q.0 q.1 (wins n less) q.2)

  -- a period later
  period_quanta : (j k : ℕ) → j < k → (less : k < bus.count) → message j ≡ message k → (w j ≡ w k) × (ready_then j + ms.every (message j) ≤ ready_then k)
  period_quanta j k low less same =
      let first : j < bus.count = omega arith in
      let node : w j ≡ w k = sym (node_is j first) ∙ ap ms.node same ∙ node_is k less in
      let e = entry_of k less in
      let apart =
      far s setups bus.frames bus.by.winner bus.by.content (w j) j k (decision_of setups (waiting_with setups s) bus j first) e.0 (ms.of (w j)) ms.every refl low (fields (w j) (wins j first)) (goes (w j) (wins j first))
      (handed j first) (subst (λ i. Holds (u i k) e.0) (sym node) e.1) (same ∙ ap (λ i. ms.of i (bus.by.content k)) (sym node) ∙ ap (ms.of (w j)) (sym e.2)) in
      let ready = e.3 in
      (node, (let r : ready_then j + ms.every (message j) ≤ ready_then k = omega arith in r))

  period_parts : (j k : ℕ) → j < k → k < bus.count → message j ≡ message k → x.ready j + d.period (message j) * D ≤ x.ready k
  period_parts j k low less same =
      let first : j < bus.count = omega arith in
      let h = period_quanta j k low less same in
      let up = parts_up s are t (w j) (ready_then j + ms.every (message j)) (ready_then k) h.1 in
      let sum = quanta_on s are t (w j) (ready_then j) (ms.every (message j)) in
      let p = delays.periods (w j) (message j) (wins j first) (node_is j first) in
      let m : (d.period (message j) * (s.clocks (w j)).den) * but (w j) ≤ t.unit * (ms.every (message j) * (s.clocks (w j)).num) * but (w j) = mul-le-mul_right (but (w j)) p in
      let e : d.period (message j) * ((s.clocks (w j)).den * but (w j)) ≡ d.period (message j) * D = ap (λ y. d.period (message j) * y) (whole s are t (w j) (wins j first)) in
      let same_clock : at (w j) (ready_then k) ≡ x.ready k = ap (λ i. at i (ready_then k)) h.0 in
      omega arith

  positive_parts : (e : ℕ) → 0 < d.period e * D
  positive_parts e =
      let p = delays.positive e in
      let some = some_parts s are t in
      let m : 1 * D ≤ d.period e * D = mul-le-mul_right D (let h : 1 ≤ d.period e = omega arith in h) in
      omega arith

  pub queued_on : AreQueuedFrames x (scaled D (terms_of t ms d))
  queued_on = record {
    known = λ n less. (let q = queued n less in subst (λ c. ms.of (w n) c < ms.count) q.3 (have.known (w n) q.0 q.1 (wins n less) q.2));
    node = node_is;
    sporadic = record { positive = positive_parts; apart = period_parts };
    own = λ n less. (let q = queued n less in subst (λ c. ms.joins (ms.of (w n) c) (ms.of (w n) c) ≡ true) q.3 (have.own (w n) q.0 q.1 (wins n less) q.2));
    pure = λ n less. (let q = queued n less in subst (λ c. ms.mixed (ms.of (w n) c) (w n) ≡ false) q.3 (have.pure (w n) q.0 q.1 (wins n less) q.2));
    begun = begun;
    ended = ended;
    next = next_in_time;
    passes = passes_later;
    late = late;
    first = refl;
    idle = λ n k low less gap. after_gap n (omega arith) (w k) (wins k less) (some_before n k low less) (ready_then k) (wakes_before n k low less) gap;
  }

  pub lead_some : 0 < s.count → 0 < d.lead * D
  lead_some inside = (let h = lead_own 0 inside in omega arith)
