-- Where the bits of a frame begin: none is late at the winner, and at the others none but by the way since an edge.
use Rattle.std.proofs.Common.{◌≡◌, ◌≢◌, ◌∙◌, ◌⊎◌, inl, inr, refl, sym, ap, subst, ℕ, zero, suc, ◌+◌, ◌-◌, ◌*◌, ◌<◌, ◌≤◌, ◌||◌, not, cond, true, false, Some, None, arith}
use Rattle.std.proofs.lemmas.Bool.{and_parts, cases_Bool, cases_eq, cases_lt, or_cases}
use Rattle.std.proofs.Math.Nat.{mul-le-mul_left, mul-le-mul_right}
use Rattle.wl_segments.specs.Lengths.{bit_quanta}
use Rattle.wl_topology.proofs.Callers.{any_none}
use Rattle.wl_machine.specs.Frames.{stuffed_end}
use Rattle.wl_phase.specs.Ways.{moved_to}
use Rattle.wl_buses.specs.OneFrame.Stations.{AreStations, HaveRoom, HaveRoomToSample, Stations, bit_drift, shared_instant, shared_quantum, shared_tick}
use Rattle.wl_buses.specs.OneFrame.Starts.{BeginBit, BeginsAlone, FollowsSoft, Start}
use Rattle.wl_buses.specs.OneFrame.OneBit.{AreRight}
use Rattle.wl_buses.specs.OneFrame.Course.{IsCourse, IsSampled, RightUpTo, begins_with_edge, bus_bit, since_edge, still_sends}
use Rattle.wl_buses.specs.OneFrame.Machines.{HasWon, bus_levels}
use Rattle.wl_buses.specs.OneFrame.Acknowledged.{CatchUp, IsAcknowledgedByAll, IsAnsweredByAll, answering, chased_way, recessive_bit}
use Rattle.wl_buses.specs.OneFrame.Expected.{IsOutset, Outset, expected_bits, expected_drove, expected_end}
use Rattle.wl_buses.proofs.OneFrame.Expecting.{course}
use Rattle.wl_buses.proofs.OneFrame.Measures.{instant_more}
use Rattle.wl_buses.proofs.OneFrame.Passing.{sampled_bit, still_before}
use Rattle.wl_buses.specs.FrameEnd.Again.{HasRoomToRest}
use Rattle.wl_buses.proofs.FrameEnd.Below.{MachineLaws}
use Rattle.wl_buses.proofs.FrameEnd.Placing.{place_after}
use Rattle.wl_buses.proofs.FrameEnd.Slot.{answered, delimiter_place, heard, last, last_is}

-- A bit that a station drives dominant begins no later than it is due, and any other one a jump later at most.
soft_in_time : (found jump due place : ℕ) → place ≡ moved_to (found - 1) jump due → found ≤ due → place ≤ due
soft_in_time found jump due place e early = omega arith

soft_by_jump : (aim jump due place : ℕ) → place ≡ moved_to aim jump due → place ≤ due + jump
soft_by_jump aim jump due place e = omega arith

-- a later quantum begins no earlier
pub instant_up : (s : Stations) (i k n q : ℕ) → n ≤ q → shared_instant s i k n ≤ shared_instant s i k q
instant_up s i k n q low =
    let more : n * (s.clocks i).num ≤ q * (s.clocks i).num = mul-le-mul_right (s.clocks i).num low in
    let all : (s.clocks k).den * (n * (s.clocks i).num) ≤ (s.clocks k).den * (q * (s.clocks i).num) = mul-le-mul_left (s.clocks k).den more in
    omega arith

module _ (s : Stations) (b : Start) (i : ℕ) where
  in_time : BeginsAlone s b i ⊎ FollowsSoft s b i → b.drives i ≡ true → b.place i ≤ b.due i
  in_time (inl alone) dominant = (let e = alone.place in omega arith)
  in_time (inr soft) dominant = soft_in_time soft.found (s.lengths i).sjw (b.due i) (b.place i) soft.place (soft.early dominant)

  by_jump : BeginsAlone s b i ⊎ FollowsSoft s b i → b.place i ≤ b.due i + (s.lengths i).sjw
  by_jump (inl alone) = (let e = alone.place in omega arith)
  by_jump (inr soft) = soft_by_jump (soft.found - 1) (s.lengths i).sjw (b.due i) (b.place i) soft.place

module _ (m : MachineLaws) (s : Stations) (are : AreStations s) (room : HaveRoom s) (o : Outset) (is : IsOutset s o) (end : ℕ)
    (valid : (n : ℕ) → n < end → stuffed_end (bus_levels s (expected_bits s o) n) ≡ None)
    (over : stuffed_end (bus_levels s (expected_bits s o) end) ≡ Some end) (won : HasWon s (expected_bits s o) o.frames end)
    (chase : ℕ → ℕ) (catch : CatchUp s won.station chase) (enough : HaveRoomToSample (answering s (chased_way s won.station chase)))
    (rest : HasRoomToRest s (chased_way s won.station chase)) where
  abbrev bits : ℕ → Start
  bits = expected_bits s o

  abbrev w : ℕ
  w = won.station

  abbrev quanta : ℕ → ℕ
  quanta i = bit_quanta (s.lengths i)

  goes : IsCourse s bits (expected_drove s o end) end (λ k. expected_end s o end)
  goes = course m.steps m.errors m.winner m.stuffed m.six m.ten s are room o is end valid

  bit_sampled : (n : ℕ) → n < end → IsSampled s bits (expected_drove s o end) n
  bit_sampled n less = sampled_bit s are room bits (expected_drove s o end) end (λ k. expected_end s o end) goes m.driven n less

  right_before : (n : ℕ) → n ≤ end → (i : ℕ) → i < s.count → RightUpTo s bits (expected_drove s o end) n i
  right_before n low i inside j less = (bit_sampled j (omega arith)).right i inside

  -- the winner sends up to the end
  sends_from : (n more : ℕ) → n + more ≡ end → still_sends s bits n w ≡ true
  sends_from n zero e = subst (λ k. still_sends s bits k w ≡ true) (let f : end ≡ n = omega arith in f) won.sends
  sends_from n (suc more) e = still_before s bits n w (sends_from (suc n) more (omega arith))

  sends_at : (n : ℕ) → n ≤ end → still_sends s bits n w ≡ true
  sends_at n low = sends_from n (end - n) (omega arith)

  -- so it drives each edge
  drives_edge : (n : ℕ) → suc n < end → begins_with_edge s bits (suc n) ≡ true → (bits (suc n)).drives w ≡ true
  drives_edge n less edge =
      let parts = and_parts (still_sends s bits (suc n) w) ((bits (suc n)).drives w || not (bus_bit s bits (suc n))) (sends_at (suc (suc n)) less) in
      let now : bus_bit s bits (suc n) ≡ true = (and_parts (not (bus_bit s bits n)) (bus_bit s bits (suc n)) edge).1 in
      elim (or_cases ((bits (suc n)).drives w) (not (bus_bit s bits (suc n))) parts.1) [
        | inl dominant ↦ dominant
        | inr recessive ↦ (let e : not (bus_bit s bits (suc n)) ≡ false = ap not now in cc)
      ]

  plain_bit : (n i : ℕ) → suc n < end → i < s.count → begins_with_edge s bits (suc n) ≡ false → (bits (suc n)).place i ≡ (bits n).place i + quanta i
  plain_bit n i less inside plain = (goes.plain n i less inside (right_before (suc n) (omega arith)) plain).0 ∙ goes.due n i inside

  stuffed_in_time : (n : ℕ) → suc n < end → (bits (suc n)).place w ≤ (bits n).place w + quanta w
  stuffed_in_time n less = elim (cases_Bool (begins_with_edge s bits (suc n))) [
    | inl edge ↦
        (let begins = goes.edge n less (right_before (suc n) (omega arith)) edge w won.inside in
        let place = in_time s (bits (suc n)) w begins (drives_edge n less edge) in
        let due = goes.due n w won.inside in
        omega arith)
    | inr plain ↦ (let e = plain_bit n w less won.inside plain in omega arith)
  ]

  abbrev z : ℕ
  z = last m s are room o is end valid over won

  z_is : suc z ≡ end
  z_is = last_is m s are room o is end valid over won

  delimiter : (i : ℕ) → (bits end).place i ≡ (bits z).place i + quanta i
  delimiter i = delimiter_place m s are room o is end valid over won i

  -- the ACK slot
  abbrev late : ℕ → ℕ → ℕ
  late = chased_way s w chase

  answer : IsAnsweredByAll s late w (bits end).place (bits (suc end)) (bits (suc (suc end))).from (expected_drove s o (end + 13)) (λ k. 0)
  answer = answered m s are room o is end valid over won chase catch enough (λ k. 0)

  hears : IsAcknowledgedByAll s late (bits end).place (bits (suc end)) (bits (suc (suc end))).from (expected_drove s o (end + 13)) (λ k. 0)
  hears = heard m s are room o is end valid over won chase catch enough (λ k. 0)

  right_there : AreRight s (recessive_bit (bits end).place) (expected_drove s o (end + 13))
  right_there i inside = hears.before i inside ∙ sym (any_none s.count (λ k. false) (λ k there. refl))

  slot_begins : BeginBit (answering s late) (bits (suc end))
  slot_begins = answer.begin right_there

  pub slot_by_jump : (bits (suc end)).place w ≤ (bits end).place w + quanta w + (s.lengths w).sjw
  slot_by_jump = (let place = by_jump (answering s late) (bits (suc end)) w (slot_begins w won.inside) in let due = answer.due w won.inside in omega arith)

  slot_in_time : (i : ℕ) → i < s.count → i ≢ w → (bits (suc end)).place i ≤ (bits end).place i + quanta i
  slot_in_time i inside other =
      (let place = in_time (answering s late) (bits (suc end)) i (slot_begins i inside) (answer.answers i inside other) in let due = answer.due i inside in omega arith)

  -- and after it each bit is a bit later
  pub after : (n i : ℕ) → n ≤ 11 → (bits (suc end + n)).place i ≡ (bits (suc end)).place i + n * quanta i
  after n i small = place_after m s are room o is end valid over won n i small

  after_next : (n i : ℕ) → end < n → n < end + 12 → (bits (suc n)).place i ≡ (bits n).place i + quanta i
  after_next n i later low =
      let one = after (n - suc end) i (omega arith) in
      let two = after (suc n - suc end) i (omega arith) in
      let e : suc end + (n - suc end) ≡ n = omega arith in
      let f : suc end + (suc n - suc end) ≡ suc n = omega arith in
      let a : (bits n).place i ≡ (bits (suc end)).place i + (n - suc end) * quanta i = ap (λ k. (bits k).place i) (sym e) ∙ one in
      let b : (bits (suc n)).place i ≡ (bits (suc end)).place i + (suc n - suc end) * quanta i = ap (λ k. (bits k).place i) (sym f) ∙ two in
      let g : (suc n - suc end) * quanta i ≡ (n - suc end) * quanta i + quanta i = (let h : suc n - suc end ≡ suc (n - suc end) = omega arith in ap (λ k. k * quanta i) h ∙ omega arith) in
      omega arith

  -- no bit is late at the winner but the slot
  pub bit_in_time : (n : ℕ) → n < end + 12 → n ≢ end → (bits (suc n)).place w ≤ (bits n).place w + quanta w
  bit_in_time n low other = elim (cases_lt (suc n) end) [
    | inl inside ↦ stuffed_in_time n inside
    | inr out ↦ elim (cases_eq n z) [
      | inl at_last ↦
          (let e = z_is in
          let d = delimiter w in
          let a : (bits (suc n)).place w ≡ (bits end).place w = ap (λ k. (bits k).place w) (ap suc at_last ∙ z_is) in
          let b : (bits n).place w ≡ (bits z).place w = ap (λ k. (bits k).place w) at_last in
          omega arith)
      | inr beyond ↦ (let e = z_is in let next = after_next n w (omega (arith, other, beyond)) low in omega arith)
    ]
  ]

  -- so many bits of the winner
  winner_by : (n : ℕ) → n < end → (bits n).place w ≤ (bits 0).place w + n * quanta w
  winner_by zero less = omega arith
  winner_by (suc n) less = (let old = winner_by n (omega arith) in let next = stuffed_in_time n less in omega arith)

  pub winner_slot : (bits (suc end)).place w ≤ (bits 0).place w + suc end * quanta w + (s.lengths w).sjw
  winner_slot =
      let e = z_is in
      let old = winner_by z (omega arith) in
      let d = delimiter w in
      let jump = slot_by_jump in
      let n : suc end * quanta w ≡ z * quanta w + 2 * quanta w = (let f : suc end ≡ z + 2 = omega arith in ap (λ k. k * quanta w) f ∙ omega arith) in
      omega arith

  -- Another station is late by its way since the last edge, and each bit since then is one of its own: so much more than as many of the longest bits.
  module _ (j : ℕ) (there : j < s.count) (other : j ≢ w) (unit bit : ℕ)
      (own : unit * (quanta j * shared_quantum s j w) ≤ bit * shared_tick s j w) (theirs : unit * (quanta w * shared_quantum s w j) ≤ bit * shared_tick s j w) where
    abbrev pub IsBy : (n q : ℕ) → Type 0
    IsBy n q = unit * (shared_instant s j w q + s.delay j w * shared_tick s j w) ≤ unit * (shared_instant s w j ((bits 0).place w) + s.way w j) + n * (bit * shared_tick s j w)

    close_edge : (n : ℕ) → n < end → since_edge s bits n ≡ 0
        → shared_instant s j w ((bits n).place j) + s.delay j w * shared_tick s j w < shared_instant s w j ((bits n).place w) + s.way w j
    close_edge n less e =
        let close = (bit_sampled n less).close j w there won.inside other (inr (sends_at (suc n) less)) in
        let drift : since_edge s bits n * bit_drift s j w ≡ 0 * bit_drift s j w = ap (λ k. k * bit_drift s j w) e in
        omega arith

    from_edge : (n : ℕ) → n < end → since_edge s bits n ≡ 0 → IsBy n ((bits n).place j)
    from_edge n less e =
        let close = close_edge n less e in
        let more = instant_up s w j ((bits n).place w) ((bits 0).place w + n * quanta w) (winner_by n less) in
        let sum = instant_more s are w j won.inside there ((bits 0).place w) (n * quanta w) in
        let times : n * (unit * (quanta w * shared_quantum s w j)) ≤ n * (bit * shared_tick s j w) = mul-le-mul_left n theirs in
        let all : unit * (shared_instant s j w ((bits n).place j) + s.delay j w * shared_tick s j w) ≤ unit * (shared_instant s w j ((bits 0).place w) + n * quanta w * shared_quantum s w j + s.way w j) =
        mul-le-mul_left unit (omega arith) in
        omega arith

    -- a bit of its own more
    own_more : (n q p : ℕ) → p ≤ q + quanta j → IsBy n q → IsBy (suc n) p
    own_more n q p next by =
        let up = instant_up s j w p (q + quanta j) next in
        let sum = instant_more s are j w there won.inside q (quanta j) in
        let all : unit * (shared_instant s j w p + s.delay j w * shared_tick s j w) ≤ unit * (shared_instant s j w q + quanta j * shared_quantum s j w + s.delay j w * shared_tick s j w) =
        mul-le-mul_left unit (omega arith) in
        omega arith

    by_bit : (n : ℕ) → n < end → IsBy n ((bits n).place j)
    by_bit zero less = from_edge zero less refl
    by_bit (suc n) less = elim (cases_Bool (begins_with_edge s bits (suc n))) [
      | inl edge ↦ from_edge (suc n) less (ap (λ b. cond b 0 (suc (since_edge s bits n))) edge)
      | inr plain ↦ own_more n ((bits n).place j) ((bits (suc n)).place j) (let e = plain_bit n j less there plain in omega arith) (by_bit n (omega arith))
    ]

    by_delimiter : IsBy end ((bits end).place j)
    by_delimiter = subst (λ n. IsBy n ((bits end).place j)) z_is (own_more z ((bits z).place j) ((bits end).place j) (let e = delimiter j in omega arith) (by_bit z (let e = z_is in omega arith)))

    pub other_by : (n : ℕ) → n ≤ 11 → IsBy (suc end + n) ((bits (suc end + n)).place j)
    other_by zero small =
        (let e : suc end + 0 ≡ suc end = omega arith in
        subst (λ n. IsBy n ((bits n).place j)) (sym e) (own_more end ((bits end).place j) ((bits (suc end)).place j) (slot_in_time j there other) by_delimiter))
    other_by (suc n) small =
        (let e : suc end + suc n ≡ suc (suc end + n) = omega arith in
        let next = after_next (suc end + n) j (omega arith) (omega arith) in
        subst (λ n. IsBy n ((bits n).place j)) (sym e) (own_more (suc end + n) ((bits (suc end + n)).place j) ((bits (suc (suc end + n))).place j) (omega arith) (other_by n (omega arith))))

    -- and one more bit
    pub other_next : (n : ℕ) → n ≤ 11 → IsBy (suc (suc end + n)) ((bits (suc end + n)).place j + quanta j)
    other_next n small = own_more (suc end + n) ((bits (suc end + n)).place j) ((bits (suc end + n)).place j + quanta j) (omega arith) (other_by n small)
