-- What a station that only listens finds at the end of a frame.
use Rattle.std.proofs.Common.{◌≡◌, ◌≢◌, ◌∙◌, inl, inr, sym, ap, subst, ℕ, zero, suc, ◌+◌, ◌-◌, ◌*◌, ◌<◌, ◌≤◌, Bool, true, false, arith}
use Rattle.std.proofs.lemmas.Bool.{both_ways, cases_eq, cases_lt, false_from_ne_true}
use Rattle.std.proofs.Math.Nat.{mul-le-mul_right, lt_of_mul-lt-mul_left}
use Rattle.wl_segments.specs.Lengths.{bit_quanta, sample_at}
use Rattle.wl_topology.specs.Driven.{DrivenLaws}
use Rattle.wl_phase.specs.Clocks.{instant, steady_tick}
use Rattle.wl_phase.proofs.Callers.{floor_high, floor_low}
use Rattle.wl_buses.specs.OneFrame.Stations.{Stations, AreStations, FitsBut, HaveRoomToSample, ReachesBy, bit_drift, shared_instant, shared_quantum, with_longer_ways}
use Rattle.wl_buses.specs.OneFrame.Starts.{Start, reaches_at}
use Rattle.wl_buses.specs.OneFrame.OneBit.{AreRight, sampled_at}
use Rattle.wl_buses.specs.OneFrame.Acknowledged.{IsAnsweredByAll, answering, recessive_bit}
use Rattle.wl_buses.specs.OneListener.Beside.{AreCloseBeside, HasRoomToListen, HearsTheEnd, ListensToTheEnd, hears, no_listener, others_answering}
use Rattle.wl_buses.proofs.OneFrame.Acks.{another}
use Rattle.wl_buses.proofs.OneFrame.Measures.{drifted, instant_more, reaches_by, same_tick, tick_next, ticks_before}
use Rattle.wl_buses.proofs.OneListener.Slotting as slotting

module _ (s : Stations) (way : ℕ → ℕ → ℕ) (more : ℕ → ℕ) (are : AreStations (others_answering s way)) (fits : FitsBut (others_answering s way) more)
    (room : HaveRoomToSample (with_longer_ways (others_answering s way) more)) (hearing : HasRoomToListen s (with_longer_ways (others_answering s way) more).way)
    (winner : ℕ) (place : ℕ → ℕ) (slot : Start) (over : ℕ → ℕ) (drove : ℕ → ℕ → Bool) (until : ℕ → ℕ)
    (is : IsAnsweredByAll s (with_longer_ways (answering s way) more).way winner place slot over drove until) (own : ListensToTheEnd s place slot over drove until)
    (since : ℕ) (few : since ≤ 9) (near : AreCloseBeside s way since place) (laws : DrivenLaws) where
  abbrev l : ℕ
  l = s.count

  abbrev p : Stations
  p = others_answering s way

  abbrev q : Stations
  q = with_longer_ways p more

  abbrev tick : ℕ → ℕ → ℕ
  tick k n = steady_tick (s.clocks k) n

  abbrev bit : ℕ → ℕ
  bit k = bit_quanta (s.lengths k)

  abbrev point : ℕ
  point = sample_at (s.lengths l)

  inside_l : l < p.count
  inside_l = omega arith

  beside_l : (k : ℕ) → k < s.count → k < p.count
  beside_l k there = omega arith

  other_l : (k : ℕ) → k < s.count → l ≢ k
  other_l k there e = omega arith

  not_it : (k : ℕ) → k < s.count → no_listener s k ≡ true
  not_it = slotting.not_it s way more are fits room hearing winner place slot over drove until is own since few near laws

  close_out : (k : ℕ) → k < s.count → ReachesBy q 0 l k (slot.place l) (slot.place k)
  close_out = slotting.close_out s way more are fits room hearing winner place slot over drove until is own since few near laws

  close_in : (k : ℕ) → k < s.count → slot.drives k ≡ true → ReachesBy q 10 k l (slot.place k) (slot.place l)
  close_in = slotting.close_in s way more are fits room hearing winner place slot over drove until is own since few near laws

  not_early : (k : ℕ) → k < s.count → tick l (place l + point) < reaches_at s slot k l
  not_early = slotting.not_early s way more are fits room hearing winner place slot over drove until is own since few near laws

  right_delimiter : AreRight s (recessive_bit place) drove
  right_delimiter = slotting.right_delimiter s way more are fits room hearing winner place slot over drove until is own since few near laws

  right_slot : AreRight s slot drove
  right_slot = slotting.right_slot s way more are fits room hearing winner place slot over drove until is own since few near laws

  -- what one of the others begins up to eleven bits' drift later than its way is there at the sample
  pub there : (n k m c : ℕ) → k < s.count → n ≤ 11 → ReachesBy q n k l m c → tick k m + s.delay k l ≤ tick l (c + point)
  there n k m c inside small close =
      let fit = hearing.eleven k inside in
      let drift : n * bit_drift s k l ≤ 11 * bit_drift s k l = mul-le-mul_right (bit_drift s k l) small in
      let same = same_tick p are l k inside_l (beside_l k inside) in
      let all = instant_more p are l k inside_l (beside_l k inside) c point in
      reaches_by p are l k inside_l (beside_l k inside) m (c + point) (s.delay k l) (omega arith)

  -- and what the listener itself begins
  pub own_there : (m : ℕ) → tick l m + s.delay l l ≤ tick l (m + point)
  own_there m =
      let fit = hearing.loop in
      let low = floor_low (s.clocks l) m in
      let high = floor_high (s.clocks l) (m + point) (are.line.steady l inside_l).divides in
      let all : instant (s.clocks l) (m + point) ≡ instant (s.clocks l) m + point * (s.clocks l).num = omega arith in
      let much : (s.clocks l).den * (tick l m + s.delay l l) < (s.clocks l).den * suc (tick l (m + point)) = omega arith in
      let less = lt_of_mul-lt-mul_left (s.clocks l).den much in
      omega arith

  -- the CRC delimiter of each is there at the sample
  pub delimiter_there : (k : ℕ) → k < s.count → tick k (place k) + s.delay k l ≤ tick l (place l + point)
  delimiter_there k inside =
      there since k (place k) (place l) inside (omega arith)
      (let close = near k l (beside_l k inside) inside_l (λ e. other_l k inside (sym e)) (inl (not_it k inside)) in omega arith)

  -- the listener's own slot comes after that sample
  after_l : place l + point < slot.from l
  after_l = elim own.begin [
    | inl itself ↦
        (let low = (are.line.book l inside_l).lengths.ps2_low in
        let due = own.due in
        let at = itself.place in
        let from = itself.from in
        omega arith)
    | inr soft ↦ elim (cases_lt (place l + point) soft.found) [
      | inl later ↦ (let from = soft.not_before own.answers in omega arith)
      | inr sooner ↦
          (let by : soft.by < s.count = (let low = soft.finds.by.inside in let other = soft.finds.by.other in omega (arith, low, other)) in
          let up = tick_next p are l inside_l soft.found (place l + point) sooner in
          let seen = soft.finds.finds.seen in
          let before = not_early soft.by by in
          absurd (omega arith))
    ]
  ]

  -- what reaches the listener is recessive if each drives so
  none : (t : ℕ) → ((k : ℕ) → k < suc s.count → s.delay k l ≤ t → drove k (t - s.delay k l) ≡ false) → hears s drove t ≡ false
  none t quiet =
      false_from_ne_true (hears s drove t)
      (λ e. (let k = laws.dominant_by (suc s.count) s.delay drove l t e in both_ways (drove k.0 (t - s.delay k.0 l)) (quiet k.0 k.1 k.2) k.3))

  each : (P : ℕ → Type 0) → ((k : ℕ) → k < s.count → P k) → P l → (k : ℕ) → k < suc s.count → P k
  each P others mine k inside = elim (cases_lt k s.count) [
    | inl there ↦ others k there
    | inr past ↦ (let e : l ≡ k = omega arith in subst P e mine)
  ]

  before : hears s drove (sampled_at s (recessive_bit place) l) ≡ false
  before =
      none (tick l (place l + point))
      (each (λ k. s.delay k l ≤ tick l (place l + point) → drove k (tick l (place l + point) - s.delay k l) ≡ false)
      (λ k inside come. (let first = delimiter_there k inside in let last = not_early k inside in is.quiet k (tick l (place l + point) - s.delay k l) inside (omega arith) (omega arith)))
      (λ come. (let first = own_there (place l) in
      let loop = are.line.later l l inside_l inside_l in
      let after = after_l in
      let up = tick_next p are l inside_l (place l + point) (slot.from l) (omega arith) in
      own.quiet (tick l (place l + point) - s.delay l l) (omega arith) (omega arith))))

  -- a station that has begun its acknowledgement by itself
  origin : (n k : ℕ) → k < s.count → slot.drives k ≡ true → tick k (slot.from k) < n → (w : ℕ) × (w < s.count) × (slot.drives w ≡ true) × (slot.from w ≡ slot.place w)
  origin zero k inside dominant less = absurd (omega arith)
  origin (suc n) k inside dominant less = elim (is.begin right_delimiter k inside) [
    | inl itself ↦ (k, inside, dominant, itself.from)
    | inr soft ↦
        (let third = soft.finds.by.inside in
        let found = soft.not_before dominant in
        let up = tick_next p are k (beside_l k inside) soft.found (slot.from k) found in
        let seen = soft.finds.finds.seen in
        let way = are.line.later soft.by k (beside_l soft.by third) (beside_l k inside) in
        origin n soft.by third soft.finds.by.dominant (omega arith))
  ]

  -- the ACK delimiter of another one doesn't reach the listener before its sample of the slot
  pub over_later : (k : ℕ) → k < s.count → tick l (slot.place l + point) < tick k (over k) + s.delay k l
  over_later k inside =
      let close = close_out k inside in
      let fit = room.not_early l k inside_l (beside_l k inside) (other_l k inside) (not_it k inside) in
      let mine = instant_more p are l k inside_l (beside_l k inside) (slot.place l) point in
      let theirs = instant_more p are k l (beside_l k inside) inside_l (slot.place k) (bit k) in
      let both : bit l * shared_quantum s l k ≡ point * shared_quantum s l k + (s.lengths l).ps2 * shared_quantum s l k = omega arith in
      let e : shared_instant s k l (over k) ≡ shared_instant s k l (slot.place k + bit k) = ap (shared_instant s k l) (is.ends k inside (right_slot k inside)) in
      ticks_before p are l k inside_l (beside_l k inside) (slot.place l + point) (over k) (s.delay k l) (omega arith)

  dominant : hears s drove (sampled_at s slot l) ≡ true
  dominant =
      let other = another winner in
      let some = is.some in
      let here : other.0 < s.count = (let h = other.1 in omega arith) in
      let w = origin (suc (tick other.0 (slot.from other.0))) other.0 here (is.answers other.0 here other.2) (omega arith) in
      let same : tick w.0 (slot.from w.0) ≡ tick w.0 (slot.place w.0) = ap (tick w.0) w.3 in
      let come = there 10 w.0 (slot.place w.0) (slot.place l) w.1 (omega arith) (close_in w.0 w.1 w.2) in
      let last = over_later w.0 w.1 in
      laws.dominant_from (suc s.count) s.delay drove w.0 l (tick l (slot.place l + point)) (omega arith) (omega arith)
      (is.drives w.0 (tick l (slot.place l + point) - s.delay w.0 l) w.1 (right_delimiter w.0 w.1) (omega arith) (omega arith) ∙ w.2)

  -- the ACK delimiter of each is there at the listener's sample of it
  over_there : (k : ℕ) → k < s.count → slot.drives k ≡ true → tick k (over k) + s.delay k l ≤ tick l (over l + point)
  over_there k inside answers =
      there 11 k (over k) (over l) inside (omega arith)
      (subst (λ m. ReachesBy q 11 k l m (over l)) (sym (is.ends k inside (right_slot k inside)))
      (subst (λ c. ReachesBy q 11 k l (slot.place k + bit k) c) (sym own.ends) (drifted q 10 k l (slot.place k) (slot.place l) (close_in k inside answers))))

  -- the winner drives nothing from its CRC delimiter on
  winner_quiet : (t : ℕ) → winner < s.count → tick winner (place winner) ≤ t → t < until winner → drove winner t ≡ false
  winner_quiet t inside from before = elim (cases_lt t (tick winner (slot.from winner))) [
    | inl early ↦ is.quiet winner t inside from early
    | inr begun ↦ elim (cases_lt t (tick winner (over winner))) [
      | inl within ↦ is.drives winner t inside (right_delimiter winner inside) begun within ∙ is.waits
      | inr past ↦ is.rests winner t inside (right_slot winner inside) past before
    ]
  ]

  later_over : place l ≤ over l
  later_over = let after = after_l in let from = slotting.from_low s way more are fits room hearing winner place slot over drove until is own since few near laws in let ends = own.ends in omega arith

  rest_at : (t k : ℕ) → k < s.count → tick l (over l + point) ≤ t → t < until k + s.delay k l → s.delay k l ≤ t → drove k (t - s.delay k l) ≡ false
  rest_at t k inside from before come = elim (cases_eq k winner) [
    | inl wins ↦
        (let first = delimiter_there k inside in
        let after = later_over in
        let up = tick_next p are l inside_l (place l + point) (over l + point) (omega arith) in
        let low : tick k (place k) ≤ t - s.delay k l = omega arith in
        let high : t - s.delay k l < until k = omega arith in
        subst (λ w. drove w (t - s.delay k l) ≡ false) (sym wins)
        (winner_quiet (t - s.delay k l) (subst (λ w. w < s.count) wins inside) (subst (λ w. tick w (place w) ≤ t - s.delay k l) wins low) (subst (λ w. t - s.delay k l < until w) wins high)))
    | inr loses ↦
        (let first = over_there k inside (is.answers k inside loses) in
        is.rests k (t - s.delay k l) inside (right_slot k inside) (omega arith) (omega arith))
  ]

  silent : (t : ℕ) → sampled_at s (recessive_bit over) l ≤ t → ((k : ℕ) → k < suc s.count → t < until k + s.delay k l) → hears s drove t ≡ false
  silent t from before =
      none t
      (each (λ k. s.delay k l ≤ t → drove k (t - s.delay k l) ≡ false)
      (λ k inside come. rest_at t k inside from (before k (omega arith)) come)
      (λ come. (let first = own_there (over l) in let last = before l (omega arith) in own.rests (t - s.delay l l) (omega arith) (omega arith))))

  close : (n k : ℕ) → k < s.count → ReachesBy q n l k (slot.place l + n * bit l) (slot.place k + n * bit k)
  close zero k inside =
      subst (λ a. ReachesBy q 0 l k a (slot.place k + 0 * bit k)) (let e : slot.place l ≡ slot.place l + 0 * bit l = omega arith in e)
      (subst (λ c. ReachesBy q 0 l k (slot.place l) c) (let e : slot.place k ≡ slot.place k + 0 * bit k = omega arith in e) (close_out k inside))
  close (suc n) k inside =
      subst (λ a. ReachesBy q (suc n) l k a (slot.place k + suc n * bit k)) (let e : slot.place l + n * bit l + bit l ≡ slot.place l + suc n * bit l = omega arith in e)
      (subst (λ c. ReachesBy q (suc n) l k (slot.place l + n * bit l + bit l) c) (let e : slot.place k + n * bit k + bit k ≡ slot.place k + suc n * bit k = omega arith in e)
      (drifted q n l k (slot.place l + n * bit l) (slot.place k + n * bit k) (close n k inside)))

  pub hears_it : HearsTheEnd s q.way place slot over drove until
  hears_it = record { before = before; not_early = not_early; dominant = dominant; silent = silent; close = close }
