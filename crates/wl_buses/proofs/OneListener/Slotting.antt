-- How far apart the ACK slot begins at the others and at a station that only listens.
use Rattle.std.proofs.Common.{◌≡◌, ◌≢◌, ◌∙◌, inl, inr, refl, sym, ap, subst, ℕ, zero, suc, ◌+◌, ◌-◌, ◌*◌, ◌<◌, ◌≤◌, Bool, true, not, ◌&&◌, arith}
use Rattle.std.proofs.lemmas.Bool.{and_from, and_parts, cases_lt, ne_eqb}
use Rattle.std.proofs.Math.Nat.{mul-le-mul_right}
use Rattle.wl_segments.specs.Lengths.{bit_quanta, sample_at}
use Rattle.wl_topology.specs.Driven.{DrivenLaws}
use Rattle.wl_phase.specs.Clocks.{steady_tick}
use Rattle.wl_phase.specs.Ways.{moved_to}
use Rattle.wl_phase.proofs.Callers.{few_of}
use Rattle.wl_buses.specs.OneFrame.Stations.{Stations, AreClose, AreStations, FitsBut, HaveRoomToSample, ReachesBy, bit_drift, shared_instant, shared_quantum, with_longer_ways}
use Rattle.wl_buses.specs.OneFrame.Starts.{Start, AreAllowed, BeginBit, BeginsAlone, Drives, FollowsSoft, reaches_at}
use Rattle.wl_buses.specs.OneFrame.OneBit.{AreRight, sampled_at}
use Rattle.wl_buses.specs.OneFrame.Acknowledged.{AreAllClose, IsAcknowledgedByAll, IsAnsweredByAll, answering, recessive_bit}
use Rattle.wl_buses.specs.OneListener.Beside.{AreCloseBeside, HasRoomToListen, ListensToTheEnd, with_listener, no_listener, others_answering}
use Rattle.wl_buses.proofs.OneFrame.Acks.{acknowledged, delimited, slotted}
use Rattle.wl_buses.proofs.OneFrame.AckWays.{begin_there}
use Rattle.wl_buses.proofs.OneFrame.Measures.{drifted, exact_before, instant_more, tick_next, ticks_before, ticks_by}
use Rattle.wl_buses.proofs.OneFrame.Nearing.{ahead_by, due_by, from_by, stays_above, stays_below}
use Rattle.wl_buses.proofs.OneFrame.Passing.{same_places}
use Rattle.wl_buses.proofs.OneFrame.Starting.{IsAhead, alone, followed, followed_one}

-- what moves back to an aim
moves_down : (aim jump n : ℕ) → aim ≤ n → (moved_to aim jump n ≤ n) × (aim ≤ moved_to aim jump n)
moves_down aim jump n h = (omega arith, omega arith)

module _ (s : Stations) (way : ℕ → ℕ → ℕ) (more : ℕ → ℕ) (are : AreStations (others_answering s way)) (fits : FitsBut (others_answering s way) more)
    (room : HaveRoomToSample (with_longer_ways (others_answering s way) more)) (hearing : HasRoomToListen s (with_longer_ways (others_answering s way) more).way)
    (winner : ℕ) (place : ℕ → ℕ) (slot : Start) (over : ℕ → ℕ) (drove : ℕ → ℕ → Bool) (until : ℕ → ℕ)
    (is : IsAnsweredByAll s (with_longer_ways (answering s way) more).way winner place slot over drove until) (own : ListensToTheEnd s place slot over drove until)
    (since : ℕ) (few : since ≤ 9) (near : AreCloseBeside s way since place) (laws : DrivenLaws) where
  abbrev l : ℕ
  l = s.count

  -- all stations, and the same with the ways that are longer
  abbrev p : Stations
  p = others_answering s way

  abbrev pub q : Stations
  q = with_longer_ways p more

  abbrev late : ℕ → ℕ → ℕ
  late = (with_longer_ways (answering s way) more).way

  abbrev u : Stations
  u = answering s way

  abbrev tick : ℕ → ℕ → ℕ
  tick k n = steady_tick (s.clocks k) n

  abbrev bit : ℕ → ℕ
  bit k = bit_quanta (s.lengths k)

  abbrev all : ℕ → Bool
  all = λ k. true

  -- the slot as the others hear it
  abbrev b : Start
  b = record slot { drives = λ k. slot.drives k && no_listener s k }

  pub inside_l : l < p.count
  inside_l = omega arith

  pub beside_l : (k : ℕ) → k < s.count → k < p.count
  beside_l k there = omega arith

  pub other_l : (k : ℕ) → k < s.count → l ≢ k
  other_l k there e = omega arith

  pub not_it : (k : ℕ) → k < s.count → no_listener s k ≡ true
  not_it k there = ap not (ne_eqb k s.count (λ e. other_l k there (sym e)))

  -- the others alone
  them : AreStations u
  them = record {
    line = record {
      steady = λ i inside. are.line.steady i (beside_l i inside);
      book = λ i inside. are.line.book i (beside_l i inside);
      later = λ i k inside there. are.line.later i k (beside_l i inside) (beside_l k there);
      detours = λ i j k inside third there. are.line.detours i j k (beside_l i inside) (beside_l j third) (beside_l k there);
    };
    ways = record {
      there_and_back = λ i k inside there pair may. are.ways.there_and_back i k (beside_l i inside) (beside_l k there) (pair.0, inr (not_it k there)) (not_it k there);
      over = λ i k a inside there third pair apart other may. are.ways.over i k a (beside_l i inside) (beside_l k there) (beside_l a third) (pair.0, inr (not_it k there)) apart other (not_it a third);
      straight = λ i k inside there pair may. are.ways.straight i k (beside_l i inside) (beside_l k there) (pair.0, inr (not_it k there)) (not_it i inside);
    };
  }

  fits_them : FitsBut u more
  fits_them i k inside there other may = fits i k (beside_l i inside) (beside_l k there) other (not_it k there)

  room_them : HaveRoomToSample (with_longer_ways u more)
  room_them = record {
    late_fits = λ i k inside there other may. room.late_fits i k (beside_l i inside) (beside_l k there) other (not_it k there);
    is_there = λ i k inside there other may. room.is_there i k (beside_l i inside) (beside_l k there) other (not_it k there);
    loops = λ i inside may. room.loops i (beside_l i inside) (not_it i inside);
    not_early = λ i k inside there other may. room.not_early i k (beside_l i inside) (beside_l k there) other (not_it k there);
  }

  near_them : AreAllClose s way since place
  near_them i k inside there other some = near i k (beside_l i inside) (beside_l k there) other (inr (not_it k there))

  pub heard : IsAcknowledgedByAll s late place slot over drove until
  heard = acknowledged s way more them fits_them room_them winner place slot over drove until is since few near_them laws

  pub right_delimiter : AreRight s (recessive_bit place) drove
  right_delimiter = delimited s way more them fits_them room_them winner place slot over drove until is since few near_them laws

  pub right_slot : AreRight s slot drove
  right_slot = slotted s way more them fits_them room_them winner place slot over drove until is since few near_them laws

  begin_u : BeginBit u slot
  begin_u = begin_there (answering s late) (λ i. true) way slot (is.begin right_delimiter)

  -- the bits if no edge moves them
  due_all : (k : ℕ) → k < p.count → slot.due k ≡ place k + bit k
  due_all k inside = elim (cases_lt k s.count) [
    | inl there ↦ is.due k there
    | inr past ↦ (let e : s.count ≡ k = omega arith in subst (λ n. slot.due n ≡ place n + bit n) e own.due)
  ]

  pub close_due : AreClose p (no_listener s) (suc since) slot.due
  close_due =
      same_places p (no_listener s) (suc since) (λ k. place k + bit k) slot.due due_all
      (λ i k inside there other some. drifted p since i k (place i) (place k) (near i k inside there other some))

  close_them : AreClose u all (suc since) slot.due
  close_them i k inside there other some = close_due i k (beside_l i inside) (beside_l k there) other (inr (not_it k there))

  heard_of : (k : ℕ) → k < s.count → slot.drives k ≡ true → b.drives k ≡ true
  heard_of k there dominant = and_from (slot.drives k) (no_listener s k) dominant (not_it k there)

  allowed : AreAllowed p b.drives
  allowed k there e = (and_parts (slot.drives k) (no_listener s k) e).1

  -- whose edges the listener finds
  abbrev Finds : ℕ → Type 0
  Finds k = Drives (with_listener s) slot l k

  drives_l : (k : ℕ) → k < s.count → slot.drives k ≡ true → Finds k
  drives_l k there dominant = record { inside = beside_l k there; other = λ e. other_l k there (sym e); dominant = dominant }

  drives_back : (k : ℕ) → Drives p b l k → Finds k
  drives_back k h = record { inside = h.inside; other = h.other; dominant = (and_parts (slot.drives k) (no_listener s k) h.dominant).0 }

  -- no acknowledgement reaches the listener before its sample of the CRC delimiter
  abbrev sample : ℕ
  sample = sampled_at s (recessive_bit place) l

  alone_early : (k : ℕ) → k < s.count → slot.from k ≡ place k + bit k → sample < reaches_at s slot k l
  alone_early k there from =
      let close = near l k inside_l (beside_l k there) (other_l k there) (inr (not_it k there)) in
      let fit = room.not_early l k inside_l (beside_l k there) (other_l k there) (not_it k there) in
      let drift : suc since * bit_drift s l k ≤ 10 * bit_drift s l k = mul-le-mul_right (bit_drift s l k) (let g : suc since ≤ 10 = omega arith in g) in
      let one : suc since * bit_drift s l k ≡ since * bit_drift s l k + bit_drift s l k = omega arith in
      let mine = instant_more p are l k inside_l (beside_l k there) (place l) (sample_at (s.lengths l)) in
      let theirs = instant_more p are k l (beside_l k there) inside_l (place k) (bit k) in
      let both : bit l * shared_quantum s l k ≡ sample_at (s.lengths l) * shared_quantum s l k + (s.lengths l).ps2 * shared_quantum s l k = omega arith in
      let e : shared_instant s k l (slot.from k) ≡ shared_instant s k l (place k + bit k) = ap (shared_instant s k l) from in
      ticks_before p are l k inside_l (beside_l k there) (place l + sample_at (s.lengths l)) (slot.from k) (s.delay k l) (omega arith)

  early : (n k : ℕ) → k < s.count → tick k (slot.from k) < n → sample < reaches_at s slot k l
  early zero k there less = absurd (omega arith)
  early (suc n) k there less = elim (is.next k there (right_delimiter k there)) [
    | inl from ↦ alone_early k there from
    | inr moved ↦
        (let third = moved.1.inside in
        let found = moved.2 in
        let over = are.line.later moved.0 k (beside_l moved.0 third) (beside_l k there) in
        let loop = are.line.later k k (beside_l k there) (beside_l k there) in
        let detour = are.line.detours moved.0 k l (beside_l moved.0 third) (beside_l k there) inside_l in
        let before = early n moved.0 third (omega arith) in
        omega arith)
  ]

  pub not_early : (k : ℕ) → k < s.count → sample < reaches_at s slot k l
  not_early k there = early (suc (tick k (slot.from k))) k there (omega arith)

  -- no acknowledgement reaches the listener before it has begun the slot, but for the ticks that a jump leaves
  abbrev Ahead : ℕ → ℕ → Type 0
  Ahead i k = IsAhead p are more b allowed i k

  alone_ahead : (k : ℕ) → Finds k → BeginsAlone (with_listener s) slot l → Ahead l k
  alone_ahead k drives itself = (let first = itself.unfound k drives in exact_before p are l k inside_l drives.inside (slot.place l) (slot.from k) (s.delay k l + more l) (omega arith))

  near_ahead : (k : ℕ) → Finds k → (f : FollowsSoft (with_listener s) slot l) → slot.place l ≤ f.found - 1 → Ahead l k
  near_ahead k drives f close =
      let later = f.finds.later in
      let unseen = f.finds.finds.unseen (f.found - 1) (omega arith) in
      let first = f.finds.first k drives in
      let up = tick_next p are l inside_l (slot.place l) (f.found - 1) close in
      exact_before p are l k inside_l drives.inside (slot.place l) (slot.from k) (s.delay k l + more l) (omega arith)

  jumped_alone : (k : ℕ) → k < s.count → slot.due l ≡ slot.place l + (s.lengths l).sjw → BeginsAlone u slot k → Ahead l k
  jumped_alone k there due itself =
      let close = close_due l k inside_l (beside_l k there) (other_l k there) (inr (not_it k there)) in
      let fit = fits l k inside_l (beside_l k there) (other_l k there) (not_it k there) in
      let drift = few_of (suc since) (bit_drift s l k) (let g : suc since ≤ 10 = omega arith in g) in
      let jump = instant_more p are l k inside_l (beside_l k there) (slot.place l) (s.lengths l).sjw in
      let e : shared_instant s l k (slot.due l) ≡ shared_instant s l k (slot.place l + (s.lengths l).sjw) = ap (shared_instant s l k) due in
      let f : shared_instant s k l (slot.from k) ≡ shared_instant s k l (slot.due k) = ap (shared_instant s k l) (itself.from ∙ itself.place) in
      omega arith

  jumped_over : (k w : ℕ) → k < s.count → w < s.count → Ahead l w → reaches_at s slot w k ≤ tick k (slot.from k) → Ahead l k
  jumped_over k w there third ahead found =
      let by = ticks_by p are l w inside_l (beside_l w third) (slot.place l) (slot.from w) (s.delay w l + more l) ahead in
      let detour = are.line.detours w k l (beside_l w third) (beside_l k there) inside_l in
      let loop = are.line.later k k (beside_l k there) (beside_l k there) in
      exact_before p are l k inside_l (beside_l k there) (slot.place l) (slot.from k) (s.delay k l + more l) (omega arith)

  jumped : (n k : ℕ) → k < s.count → slot.drives k ≡ true → slot.due l ≡ slot.place l + (s.lengths l).sjw → tick k (slot.from k) < n → Ahead l k
  jumped zero k there dominant due less = absurd (omega arith)
  jumped (suc n) k there dominant due less = elim (begin_u k there) [
    | inl itself ↦ jumped_alone k there due itself
    | inr soft ↦
        (let up = tick_next u them k there soft.found (slot.from k) (soft.not_before dominant) in
        let seen = soft.finds.finds.seen in
        let third = soft.finds.by.inside in
        let way = them.line.later soft.by k third there in
        jumped_over k soft.by there third (jumped n soft.by third soft.finds.by.dominant due (omega arith)) (omega arith))
  ]

  inside_of : (k : ℕ) → Finds k → k < s.count
  inside_of k drives = (let low = drives.inside in let other = drives.other in omega (arith, low, other))

  ahead : (k : ℕ) → Finds k → Ahead l k
  ahead k drives = elim own.begin [
    | inl itself ↦ alone_ahead k drives itself
    | inr soft ↦ elim (cases_lt (soft.found - 1) (slot.place l)) [
      | inl above ↦
          (let at = soft.place in
          let due : slot.due l ≡ slot.place l + (s.lengths l).sjw = (let e = stays_above (soft.found - 1) (s.lengths l).sjw (slot.due l) (omega arith) in omega arith) in
          jumped (suc (tick k (slot.from k))) k (inside_of k drives) drives.dominant due (omega arith))
      | inr close ↦ near_ahead k drives soft close
    ]
  ]

  -- its own slot was due no earlier, and it drives it from place 0 on, or later
  pub due_l : slot.place l ≤ slot.due l
  due_l = elim own.begin [
    | inl itself ↦ (let e = itself.place in omega arith)
    | inr soft ↦
        (let at = soft.place in
        let early = soft.early own.answers in
        let down = (moves_down (soft.found - 1) (s.lengths l).sjw (slot.due l) (omega arith)).0 in
        omega arith)
  ]

  from_l : slot.place l ≤ slot.from l
  from_l = elim own.begin [
    | inl itself ↦ (let e = itself.from in omega arith)
    | inr soft ↦ soft.from_low own.answers
  ]

  -- it drives it no later than a quantum after place 0
  pub from_low : slot.from l ≤ suc (slot.place l)
  from_low = elim own.begin [
    | inl itself ↦ (let e = itself.from in omega arith)
    | inr soft ↦ soft.from_high own.answers
  ]

  -- how late the listener's slot may be for another one
  forward : (k : ℕ) → k < s.count → slot.place k ≡ slot.due k + (s.lengths k).sjw → ReachesBy q 0 l k (slot.place l) (slot.place k)
  forward k there at =
      let close = close_due l k inside_l (beside_l k there) (other_l k there) (inr (not_it k there)) in
      let fit = hearing.jumps k there in
      let drift = few_of (suc since) (bit_drift s l k) (let g : suc since ≤ 10 = omega arith in g) in
      let due = due_l in
      let all : slot.place l + (slot.due l - slot.place l) ≡ slot.due l = omega arith in
      let down = instant_more p are l k inside_l (beside_l k there) (slot.place l) (slot.due l - slot.place l) in
      let e : shared_instant s l k (slot.place l + (slot.due l - slot.place l)) ≡ shared_instant s l k (slot.due l) = ap (shared_instant s l k) all in
      let jump = instant_more p are k l (beside_l k there) inside_l (slot.due k) (s.lengths k).sjw in
      let f : shared_instant s k l (slot.place k) ≡ shared_instant s k l (slot.due k + (s.lengths k).sjw) = ap (shared_instant s k l) at in
      omega arith

  pub close_out : (k : ℕ) → k < s.count → ReachesBy q 0 l k (slot.place l) (slot.place k)
  close_out k there = elim (begin_u k there) [
    | inl itself ↦
        alone p are more b allowed l k inside_l (beside_l k there) (other_l k there) (heard_of k there itself.dominant) (ahead k (drives_l k there itself.dominant)) itself.from
    | inr soft ↦ elim (cases_lt (suc (slot.place k)) soft.found) [
      | inl below ↦
          (let at = soft.place in
          forward k there (let e = stays_below (soft.found - 1) (s.lengths k).sjw (slot.due k) (omega arith) in omega arith))
      | inr close ↦
          (let up = tick_next u them k there soft.found (suc (slot.place k)) close in
          let seen = soft.finds.finds.seen in
          followed p are more b allowed l k inside_l (beside_l k there) (other_l k there, inr (not_it k there)) (λ w drives. ahead w (drives_back w drives)) (λ e. from_l)
          (record {
            by = soft.by;
            drives = record { inside = beside_l soft.by soft.finds.by.inside; other = soft.finds.by.other; dominant = heard_of soft.by soft.finds.by.inside soft.finds.by.dominant };
            found = omega arith;
          }))
    ]
  ]

  -- how late the slot of one that acknowledges may be for the listener, if the listener has begun its own by itself, or by an edge
  ahead_u : (i k : ℕ) → i < s.count → Drives u slot i k → Ahead i k
  ahead_u i k inside drives =
      ahead_by u them more fits_them room_them.late_fits all (suc since) (let g : suc since ≤ 10 = omega arith in g) slot close_them (λ w third e. refl) (λ w third e. refl) begin_u i k inside drives (begin_u i inside)

  due_u : (k : ℕ) → k < s.count → slot.drives k ≡ true → slot.place k ≤ slot.due k
  due_u k there dominant =
      due_by u them more fits_them room_them.late_fits all (suc since) (let g : suc since ≤ 10 = omega arith in g) slot close_them (λ w third e. refl) (λ w third e. refl) begin_u k (begin_u k there) dominant

  from_u : (k : ℕ) → k < s.count → slot.drives k ≡ true → slot.place k ≤ slot.from k
  from_u k there dominant =
      from_by u them more fits_them room_them.late_fits all (suc since) (let g : suc since ≤ 10 = omega arith in g) slot close_them (λ w third e. refl) (λ w third e. refl) begin_u k (begin_u k there) dominant

  in_alone : (k : ℕ) → k < s.count → slot.drives k ≡ true → slot.place l ≡ slot.due l → ReachesBy q 10 k l (slot.place k) (slot.place l)
  in_alone k there dominant at =
      let close = close_due k l (beside_l k there) inside_l (λ e. other_l k there (sym e)) (inl (not_it k there)) in
      let drift = few_of (suc since) (bit_drift s k l) (let g : suc since ≤ 10 = omega arith in g) in
      let due = due_u k there dominant in
      let all : slot.place k + (slot.due k - slot.place k) ≡ slot.due k = omega arith in
      let down = instant_more p are k l (beside_l k there) inside_l (slot.place k) (slot.due k - slot.place k) in
      let e : shared_instant s k l (slot.place k + (slot.due k - slot.place k)) ≡ shared_instant s k l (slot.due k) = ap (shared_instant s k l) all in
      let f : shared_instant s l k (slot.place l) ≡ shared_instant s l k (slot.due l) = ap (shared_instant s l k) at in
      omega arith

  in_followed : (k : ℕ) → k < s.count → slot.drives k ≡ true → FollowsSoft (with_listener s) slot l → ReachesBy q 0 k l (slot.place k) (slot.place l)
  in_followed k there dominant soft =
      let at = soft.place in
      let early = soft.early own.answers in
      let later = soft.finds.later in
      let down = (moves_down (soft.found - 1) (s.lengths l).sjw (slot.due l) (omega arith)).1 in
      let up = tick_next p are l inside_l soft.found (suc (slot.place l)) (omega arith) in
      let seen = soft.finds.finds.seen in
      let by = inside_of soft.by soft.finds.by in
      followed_one p are more b allowed k l (beside_l k there) inside_l ((λ e. other_l k there (sym e)), inl (not_it k there)) (λ e. from_u k there dominant)
      (record { by = soft.by; drives = record { inside = soft.finds.by.inside; other = soft.finds.by.other; dominant = heard_of soft.by by soft.finds.by.dominant }; found = omega arith })
      (λ other. ahead_u k soft.by there (record { inside = by; other = other; dominant = soft.finds.by.dominant }))

  pub close_in : (k : ℕ) → k < s.count → slot.drives k ≡ true → ReachesBy q 10 k l (slot.place k) (slot.place l)
  close_in k there dominant = elim own.begin [
    | inl itself ↦ in_alone k there dominant itself.place
    | inr soft ↦ (let close = in_followed k there dominant soft in omega arith)
  ]
