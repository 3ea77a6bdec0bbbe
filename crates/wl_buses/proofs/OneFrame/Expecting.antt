-- What is expected of stations is a course of bits.
use Rattle.std.proofs.Common.{◌≡◌, ◌≢◌, ◌∙◌, ◌⊎◌, inl, inr, refl, sym, ap, subst, ℕ, zero, suc, ◌+◌, ◌-◌, ◌*◌, ◌<◌, ◌≤◌, ◌&&◌, ◌||◌, not, cond, Bool, true, false, Some, None, Option, arith}
use Rattle.std.specs.Prelude.{nat_le, nat_lt}
use Rattle.std.proofs.lemmas.Bool.{and_from, and_parts, cases_Bool, cases_eq, cases_lt, false_from_ne_true, le-leb, leb-true, lt-ltb, ltb-true, or_cases}
use Rattle.std.proofs.Math.Nat.{mul-le-mul_right}
use Rattle.wl_segments.specs.Lengths.{bit_quanta, sample_at}
use Rattle.wl_level.specs.Levels.{level_of}
use Rattle.wl_topology.specs.Driven.{any_below}
use Rattle.wl_topology.proofs.Callers.{any_from, any_one, any_same}
use Rattle.wl_machine.specs.Frames.{stuffed_end}
use Rattle.wl_phase.specs.Clocks.{steady_tick}
use Rattle.wl_buses.specs.OneFrame.Stations.{AreClose, AreStations, HaveRoom, Stations, bit_drift, shared_instant, shared_quantum}
use Rattle.wl_buses.specs.OneFrame.Starts.{BeginBit, BeginsAlone, Drives, FollowsHard, Start, reaches_at}
use Rattle.wl_buses.specs.OneFrame.OneBit.{FollowsOne, sampled_at}
use Rattle.wl_buses.specs.OneFrame.Course.{IsCourse, begins_with_edge, bus_bit, has_sent, since_edge, still_sends}
use Rattle.wl_buses.specs.OneFrame.Machines.{bus_levels}
use Rattle.wl_buses.specs.OneFrame.Expected.{IsOutset, Outset, edge_start, expected_bits, expected_drove, expected_end, found_before, looks_up_to, most, next_start, place_found, plain_start, settled, wants}
use Rattle.wl_buses.proofs.OneFrame.Ideal.{few, senders}
use Rattle.wl_buses.proofs.OneFrame.Machines.{FindNoErrors, LeastWins, SendStuffed, SixOrFront, StayInStep, TenHaveEdge, none_before}
use Rattle.wl_buses.proofs.OneFrame.Measures.{drifted, instant_more, tick_next, ticks_before}
use Rattle.wl_buses.proofs.OneFrame.Nearing.{bit_close}
use Rattle.wl_buses.proofs.OneFrame.Passing as passing
use Rattle.wl_buses.proofs.OneFrame.Passing.{fewer}
use Rattle.wl_buses.proofs.OneFrame.Settling.{begin_bit, begins_by, caught, low, most_from}
use Rattle.wl_buses.proofs.OneFrame.Starting.{frame_close}

module _ (steps : StayInStep) (errors : FindNoErrors) (winner : LeastWins) (stuffed : SendStuffed) (six : SixOrFront) (ten : TenHaveEdge)
    (s : Stations) (are : AreStations s) (room : HaveRoom s) (o : Outset) (is : IsOutset s o) where
  abbrev bits : ℕ → Start
  bits = expected_bits s o

  abbrev sends : ℕ → ℕ → Bool
  sends = still_sends s bits

  abbrev since : ℕ → ℕ
  since = since_edge s bits

  abbrev tick : ℕ → ℕ → ℕ
  tick k q = steady_tick (s.clocks k) q

  abbrev dues : ℕ → ℕ → ℕ
  dues n i = (bits n).place i + bit_quanta (s.lengths i)

  abbrev GoesOn : ℕ → Type 0
  GoesOn n = stuffed_end (bus_levels s bits n) ≡ None

  -- a bit by its kind
  drives_by : (edge : Bool) (d : ℕ → Bool) (b : Start) (k : ℕ) → (next_start s edge d b).drives k ≡ d k
  drives_by true d b k = refl
  drives_by false d b k = refl

  pub drives_are : (n k : ℕ) → (bits n).drives k ≡ wants s o n k
  drives_are zero k = is.drives k
  drives_are (suc n) k = drives_by (not (any_below s.count (wants s o n)) && any_below s.count (wants s o (suc n))) (wants s o (suc n)) (bits n) k

  abbrev pub joins_are : (k : ℕ) → (bits 0).joins k ≡ o.start.joins k
  joins_are k = refl

  due_by : (edge : Bool) (d : ℕ → Bool) (b : Start) (i : ℕ) → (next_start s edge d b).due i ≡ b.place i + bit_quanta (s.lengths i)
  due_by true d b i = refl
  due_by false d b i = refl

  due_are : (n i : ℕ) → (bits (suc n)).due i ≡ dues n i
  due_are n i = due_by (not (any_below s.count (wants s o n)) && any_below s.count (wants s o (suc n))) (wants s o (suc n)) (bits n) i

  bus_are : (n : ℕ) → bus_bit s bits n ≡ any_below s.count (wants s o n)
  bus_are n = any_same s.count (bits n).drives (wants s o n) (λ k lt. drives_are n k)

  edge_are : (n : ℕ) → begins_with_edge s bits (suc n) ≡ (not (any_below s.count (wants s o n)) && any_below s.count (wants s o (suc n)))
  edge_are n = ap (λ b. not b && bus_bit s bits (suc n)) (bus_are n) ∙ ap (λ b. not (any_below s.count (wants s o n)) && b) (bus_are (suc n))

  pub edge_is : (n : ℕ) → begins_with_edge s bits (suc n) ≡ true → bits (suc n) ≡ edge_start s (wants s o (suc n)) (dues n)
  edge_is n e = ap (λ b. next_start s b (wants s o (suc n)) (bits n)) (sym (edge_are n) ∙ e)

  pub plain_is : (n : ℕ) → begins_with_edge s bits (suc n) ≡ false → bits (suc n) ≡ plain_start (wants s o (suc n)) (dues n)
  plain_is n e = ap (λ b. next_start s b (wants s o (suc n)) (bits n)) (sym (edge_are n) ∙ e)

  pub few_at : (n : ℕ) → GoesOn n → since n ≤ 9
  few_at n on = few steps errors winner stuffed six ten s o is bits drives_are joins_are n on

  senders_at : (n k : ℕ) → GoesOn n → k < s.count → (bits (suc n)).drives k ≡ true → sends (suc n) k ≡ true
  senders_at n k on lt e = senders steps errors winner stuffed six ten s o is bits drives_are joins_are n k on lt e

  abbrev pub sent_before : (n k : ℕ) → sends (suc n) k ≡ true → sends n k ≡ true
  sent_before = passing.still_before s bits

  pub sent_at : (m n k : ℕ) → m ≤ n → sends n k ≡ true → sends m k ≡ true
  sent_at m zero k less e = (let same : zero ≡ m = omega arith in subst (λ i. sends i k ≡ true) same e)
  sent_at m (suc n) k less e = elim (cases_lt n m) [
    | inl last ↦ (let same : suc n ≡ m = omega arith in subst (λ i. sends i k ≡ true) same e)
    | inr below ↦ sent_at m n k below (sent_before n k e)
  ]

  abbrev pub may : (n k : ℕ) → k < s.count → sends n k ≡ true → s.may_send k ≡ true
  may = passing.still_allowed s bits is.allowed

  -- from one bit to the next
  module _ (n : ℕ) (on : GoesOn n) (close : AreClose s (sends (suc n)) (since n) (bits n).place) where
    abbrev d : ℕ → Bool
    d = wants s o (suc n)

    abbrev e : Start
    e = edge_start s d (dues n)

    abbrev sample : ℕ → ℕ
    sample i = sampled_at s (bits n) i

    sender : (k : ℕ) → k < s.count → d k ≡ true → sends (suc n) k ≡ true
    sender k lt dominant = senders_at n k on lt (drives_are (suc n) k ∙ dominant)

    alone_early : (i k : ℕ) → i < s.count → k < s.count → i ≢ k → d k ≡ true → settled s d (dues n) k ≡ dues n k → sample i < reaches_at s e k i
    alone_early i k inside there other dominant from =
        let near = close i k inside there other (inr (sender k there dominant)) in
        let fits = room.samples.not_early i k inside there other (may (suc n) k there (sender k there dominant)) in
        let drift : suc (since n) * bit_drift s i k ≤ 10 * bit_drift s i k = mul-le-mul_right (bit_drift s i k) (let f = few_at n on in let g : suc (since n) ≤ 10 = omega arith in g) in
        let more : suc (since n) * bit_drift s i k ≡ since n * bit_drift s i k + bit_drift s i k = omega arith in
        let own = instant_more s are i k inside there ((bits n).place i) (sample_at (s.lengths i)) in
        let theirs = instant_more s are k i there inside ((bits n).place k) (bit_quanta (s.lengths k)) in
        let bit : bit_quanta (s.lengths i) * shared_quantum s i k ≡ sample_at (s.lengths i) * shared_quantum s i k + (s.lengths i).ps2 * shared_quantum s i k = omega arith in
        let f : shared_instant s k i (settled s d (dues n) k) ≡ shared_instant s k i ((bits n).place k + bit_quanta (s.lengths k)) = ap (shared_instant s k i) from in
        ticks_before s are i k inside there ((bits n).place i + sample_at (s.lengths i)) (settled s d (dues n) k) (s.delay k i) (omega arith)

    abbrev Early : ℕ → Type 0
    Early m = (k : ℕ) → k < s.count → d k ≡ true → tick k (settled s d (dues n) k) < m → (i : ℕ) → i < s.count → i ≢ k → sample i < reaches_at s e k i

    -- a station begins the bit after its sample of the one before
    own_after : (m : ℕ) → Early m → (i : ℕ) → i < s.count → tick i (settled s d (dues n) i) < suc m → sample i ≤ tick i (settled s d (dues n) i)
    own_after m early i inside less = elim (begins_by s are d (dues n) i inside (caught s are d (dues n) i) refl) [
      | inl from ↦
          tick_next s are i inside ((bits n).place i + sample_at (s.lengths i)) (settled s d (dues n) i) (omega arith)
      | inr by ↦
          (let way = are.line.later by.1 i by.2.inside inside in
          let up = tick_next s are i inside by.0 (settled s d (dues n) i) by.4 in
          let reach = by.3 in
          let before = early by.1 by.2.inside by.2.dominant (omega arith) i inside (λ f. by.2.other (sym f)) in
          omega arith)
    ]

    early : (m : ℕ) → Early m
    early zero k there dominant less i inside other = absurd (omega arith)
    early (suc m) k there dominant less i inside other = elim (begins_by s are d (dues n) k there (caught s are d (dues n) k) refl) [
      | inl from ↦ alone_early i k inside there other dominant from
      | inr by ↦
          (let way = are.line.later by.1 k by.2.inside there in
          let up = tick_next s are k there by.0 (settled s d (dues n) k) by.4 in
          let reach = by.3 in
          elim (cases_eq by.1 i) [
            | inl own ↦
                (let back = are.line.later k i there inside in
                let after = own_after m (early m) i inside (let same : tick by.1 (settled s d (dues n) by.1) ≡ tick i (settled s d (dues n) i) = ap (λ w. tick w (settled s d (dues n) w)) own in omega arith) in
                let same : tick by.1 (settled s d (dues n) by.1) ≡ tick i (settled s d (dues n) i) = ap (λ w. tick w (settled s d (dues n) w)) own in
                omega arith)
            | inr third ↦
                (let before = early m by.1 by.2.inside by.2.dominant (omega arith) i inside (λ f. third (sym f)) in
                let detour = are.line.detours by.1 k i by.2.inside there inside in
                omega arith)
          ])
    ]

    early_all : (i k : ℕ) → i < s.count → Drives s e i k → sample i < reaches_at s e k i
    early_all i k inside x = early (suc (tick k (settled s d (dues n) k))) k x.inside x.dominant (omega arith) i inside (λ f. x.other (sym f))

    begin : (edge : begins_with_edge s bits (suc n) ≡ true) → BeginBit s e
    begin edge =
        let some = any_one s.count (bits (suc n)).drives (and_parts (not (bus_bit s bits n)) (bus_bit s bits (suc n)) edge).1 in
        begin_bit s are d (dues n)
        (λ i k inside x. (let early = early_all i k inside x in let up = tick_next s are i inside 0 ((bits n).place i + sample_at (s.lengths i)) (omega arith) in omega arith))
        some.0 some.1 (sym (drives_are (suc n) some.0) ∙ some.2)

    -- how far apart the next bit begins
    close_due : AreClose s (sends (suc n)) (suc (since n)) (dues n)
    close_due i k inside there other some = drifted s (since n) i k ((bits n).place i) ((bits n).place k) (close i k inside there other some)

    sent_as : (k : ℕ) → bus_bit s bits (suc n) ≡ true → sends (suc (suc n)) k ≡ true → (bits (suc n)).drives k ≡ true
    sent_as k bus x = elim (or_cases ((bits (suc n)).drives k) (not (bus_bit s bits (suc n))) (and_parts (sends (suc n) k) (has_sent bits (suc n) k || not (bus_bit s bits (suc n))) x).1) [
      | inl drives ↦ drives
      | inr recessive ↦ (let f : not (bus_bit s bits (suc n)) ≡ false = ap not bus in cc)
    ]

    close_after : begins_with_edge s bits (suc n) ≡ true → AreClose s (sends (suc (suc n))) 0 e.place
    close_after edge =
        let near = bit_close s are room (sends (suc n)) (suc (since n)) (let f = few_at n on in omega arith) e close_due (λ k lt x. sender k lt x) (λ k lt x. may (suc n) k lt (sender k lt x)) (begin edge) in
        let bus = (and_parts (not (bus_bit s bits n)) (bus_bit s bits (suc n)) edge).1 in
        fewer s d (sends (suc (suc n))) 0 e.place (λ k lt x. sym (drives_are (suc n) k) ∙ sent_as k bus x) near

    close_plain : begins_with_edge s bits (suc n) ≡ false → AreClose s (sends (suc (suc n))) (since (suc n)) (bits (suc n)).place
    close_plain plain =
        let more : since (suc n) ≡ suc (since n) = ap (λ b. cond b 0 (suc (since n))) plain in
        subst (λ b. AreClose s (sends (suc (suc n))) (since (suc n)) b.place) (sym (plain_is n plain))
        (subst (λ m. AreClose s (sends (suc (suc n))) m (dues n)) (sym more)
        (fewer s (sends (suc n)) (sends (suc (suc n))) (suc (since n)) (dues n) (λ k lt x. sent_before (suc n) k x) close_due))

    close_next : AreClose s (sends (suc (suc n))) (since (suc n)) (bits (suc n)).place
    close_next = elim (cases_Bool (begins_with_edge s bits (suc n))) [
      | inl edge ↦
          (let zero_since : since (suc n) ≡ 0 = ap (λ b. cond b 0 (suc (since n))) edge in
          subst (λ b. AreClose s (sends (suc (suc n))) (since (suc n)) b.place) (sym (edge_is n edge))
          (subst (λ m. AreClose s (sends (suc (suc n))) m e.place) (sym zero_since) (close_after edge)))
      | inr plain ↦ close_plain plain
    ]

    -- when it begins
    after_at : (k : ℕ) → k < s.count → (bits n).place k + sample_at (s.lengths k) < (bits (suc n)).from k
    after_at k there = elim (cases_Bool (begins_with_edge s bits (suc n))) [
      | inl edge ↦ subst (λ b. (bits n).place k + sample_at (s.lengths k) < b.from k) (sym (edge_is n edge)) (after_edge (begins_by s are d (dues n) k there (caught s are d (dues n) k) refl))
      | inr plain ↦ subst (λ b. (bits n).place k + sample_at (s.lengths k) < b.from k) (sym (plain_is n plain)) (let low = (are.line.book k there).lengths.ps2_low in omega arith)
    ]
      where
        after_edge : (settled s d (dues n) k ≡ dues n k) ⊎ ((q : ℕ) × (w : ℕ) × Drives s e k w × (reaches_at s e w k ≤ tick k q) × (q ≤ settled s d (dues n) k))
            → (bits n).place k + sample_at (s.lengths k) < settled s d (dues n) k
        after_edge (inl from) = let low = (are.line.book k there).lengths.ps2_low in omega arith
        after_edge (inr by) = elim (cases_lt ((bits n).place k + sample_at (s.lengths k)) by.0) [
          | inl later ↦ (let low = by.4 in omega arith)
          | inr sooner ↦
              (let up = tick_next s are k there by.0 ((bits n).place k + sample_at (s.lengths k)) sooner in
              let early = early_all k by.1 there by.2 in
              let reach = by.3 in
              absurd (omega arith))
        ]

    next_at : (k : ℕ) → k < s.count → ((bits (suc n)).from k ≡ (bits n).place k + bit_quanta (s.lengths k)) ⊎ FollowsOne s (bits (suc n)) k
    next_at k there = elim (cases_Bool (begins_with_edge s bits (suc n))) [
      | inl edge ↦
          subst (λ b. (b.from k ≡ (bits n).place k + bit_quanta (s.lengths k)) ⊎ FollowsOne s b k) (sym (edge_is n edge))
          (next_edge (begins_by s are d (dues n) k there (caught s are d (dues n) k) refl))
      | inr plain ↦ subst (λ b. (b.from k ≡ (bits n).place k + bit_quanta (s.lengths k)) ⊎ FollowsOne s b k) (sym (plain_is n plain)) (inl refl)
    ]
      where
        next_edge : (settled s d (dues n) k ≡ dues n k) ⊎ ((q : ℕ) × (w : ℕ) × Drives s e k w × (reaches_at s e w k ≤ tick k q) × (q ≤ settled s d (dues n) k))
            → (e.from k ≡ (bits n).place k + bit_quanta (s.lengths k)) ⊎ FollowsOne s e k
        next_edge (inl from) = inl from
        next_edge (inr by) = inr (by.1, by.2, (let up = tick_next s are k there by.0 (settled s d (dues n) k) by.4 in let reach = by.3 in omega arith))

  -- all bits
  before_on : (n : ℕ) → GoesOn (suc n) → GoesOn n
  before_on n on = none_before (bus_levels s bits n) (level_of (bus_bit s bits n)) on

  close_at : (n : ℕ) → GoesOn n → AreClose s (sends (suc n)) (since n) (bits n).place
  close_at zero on = fewer s s.may_send (sends 1) 0 (bits 0).place (λ k lt x. may 1 k lt x) (frame_close s are (bits 0) (passing.drives_first s bits is.allowed) is.begin)
  close_at (suc n) on = close_next n (before_on n on) (close_at n (before_on n on))

  -- a bit is driven from before its sample on
  module _ (length : ℕ) (valid : (n : ℕ) → n < length → GoesOn n) where
    pub place_low : (due : ℕ → ℕ) (i : ℕ) (c : Option ℕ) → due i ≤ place_found s due i c + (s.lengths i).sjw
    place_low due i None = omega arith
    place_low due i (Some q) = omega arith

    from_edge : (n i : ℕ) → i < s.count
        → (edge_start s (wants s o (suc n)) (dues n)).from i ≤ (edge_start s (wants s o (suc n)) (dues n)).place i + sample_at (s.lengths i)
    from_edge n i inside =
        let l = (are.line.book i inside).lengths in
        let jump = l.sjw_ps1 in
        let high = low s are (wants s o (suc n)) (dues n) (suc (most s.count (λ k. tick k (dues n k)))) i in
        let place = place_low (dues n) i (found_before s (wants s o (suc n)) (settled s (wants s o (suc n)) (dues n)) i (suc (looks_up_to s (wants s o (suc n)) (dues n) i))) in
        omega arith

    from_start : (i : ℕ) → i < s.count → BeginsAlone s o.start i ⊎ FollowsHard s o.start i → o.start.from i ≤ o.start.place i + sample_at (s.lengths i)
    from_start i inside (inl itself) = let e = itself.from in omega arith
    from_start i inside (inr hard) = let e = hard.from in let p = hard.place in omega arith

    pub from_sample : (n i : ℕ) → i < s.count → (bits n).from i ≤ (bits n).place i + sample_at (s.lengths i)
    from_sample zero i inside = from_start i inside (is.begin i inside)
    from_sample (suc n) i inside = elim (cases_Bool (begins_with_edge s bits (suc n))) [
      | inl edge ↦ subst (λ b. b.from i ≤ b.place i + sample_at (s.lengths i)) (sym (edge_is n edge)) (from_edge n i inside)
      | inr plain ↦ subst (λ b. b.from i ≤ b.place i + sample_at (s.lengths i)) (sym (plain_is n plain)) (let h : dues n i ≤ dues n i + sample_at (s.lengths i) = omega arith in h)
    ]

    pub after_there : (n k : ℕ) → n < length → k < s.count → (bits n).place k + sample_at (s.lengths k) < (bits (suc n)).from k
    after_there n k less there = after_at n (valid n less) (close_at n (valid n less)) k there

    from_up : (n k : ℕ) → n < length → k < s.count → tick k ((bits n).from k) ≤ tick k ((bits (suc n)).from k)
    from_up n k less there =
        let one = from_sample n k there in
        let two = after_there n k less there in
        tick_next s are k there ((bits n).from k) ((bits (suc n)).from k) (omega arith)

    pub from_all : (m n k : ℕ) → m ≤ n → n ≤ length → k < s.count → tick k ((bits m).from k) ≤ tick k ((bits n).from k)
    from_all m zero k less inside there = (let e : zero ≡ m = omega arith in let f : tick k ((bits zero).from k) ≡ tick k ((bits m).from k) = ap (λ i. tick k ((bits i).from k)) e in omega arith)
    from_all m (suc n) k less inside there = elim (cases_lt n m) [
      | inl last ↦ (let e : suc n ≡ m = omega arith in let f : tick k ((bits (suc n)).from k) ≡ tick k ((bits m).from k) = ap (λ i. tick k ((bits i).from k)) e in omega arith)
      | inr below ↦ (let up = from_up n k (omega arith) there in let all = from_all m n k below (omega arith) there in omega arith)
    ]

    abbrev drove : ℕ → ℕ → Bool
    drove = expected_drove s o length

    abbrev test : (k t n : ℕ) → Bool
    test k t n = wants s o n k && (nat_le (tick k ((bits n).from k)) t && nat_lt t (tick k ((bits (suc n)).from k)))

    -- what no bit drives isn't driven
    pub none_driven : (k t : ℕ) → ((n : ℕ) → n < length → wants s o n k ≡ true → tick k ((bits n).from k) ≤ t → t < tick k ((bits (suc n)).from k) → ⊥) → drove k t ≡ false
    none_driven k t h = false_from_ne_true (drove k t) (λ e. (let x = any_one length (test k t) e in
        let p = and_parts (wants s o x.0 k) (nat_le (tick k ((bits x.0).from k)) t && nat_lt t (tick k ((bits (suc x.0)).from k))) x.2 in
        let r = and_parts (nat_le (tick k ((bits x.0).from k)) t) (nat_lt t (tick k ((bits (suc x.0)).from k))) p.1 in
        h x.0 x.1 p.0 (leb-true (tick k ((bits x.0).from k)) t r.0) (ltb-true t (tick k ((bits (suc x.0)).from k)) r.1)))

    pub driven_at : (n k t : ℕ) → n < length → k < s.count → tick k ((bits n).from k) ≤ t → t < tick k ((bits (suc n)).from k) → drove k t ≡ wants s o n k
    driven_at n k t less there from_n to = elim (cases_Bool (wants s o n k)) [
      | inl dominant ↦
          any_from length n (test k t) less
          (and_from (wants s o n k) (nat_le (tick k ((bits n).from k)) t && nat_lt t (tick k ((bits (suc n)).from k))) dominant
          (and_from (nat_le (tick k ((bits n).from k)) t) (nat_lt t (tick k ((bits (suc n)).from k))) (le-leb (tick k ((bits n).from k)) t from_n) (lt-ltb t (tick k ((bits (suc n)).from k)) to)))
          ∙ sym dominant
      | inr recessive ↦
          none_driven k t (λ m inside dominant low_m high_m. elim (cases_lt m n) [
            | inl before ↦ (let up = from_all (suc m) n k (omega arith) (omega arith) there in absurd (omega arith))
            | inr from_m ↦ elim (cases_lt n m) [
              | inl above ↦ (let up = from_all (suc n) m k above (omega arith) there in absurd (omega arith))
              | inr same ↦ (let e : n ≡ m = omega arith in let f : wants s o n k ≡ wants s o m k = ap (λ i. wants s o i k) e in cc)
            ]
          ]) ∙ sym recessive
    ]

    -- who doesn't send any more drives nothing
    pub wants_sends : (n k : ℕ) → n ≤ length → k < s.count → wants s o n k ≡ true → sends n k ≡ true
    wants_sends zero k less there dominant = passing.drives_sent bits 0 k (drives_are 0 k ∙ dominant)
    wants_sends (suc n) k less there dominant = senders_at n k (valid n (omega arith)) there (drives_are (suc n) k ∙ dominant)

    lost_at : (n k t : ℕ) → n < length → k < s.count → sends (suc n) k ≡ false → tick k ((bits (suc n)).from k) ≤ t → drove k t ≡ false
    lost_at n k t less there gone from_t =
        none_driven k t (λ m inside dominant low_m high_m. elim (cases_lt n m) [
          | inl above ↦ (let x = sent_at (suc n) m k above (wants_sends m k (omega arith) there dominant) in cc)
          | inr below ↦ (let up = from_all (suc m) (suc n) k (omega arith) (omega arith) there in absurd (omega arith))
        ])

    listens_at : (k t : ℕ) → k < s.count → has_sent bits 0 k ≡ false → drove k t ≡ false
    listens_at k t there none =
        none_driven k t (λ m inside dominant low_m high_m. (let x = sent_at 0 m k (omega arith) (wants_sends m k (omega arith) there dominant) in cc))

    -- who joins drives nothing before the bit after the start of frame
    joined_at : (k t : ℕ) → 0 < length → k < s.count → (bits 0).drives k ≡ false → t < tick k ((bits 1).from k) → drove k t ≡ false
    joined_at k t some there none before = none_driven k t (by some)
      where
        by : 0 < length → (m : ℕ) → m < length → wants s o m k ≡ true → tick k ((bits m).from k) ≤ t → t < tick k ((bits (suc m)).from k) → ⊥
        by some zero inside dominant low_m high_m = (let e = drives_are 0 k ∙ dominant in cc)
        by some (suc m) inside dominant low_m high_m = (let up = from_all 1 (suc m) k (omega arith) (omega arith) there in omega arith)

    pub course : IsCourse s bits drove length (λ k. expected_end s o length)
    course = record {
      few = λ n less. few_at n (valid n less);
      begin = is.begin;
      allowed = is.allowed;
      due = λ n i inside. due_are n i;
      edge = λ n less right e.
          subst (BeginBit s) (sym (edge_is n e)) (begin n (valid n (omega arith)) (close_at n (valid n (omega arith))) e);
      plain = λ n i less inside right p. subst (λ b. (b.place i ≡ b.due i) × (b.from i ≡ b.place i)) (sym (plain_is n p)) (refl, refl);
      after = λ n k less there. after_there n k less there;
      next = λ n k less there sender right. next_at n (valid n less) (close_at n (valid n less)) k there;
      senders = λ n k less there right e. wants_sends n k less there (sym (drives_are n k) ∙ e);
      drives = λ n k t less there right sender low_t high_t. driven_at n k t less there low_t high_t ∙ sym (drives_are n k);
      lost = λ n k t less there right sender gone low_t high_t. lost_at n k t less there gone low_t;
      listens = λ n i k less inside there none right before later. listens_at k (sampled_at s (bits n) i - s.delay k i) there none;
      joined = λ k t some there sent none before. joined_at k t some there none before;
      over = λ n i k less inside there.
          (let one = most_from length (λ m. most s.count (λ j. sampled_at s (bits m) j)) n less in
          let two = most_from s.count (λ j. sampled_at s (bits n) j) i inside in
          omega arith);
    }
