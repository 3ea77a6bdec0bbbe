-- A bit clock that sees what is expected goes as is expected.
use Rattle.std.proofs.Common.{◌≡◌, ◌∙◌, ◌⊎◌, inl, inr, refl, sym, ap, subst, ℕ, zero, suc, ◌+◌, ◌-◌, ◌<◌, ◌≤◌, ◌&&◌, ◌||◌, not, max, Bool, true, false, None, arith}
use Rattle.std.specs.Prelude.{nat_le, nat_lt}
use Rattle.std.proofs.lemmas.Bool.{and_from, and_parts, cases_Bool, cases_eq, cases_lt, false_from_ne_true, leb-true, ltb-true, or_left}
use Rattle.wl_level.specs.declared.Level.{Level}
use Rattle.wl_level.specs.declared.Level.TheVariants.{Dominant, Recessive}
use Rattle.wl_level.specs.Levels.{level_of}
use Rattle.wl_segments.specs.Lengths.{Lengths, bit_quanta, sample_at}
use Rattle.wl_sync.specs.declared.Beat.TheVariants.{Sample}
use Rattle.wl_sync.specs.declared.Seen.{Seen}
use Rattle.wl_sync.specs.Running.{clock_after}
use Rattle.wl_sync.specs.Skips.{steady_clock}
use Rattle.wl_topology.specs.Driven.{DrivenLaws, driven}
use Rattle.wl_topology.proofs.Callers.{any_from, any_one}
use Rattle.wl_machine.specs.Frames.{stuffed_end}
use Rattle.wl_phase.specs.Clocks.{steady_tick}
use Rattle.wl_phase.specs.Ways.{ByTheBook}
use Rattle.wl_phase.specs.InStep.{seen_before}
use Rattle.wl_buses.specs.OneFrame.Stations.{AreClose, AreStations, HaveRoom, Stations}
use Rattle.wl_buses.specs.OneFrame.Starts.{BeginBit, BeginsAlone, Drives, FollowsSoft, Start, reaches_at}
use Rattle.wl_buses.specs.OneFrame.OneBit.{IsRight, sampled_at}
use Rattle.wl_buses.specs.OneFrame.Course.{IsCourse, begins_with_edge, bus_bit, has_sent, since_edge, still_sends}
use Rattle.wl_buses.specs.OneFrame.Machines.{bus_levels}
use Rattle.wl_buses.specs.OneFrame.Clocked.{BitIs, EdgeLaws, FindsEdge, NoEdgeLaws, NoneSyncs, SamplesBy}
use Rattle.wl_buses.specs.OneFrame.Expected.{HasSampled, IsOutset, Outset, SeesExpected, edge_start, expected_bits, expected_drove, expected_end, expected_sample, found_before, looks_up_to, most, settled, wants}
use Rattle.wl_buses.proofs.OneFrame.Expecting as expecting
use Rattle.wl_buses.proofs.OneFrame.Expecting.{course, driven_at, drives_are, edge_is, few_at, from_all, may, place_low, plain_is, sent_at, wants_sends}
use Rattle.wl_buses.proofs.OneFrame.Machines.{FindNoErrors, LeastWins, SendStuffed, SixOrFront, StayInStep, TenHaveEdge}
use Rattle.wl_buses.proofs.OneFrame.Measures.{drifted, tick_next}
use Rattle.wl_buses.proofs.OneFrame.Passing.{drives_sent, one_bit, sampled_bit}
use Rattle.wl_buses.proofs.OneFrame.Sampled.{is_there, next_later}
use Rattle.wl_buses.proofs.OneFrame.Settling.{from_early, from_late, low}

module _ (steps : StayInStep) (errors : FindNoErrors) (winner : LeastWins) (stuffed : SendStuffed) (six : SixOrFront) (ten : TenHaveEdge) (laws : DrivenLaws)
    (s : Stations) (are : AreStations s) (room : HaveRoom s) (o : Outset) (is : IsOutset s o) (length : ℕ)
    (valid : (n : ℕ) → n < length → stuffed_end (bus_levels s (expected_bits s o) n) ≡ None) where
  abbrev bits : ℕ → Start
  bits = expected_bits s o

  abbrev drove : ℕ → ℕ → Bool
  drove = expected_drove s o length

  abbrev sends : ℕ → ℕ → Bool
  sends = still_sends s bits

  abbrev bus : ℕ → Bool
  bus = bus_bit s bits

  abbrev tick : ℕ → ℕ → ℕ
  tick k q = steady_tick (s.clocks k) q

  abbrev dues : ℕ → ℕ → ℕ
  dues n i = (bits n).place i + bit_quanta (s.lengths i)

  abbrev S : ℕ → ℕ → ℕ
  S n i = expected_sample s o n i

  the_course : IsCourse s bits drove length (λ k. expected_end s o length)
  the_course = course steps errors winner stuffed six ten s are room o is length valid

  pub right_at : (n i : ℕ) → n < length → i < s.count → IsRight s (bits n) drove i
  right_at n i less inside = (sampled_bit s are room bits drove length (λ k. expected_end s o length) the_course laws n less).right i inside

  close_at : (n : ℕ) → n < length → AreClose s (sends (suc n)) (since_edge s bits n) (bits n).place
  close_at n less = (sampled_bit s are room bits drove length (λ k. expected_end s o length) the_course laws n less).close

  abbrev wants_are : (n k : ℕ) → (bits n).drives k ≡ wants s o n k
  wants_are = expecting.drives_are steps errors winner stuffed six ten s are room o is

  -- who drives a bit dominant sends on after it
  pub sends_on : (n k : ℕ) → n < length → k < s.count → wants s o n k ≡ true → sends (suc n) k ≡ true
  sends_on n k less there dominant =
      and_from (sends n k) (has_sent bits n k || not (bus n)) (wants_sends steps errors winner stuffed six ten s are room o is length valid n k (omega arith) there dominant)
      (or_left (has_sent bits n k) (not (bus n)) (drives_sent bits n k (wants_are n k ∙ dominant)))

  pub on_bus : (n k : ℕ) → k < s.count → wants s o n k ≡ true → bus n ≡ true
  on_bus n k there dominant = any_from s.count k (bits n).drives there (wants_are n k ∙ dominant)

  -- no sender's bit comes before the sample of the one before
  pub not_before : (n i k : ℕ) → n < length → i < s.count → k < s.count → sends (suc n) k ≡ true → sampled_at s (bits n) i < reaches_at s (bits (suc n)) k i
  not_before n i k less inside there sender =
      next_later s are room.samples (sends (suc n)) (since_edge s bits n) (bits n) (bits (suc n)) drove
      (one_bit s are room bits drove length (λ k. expected_end s o length) the_course laws n less)
      (suc (tick k ((bits (suc n)).from k))) i k inside there (λ w lt before. right_at n w less lt) sender (omega arith)

  -- a sender's next bit is there at the sample that each station would make of it if no edge came
  due_there : (n i k : ℕ) → n < length → i < s.count → k < s.count → sends (suc n) k ≡ true → tick k (dues n k) + s.delay k i ≤ tick i (dues n i + sample_at (s.lengths i))
  due_there n i k less inside there sender =
      is_there s are room.samples (sends (suc n)) (suc (since_edge s bits n)) (let f = few_at steps errors winner stuffed six ten s are room o is n (valid n less) in omega arith)
      (record { drives = λ k. true; joins = λ k. false; due = dues n; place = dues n; from = dues n }) (λ w lt x. may steps errors winner stuffed six ten s are room o is (suc n) w lt x)
      (λ i k inside there other some. drifted s (since_edge s bits n) i k ((bits n).place i) ((bits n).place k) (close_at n less i k inside there other some))
      i k inside there sender refl

  pub from_low : (n k : ℕ) → (bits (suc n)).from k ≤ dues n k
  from_low n k = elim (cases_Bool (begins_with_edge s bits (suc n))) [
    | inl edge ↦
        subst (λ b. b.from k ≤ dues n k) (sym (edge_is steps errors winner stuffed six ten s are room o is n edge))
        (low s are (wants s o (suc n)) (dues n) (suc (most s.count (λ w. tick w (dues n w)))) k)
    | inr plain ↦ subst (λ b. b.from k ≤ dues n k) (sym (plain_is steps errors winner stuffed six ten s are room o is n plain)) (let h : dues n k ≤ dues n k = omega arith in h)
  ]

  -- a bit's place is early by the jump width at most
  pub place_up : (n i : ℕ) → dues n i ≤ (bits (suc n)).place i + (s.lengths i).sjw
  place_up n i = elim (cases_Bool (begins_with_edge s bits (suc n))) [
    | inl edge ↦
        subst (λ b. dues n i ≤ b.place i + (s.lengths i).sjw) (sym (edge_is steps errors winner stuffed six ten s are room o is n edge))
        (place_low steps errors winner stuffed six ten s are room o is length valid (dues n) i
        (found_before s (wants s o (suc n)) (settled s (wants s o (suc n)) (dues n)) i (suc (looks_up_to s (wants s o (suc n)) (dues n) i))))
    | inr plain ↦ subst (λ b. dues n i ≤ b.place i + (s.lengths i).sjw) (sym (plain_is steps errors winner stuffed six ten s are room o is n plain)) (let h : dues n i ≤ dues n i + (s.lengths i).sjw = omega arith in h)
  ]

  place_later : (m n i : ℕ) → i < s.count → suc m < n → dues m i ≤ (bits n).place i
  place_later m zero i inside less = absurd (omega arith)
  place_later m (suc n) i inside less =
      (let l = (are.line.book i inside).lengths in
      let long = l.low in
      let jump = l.sjw_half in
      let up = place_up n i in
      elim (cases_lt (suc m) n) [
        | inl more ↦ (let before = place_later m n i inside more in omega arith)
        | inr last ↦ (let e : suc m ≡ n = omega arith in let f : (bits (suc m)).place i ≡ (bits n).place i = ap (λ j. (bits j).place i) e in let first = place_up m i in omega arith)
      ])

  -- a recessive bit begins without an edge
  pub plain_when : (n : ℕ) → bus (suc n) ≡ false → begins_with_edge s bits (suc n) ≡ false
  plain_when n e = false_from_ne_true (begins_with_edge s bits (suc n)) (λ x. (let p = (and_parts (not (bus n)) (bus (suc n)) x).1 in cc))

  pub due_sample : (m n i : ℕ) → i < s.count → m < n → bus n ≡ false → dues m i + sample_at (s.lengths i) ≤ S n i
  due_sample m zero i inside less e = absurd (omega arith)
  due_sample m (suc n) i inside less e = elim (cases_lt (suc m) (suc n)) [
    | inl more ↦ (let up = place_later m (suc n) i inside more in omega arith)
    | inr last ↦
        (let same : n ≡ m = omega arith in
        let f : dues n i ≡ dues m i = ap (λ j. dues j i) same in
        let g : (bits (suc n)).place i ≡ dues n i = ap (λ b. b.place i) (plain_is steps errors winner stuffed six ten s are room o is n (plain_when n e)) in
        omega arith)
  ]

  -- what a bit drives has reached each station by a later sample of a recessive bit
  gone : (m n i w : ℕ) → m < n → n < length → i < s.count → w < s.count → wants s o m w ≡ true → bus n ≡ false → tick w ((bits m).from w) + s.delay w i ≤ tick i (S n i)
  gone m n i w less inside_n inside there dominant e =
      let up = from_all steps errors winner stuffed six ten s are room o is length valid m (suc m) w (omega arith) (omega arith) there in
      let down = tick_next s are w there ((bits (suc m)).from w) (dues m w) (from_low m w) in
      let come = due_there m i w (omega arith) inside there (sends_on m w (omega arith) there dominant) in
      let sample = tick_next s are i inside (dues m i + sample_at (s.lengths i)) (S n i) (due_sample m n i inside less e) in
      omega arith

  -- what is found dominant is a bit that a station drives so
  pub record Driving (i u : ℕ) : Type 0 where
    pub by : ℕ
    pub bit : ℕ
    pub there : by < s.count
    pub inside_bits : bit < length
    pub dominant : wants s o bit by ≡ true
    pub come : s.delay by i ≤ u
    pub low_bit : tick by ((bits bit).from by) ≤ u - s.delay by i
    pub high_bit : u - s.delay by i < tick by ((bits (suc bit)).from by)

  pub driving_at : (i u : ℕ) → driven s.count s.delay drove i u ≡ true → Driving i u
  driving_at i u e =
      let w = laws.dominant_by s.count s.delay drove i u e in
      let v = u - s.delay w.0 i in
      let x = any_one length (λ n. wants s o n w.0 && (nat_le (tick w.0 ((bits n).from w.0)) v && nat_lt v (tick w.0 ((bits (suc n)).from w.0)))) w.3 in
      let p = and_parts (wants s o x.0 w.0) (nat_le (tick w.0 ((bits x.0).from w.0)) v && nat_lt v (tick w.0 ((bits (suc x.0)).from w.0))) x.2 in
      let r = and_parts (nat_le (tick w.0 ((bits x.0).from w.0)) v) (nat_lt v (tick w.0 ((bits (suc x.0)).from w.0))) p.1 in
      record {
        by = w.0;
        bit = x.0;
        there = w.1;
        inside_bits = x.1;
        dominant = p.0;
        come = w.2;
        low_bit = leb-true (tick w.0 ((bits x.0).from w.0)) v r.0;
        high_bit = ltb-true v (tick w.0 ((bits (suc x.0)).from w.0)) r.1;
      }

  -- between the samples of a recessive bit and of the next one
  module _ (n i : ℕ) (less : suc n < length) (inside : i < s.count) (quiet : bus n ≡ false) where
    abbrev found : ℕ → Bool
    found q = driven s.count s.delay drove i (tick i q)

    -- what drives there
    record Driver (q : ℕ) : Type 0 where
      by : ℕ
      there : by < s.count
      dominant : wants s o (suc n) by ≡ true
      reaches : reaches_at s (bits (suc n)) by i ≤ tick i q

    driver_by : (q w m : ℕ) → S n i < q → q ≤ S (suc n) i → w < s.count → s.delay w i ≤ tick i q → m < length → wants s o m w ≡ true
        → tick w ((bits m).from w) ≤ tick i q - s.delay w i → tick i q - s.delay w i < tick w ((bits (suc m)).from w) → Driver q
    driver_by q w m after_n by_next there come inside_m dominant low_m high_m = elim (cases_lt m (suc n)) [
      | inl early ↦ elim (cases_lt m n) [
        | inl before ↦
            (let reach = gone m n i w before (omega arith) inside there dominant quiet in
            let up = tick_next s are i inside (S n i) q (omega arith) in
            let drives = driven_at steps errors winner stuffed six ten s are room o is length valid m w (tick i (S n i) - s.delay w i) inside_m there (omega arith) (omega arith) ∙ dominant in
            let finds = laws.dominant_from s.count s.delay drove w i (tick i (S n i)) there (omega arith) drives in
            let right = right_at n i (omega arith) inside ∙ quiet in
            cc)
        | inr here ↦ (let e : m ≡ n = omega arith in let x = on_bus n w there (ap (λ j. wants s o j w) (sym e) ∙ dominant) in cc)
      ]
      | inr late ↦ elim (cases_lt (suc n) m) [
        | inl next ↦
            (let sender = sent_at steps errors winner stuffed six ten s are room o is (suc (suc n)) m w next
            (wants_sends steps errors winner stuffed six ten s are room o is length valid m w (omega arith) there dominant) in
            let later = not_before (suc n) i w less inside there sender in
            let up = from_all steps errors winner stuffed six ten s are room o is length valid (suc (suc n)) m w next (omega arith) there in
            let last = tick_next s are i inside q (S (suc n) i) by_next in
            absurd (omega arith))
        | inr here ↦
            (let e : m ≡ suc n = omega arith in
            let f : tick w ((bits m).from w) ≡ tick w ((bits (suc n)).from w) = ap (λ j. tick w ((bits j).from w)) e in
            record { by = w; there = there; dominant = ap (λ j. wants s o j w) (sym e) ∙ dominant; reaches = omega arith })
      ]
    ]

    driver_at : (q : ℕ) → S n i < q → q ≤ S (suc n) i → found q ≡ true → Driver q
    driver_at q after_n by_next e =
        let x = driving_at i (tick i q) e in
        driver_by q x.by x.bit after_n by_next x.there x.come x.inside_bits x.dominant x.low_bit x.high_bit

    driven_then : (w q : ℕ) → w < s.count → wants s o (suc n) w ≡ true → reaches_at s (bits (suc n)) w i ≤ tick i q → q ≤ S (suc n) i → found q ≡ true
    driven_then w q there dominant reach by_next =
        let later = not_before (suc n) i w less inside there (sends_on (suc n) w less there dominant) in
        let last = tick_next s are i inside q (S (suc n) i) by_next in
        let drives = driven_at steps errors winner stuffed six ten s are room o is length valid (suc n) w (tick i q - s.delay w i) less there (omega arith) (omega arith) ∙ dominant in
        laws.dominant_from s.count s.delay drove w i (tick i q) there (omega arith) drives

  -- one bit of a station's clock
  module _ (edges : EdgeLaws) (calm : NoEdgeLaws) (n i : ℕ) (less : suc n < length) (inside : i < s.count) (seen : ℕ → Seen) (sees : SeesExpected s o length i seen n)
      (has : HasSampled s o i seen n) where
    abbrev l : Lengths
    l = s.lengths i

    abbrev place : ℕ
    place = (bits n).place i

    abbrev due : ℕ
    due = dues n i

    abbrev next : Start
    next = bits (suc n)

    abbrev edge_bit : Start
    edge_bit = edge_start s (wants s o (suc n)) (dues n)

    abbrev Goes : Type 0
    Goes = BitIs l seen (S n i) (next.place i) (next.from i) (level_of (bus (suc n)))

    book : ByTheBook l
    book = are.line.book i inside

    level_at : (q : ℕ) (b : Bool) → S n i < q → q ≤ S (suc n) i → driven s.count s.delay drove i (tick i q) ≡ b → (seen q).level ≡ level_of b
    level_at q b low_q high_q e = sees.level q low_q high_q ∙ ap level_of e

    sample_later : S n i < S (suc n) i
    sample_later =
        let long = book.lengths.low in
        let jump = book.lengths.sjw_half in
        let up = place_up n i in
        omega arith

    last_level : (seen (S (suc n) i)).level ≡ level_of (bus (suc n))
    last_level = level_at (S (suc n) i) (bus (suc n)) sample_later (omega arith) (right_at (suc n) i less inside)

    -- a bit without an edge, by its place
    plain_goes : begins_with_edge s bits (suc n) ≡ false → BitIs l seen (S n i) due due (level_of (bus (suc n))) → Goes
    plain_goes plain b =
        subst (λ x. BitIs l seen (S n i) (x.place i) (x.from i) (level_of (bus (suc n)))) (sym (plain_is steps errors winner stuffed six ten s are room o is n plain)) b

    plain_place : begins_with_edge s bits (suc n) ≡ false → next.place i ≡ due
    plain_place plain = ap (λ b. b.place i) (plain_is steps errors winner stuffed six ten s are room o is n plain)

    edge_goes : begins_with_edge s bits (suc n) ≡ true → BitIs l seen (S n i) (edge_bit.place i) (edge_bit.from i) (level_of (bus (suc n))) → Goes
    edge_goes edge b =
        subst (λ x. BitIs l seen (S n i) (x.place i) (x.from i) (level_of (bus (suc n)))) (sym (edge_is steps errors winner stuffed six ten s are room o is n edge)) b

    sampled_as : (level : Level) → level_of (bus n) ≡ level → SamplesBy l seen (S n i) level
    sampled_as level e = has.sampled ∙ ap Sample e

    -- after a dominant bit
    after_dominant : bus n ≡ true → Goes
    after_dominant e =
        let plain : begins_with_edge s bits (suc n) ≡ false = ap (λ b. not b && bus (suc n)) e in
        let where_next = plain_place plain in
        plain_goes plain
        (subst (BitIs l seen (S n i) due due) (ap (λ q. (seen (q + sample_at l)).level) (sym where_next) ∙ last_level)
        (edges.dominant l seen place book (sampled_as Dominant (ap level_of e))))

    -- between two recessive bits
    silent_there : bus n ≡ false → bus (suc n) ≡ false → (q : ℕ) → S n i < q → q ≤ S (suc n) i → (seen q).level ≡ Recessive
    silent_there quiet none q after_n by_next =
        level_at q false after_n by_next (false_from_ne_true (driven s.count s.delay drove i (tick i q)) (λ e. (let w = driver_at n i less inside quiet q after_n by_next e in let x = on_bus (suc n) w.by w.there w.dominant in cc)))

    silent_place : bus (suc n) ≡ false → S (suc n) i ≡ due + sample_at l
    silent_place none = ap (λ q. q + sample_at l) (plain_place (plain_when n none))

    between_recessive : bus n ≡ false → bus (suc n) ≡ false → Goes
    between_recessive quiet none =
        plain_goes (plain_when n none)
        (subst (BitIs l seen (S n i) due due) (sym (ap level_of none))
        (edges.silent l seen place Recessive book (sampled_as Recessive (ap level_of quiet)) (λ q a b. silent_there quiet none q a (let e = silent_place none in omega arith))))

    -- an edge
    module _ (quiet : bus n ≡ false) (edge : begins_with_edge s bits (suc n) ≡ true) where
      begin : BeginBit s edge_bit
      begin =
          subst (BeginBit s) (edge_is steps errors winner stuffed six ten s are room o is n edge)
          (the_course.edge n less (λ w lt m below. right_at m w (omega arith) lt) edge)

      dominant_next : bus (suc n) ≡ true
      dominant_next = (and_parts (not (bus n)) (bus (suc n)) edge).1

      next_is : next ≡ edge_bit
      next_is = edge_is steps errors winner stuffed six ten s are room o is n edge

      S_next : S (suc n) i ≡ edge_bit.place i + sample_at l
      S_next = ap (λ b. b.place i + sample_at l) next_is

      reaches_same : (w : ℕ) → reaches_at s next w i ≡ reaches_at s edge_bit w i
      reaches_same w = ap (λ b. reaches_at s b w i) next_is

      from_next : next.from i ≡ edge_bit.from i
      from_next = ap (λ b. b.from i) next_is

      own_late : (w q : ℕ) → w ≡ i → reaches_at s edge_bit w i ≤ tick i q → q ≤ edge_bit.from i → ⊥
      own_late w q e reach by_from =
          let up = tick_next s are i inside q (edge_bit.from i) by_from in
          let loop = are.line.later i i inside inside in
          let f : reaches_at s edge_bit w i ≡ reaches_at s edge_bit i i = ap (λ k. reaches_at s edge_bit k i) e in
          omega arith

      -- before a quantum up to which no other station's edge has come, and before the station's own bit
      silent_before : (end : ℕ) → end ≤ S (suc n) i → end ≤ edge_bit.from i → ((w : ℕ) → Drives s edge_bit i w → tick i end < reaches_at s edge_bit w i)
          → (q : ℕ) → S n i < q → q ≤ end → (seen q).level ≡ Recessive
      silent_before end by_next by_from unfound q after_n by_end =
          level_at q false after_n (omega arith) (false_from_ne_true (driven s.count s.delay drove i (tick i q)) (λ e. (let w = driver_at n i less inside quiet q after_n (omega arith) e in
          let reach = w.reaches in
          let same = reaches_same w.by in
          elim (cases_eq w.by i) [
            | inl own ↦ own_late w.by q own (omega arith) (omega arith)
            | inr other ↦
                (let un = unfound w.by (record { inside = w.there; other = other; dominant = w.dominant }) in
                let up = tick_next s are i inside q end by_end in
                absurd (omega arith))
          ])))

      -- it begins by itself
      alone_goes : BeginsAlone s edge_bit i → BitIs l seen (S n i) (edge_bit.place i) (edge_bit.from i) (level_of (bus (suc n)))
      alone_goes itself =
          let p = itself.place in
          let f = itself.from in
          let sn = S_next in
          let fn = from_next in
          let up : tick i (edge_bit.place i) ≡ tick i due = ap (tick i) p in
          let b =
          edges.own l seen place Recessive book (sampled_as Recessive (ap level_of quiet))
          (silent_before due (omega arith) (omega arith) (λ w x. (let un = itself.unfound w x in omega arith)))
          (λ q a c. sees.after q (omega arith) (omega arith) ∙ itself.dominant) in
          let same : due ≡ edge_bit.place i = sym p in
          let same_from : due ≡ edge_bit.from i = sym p ∙ sym f in
          subst (λ x. BitIs l seen (S n i) (edge_bit.place i) x (level_of (bus (suc n)))) same_from
          (subst (λ x. BitIs l seen (S n i) x due (level_of (bus (suc n)))) same
          (subst (BitIs l seen (S n i) due due) (ap (λ q. (seen q).level) (let e : due + sample_at l ≡ S (suc n) i = omega arith in e) ∙ last_level) b))

      -- it finds an edge
      module _ (f : FollowsSoft s edge_bit i) where
        jump_small : f.found ≤ due + sample_at l
        jump_small = elim (cases_lt (due + sample_at l) f.found) [
          | inl late ↦
              (let w = f.finds.by in
              let unseen = f.finds.finds.unseen (due + sample_at l) late in
              let come = due_there n i f.by (omega arith) inside w.inside (wants_sends steps errors winner stuffed six ten s are room o is length valid (suc n) f.by (omega arith) w.inside w.dominant) in
              let low_from = from_low n f.by in
              let same = ap (λ b. b.from f.by) next_is in
              let up = tick_next s are f.by w.inside (edge_bit.from f.by) (dues n f.by) (omega arith) in
              absurd (omega arith))
          | inr fits ↦ fits
        ]

        found_after : S n i < f.found
        found_after = elim (cases_lt (S n i) f.found) [
          | inl later ↦ later
          | inr sooner ↦
              (let w = f.finds.by in
              let before = not_before n i f.by (omega arith) inside w.inside (wants_sends steps errors winner stuffed six ten s are room o is length valid (suc n) f.by (omega arith) w.inside w.dominant) in
              let same = reaches_same f.by in
              let seen_by = f.finds.finds.seen in
              let up = tick_next s are i inside f.found (S n i) sooner in
              absurd (omega arith))
        ]

        found_by_next : f.found ≤ S (suc n) i
        found_by_next =
            let sn = S_next in
            let p = f.place in
            let small = jump_small in
            let a = book.lengths.sjw_low in
            let b = book.lengths.prop_low in
            let c = book.lengths.ps1_low in
            omega arith

        finds_edge : (f.found ≤ edge_bit.from i) ⊎ ((due < f.found) × (edge_bit.from i ≡ due)) → FindsEdge l seen place f.found (edge_bit.place i + sample_at l)
        finds_edge when = record {
          sampled = sampled_as Recessive (ap level_of quiet);
          clock = has.steady quiet;
          after = found_after;
          silent = λ q a b. silent_until q a b;
          there = λ q a b. level_at q true (let g = found_after in omega arith) (let sn = S_next in omega arith) (driven_then n i less inside quiet f.by q f.finds.by.inside f.finds.by.dominant
              (let same = reaches_same f.by in let seen_by = f.finds.finds.seen in let up = tick_next s are i inside f.found q a in omega arith) (let sn = S_next in omega arith));
          awaits = sees.awaits f.found found_after found_by_next;
          driving = driving_found when;
        }
          where
            silent_until : (q : ℕ) → S n i < q → q < f.found → (seen q).level ≡ Recessive
            silent_until q a b =
                level_at q false a (let g = found_by_next in omega arith) (false_from_ne_true (driven s.count s.delay drove i (tick i q)) (λ e. (let next_small = found_by_next in
                let w = driver_at n i less inside quiet q a (omega arith) e in
                let reach = w.reaches in
                let same = reaches_same w.by in
                elim (cases_eq w.by i) [
                  | inl own ↦
                      (let drives : edge_bit.drives i ≡ true = ap (wants s o (suc n)) (sym own) ∙ w.dominant in
                      let low_from = f.not_before drives in
                      own_late w.by q own (omega arith) (omega arith))
                  | inr other ↦
                      (let x = f.finds.first w.by (record { inside = w.there; other = other; dominant = w.dominant }) in
                      let unseen = f.finds.finds.unseen q b in
                      absurd (omega arith))
                ])))

            driving_found : (f.found ≤ edge_bit.from i) ⊎ ((due < f.found) × (edge_bit.from i ≡ due)) → (seen f.found).driving ≡ false
            driving_found (inl by_from) =
                let fn = from_next in
                sees.before f.found found_after (omega arith)
                ∙ false_from_ne_true (wants s o n i) (λ e. (let x = on_bus n i inside e in cc))
            driving_found (inr late) =
                let fn = from_next in
                let past = late.0 in
                let from_due = late.1 in
                sees.after f.found (omega arith) found_by_next
                ∙ false_from_ne_true (wants s o (suc n) i) (λ e. (let x = f.early e in absurd (omega arith)))

        soft_goes : BitIs l seen (S n i) (edge_bit.place i) (edge_bit.from i) (level_of (bus (suc n)))
        soft_goes = elim (cases_lt due f.found) [
          | inl late ↦
              (let from_is = from_late s are (wants s o (suc n)) (dues n) i inside f late in
              subst (BitIs l seen (S n i) (edge_bit.place i) (edge_bit.from i)) (sym (ap level_of dominant_next))
              (subst (λ x. BitIs l seen (S n i) (edge_bit.place i) x Dominant) (sym from_is)
              (edges.late l seen place f.found (edge_bit.place i) book late jump_small f.place (finds_edge (inr (late, from_is))))))
          | inr early ↦
              (let from_is = from_early s are (wants s o (suc n)) (dues n) i inside f early in
              let p = f.place in
              subst (BitIs l seen (S n i) (edge_bit.place i) (edge_bit.from i)) (sym (ap level_of dominant_next))
              (subst (λ x. BitIs l seen (S n i) (edge_bit.place i) x Dominant) (sym (from_is ∙ ap (max f.found) (sym p)))
              (edges.early l seen place f.found (edge_bit.place i) book early p (finds_edge (inl (omega arith))))))
        ]

      edge_case : Goes
      edge_case = edge_goes edge (elim (begin i inside) [
        | inl itself ↦ alone_goes itself
        | inr soft ↦ soft_goes soft
      ])

    pub bit_goes : Goes
    bit_goes = elim (cases_Bool (bus n)) [
      | inl dominant ↦ after_dominant dominant
      | inr quiet ↦ elim (cases_Bool (bus (suc n))) [
        | inl some ↦ edge_case quiet (ap (λ b. not b && bus (suc n)) quiet ∙ some)
        | inr none ↦ between_recessive quiet none
      ]
    ]

    -- no edge moves a recessive bit
    none_syncs : bus (suc n) ≡ false → NoneSyncs l seen (S n i) (due + sample_at l)
    none_syncs none q a b = elim (cases_Bool (bus n)) [
      | inl dominant ↦ calm.sampled l seen (S n i) book (sampled_as Dominant (ap level_of dominant)) q a (omega arith)
      | inr quiet ↦ calm.recessive l (seen_before seen q) (seen q) book (silent_there quiet none q a (let e = silent_place none in omega arith))
    ]

    pub has_next : HasSampled s o i seen (suc n)
    has_next = record {
      sampled = bit_goes.samples.beat;
      steady = λ none. (let e = silent_place none in
          subst (λ q. clock_after l (seen_before seen (suc q)) ≡ steady_clock l) (sym e)
          (edges.steady l seen place (level_of (bus n)) book has.sampled (none_syncs none) (ap (λ q. (seen q).level) (sym e) ∙ last_level ∙ ap level_of none)));
    }
