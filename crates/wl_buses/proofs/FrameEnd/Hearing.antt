-- What each station finds at the end of a frame, between its samples.
use Rattle.std.proofs.Common.{◌≡◌, ◌∙◌, inl, inr, refl, sym, ap, subst, ℕ, suc, ◌+◌, ◌-◌, ◌*◌, ◌<◌, ◌≤◌, Bool, true, false, Some, None, arith}
use Rattle.std.proofs.lemmas.Bool.{both_ways, cases_eq, cases_lt, false_from_ne_true}
use Rattle.wl_segments.specs.Lengths.{bit_quanta, sample_at}
use Rattle.wl_topology.specs.Driven.{driven}
use Rattle.wl_machine.specs.Frames.{stuffed_end}
use Rattle.wl_phase.specs.Clocks.{steady_tick}
use Rattle.wl_buses.specs.OneFrame.Stations.{AreStations, HaveRoom, HaveRoomToSample, Stations, shared_instant, shared_quantum}
use Rattle.wl_buses.specs.OneFrame.Starts.{Drives, Start, reaches_at}
use Rattle.wl_buses.specs.OneFrame.Course.{bus_bit, since_edge}
use Rattle.wl_buses.specs.OneFrame.Machines.{HasWon, bus_levels}
use Rattle.wl_buses.specs.OneFrame.Acknowledged.{AreAllClose, CatchUp, answering, chased_way}
use Rattle.wl_buses.specs.OneFrame.Expected.{IsOutset, Outset, edge_start, expected_bits, expected_drove, expected_end, expected_sample, wants}
use Rattle.wl_buses.proofs.OneFrame.AckWays.{any_close, chased_stations, closer}
use Rattle.wl_buses.proofs.OneFrame.Expecting.{course}
use Rattle.wl_buses.proofs.OneFrame.Measures.{drifted, instant_more, tick_next, ticks_before}
use Rattle.wl_buses.proofs.OneFrame.Seeing.{driving_at, due_sample, from_low, on_bus}
use Rattle.wl_buses.proofs.OneFrame.Sampled.{is_there}
use Rattle.wl_buses.specs.FrameEnd.Ends.{end_bit}
use Rattle.wl_buses.specs.FrameEnd.Asked.{EndAsAsked}
use Rattle.wl_buses.proofs.FrameEnd.Below.{MachineLaws}
use Rattle.wl_buses.proofs.FrameEnd.Asked.{as_asked}
use Rattle.wl_buses.proofs.FrameEnd.Placing as placing
use Rattle.wl_buses.proofs.FrameEnd.Slot.{close, delimiter_place, drove_after, drove_before, drove_slot, few, heard, over_after, over_is, slot_is, was_quiet}

module _ (m : MachineLaws) (s : Stations) (are : AreStations s) (room : HaveRoom s) (o : Outset) (is : IsOutset s o) (end : ℕ)
    (valid : (n : ℕ) → n < end → stuffed_end (bus_levels s (expected_bits s o) n) ≡ None)
    (over : stuffed_end (bus_levels s (expected_bits s o) end) ≡ Some end) (won : HasWon s (expected_bits s o) o.frames end)
    (chase : ℕ → ℕ) (catch : CatchUp s won.station chase) (enough : HaveRoomToSample (answering s (chased_way s won.station chase))) where
  abbrev bits : ℕ → Start
  bits = expected_bits s o

  abbrev bus : ℕ → Bool
  bus = bus_bit s bits

  abbrev tick : ℕ → ℕ → ℕ
  tick k q = steady_tick (s.clocks k) q

  abbrev dues : ℕ → ℕ → ℕ
  dues n i = (bits n).place i + bit_quanta (s.lengths i)

  abbrev S : ℕ → ℕ → ℕ
  S n i = expected_sample s o n i

  abbrev drove : ℕ → ℕ → Bool
  drove = expected_drove s o (end + 13)

  abbrev was : ℕ → ℕ → Bool
  was = expected_drove s o end

  abbrev late : ℕ → ℕ → ℕ
  late = chased_way s won.station chase

  abbrev t : Stations
  t = answering s late

  abbrev found : ℕ → ℕ → Bool
  found i q = driven s.count s.delay drove i (tick i q)

  are_there : AreStations t
  are_there = chased_stations s are.line won.station chase

  asked : EndAsAsked s o end won.station won.frame
  asked = as_asked m s are room o is end valid over won

  abbrev pub z : ℕ
  z = placing.z m s are room o is end valid over won

  pub z_is : suc z ≡ end
  z_is = placing.z_is m s are room o is end valid over won

  pub bus_at : (place n : ℕ) → place ≤ 12 → end + place ≡ n → bus n ≡ end_bit place
  bus_at = placing.bus_at m s are room o is end valid over won

  pub plain_place : (n i : ℕ) → bus (suc n) ≡ false → (bits (suc n)).place i ≡ dues n i
  plain_place = placing.plain_place m s are room o is end valid over won

  pub plain_from : (n i : ℕ) → bus (suc n) ≡ false → (bits (suc n)).from i ≡ dues n i
  plain_from = placing.plain_from m s are room o is end valid over won

  close_at : (n : ℕ) → n < end → AreAllClose s late (since_edge s bits n) (bits n).place
  close_at n less =
      closer s won.station chase (since_edge s bits n) (bits n).place
      (any_close s are room bits (expected_drove s o end) end (λ k. expected_end s o end) (course m.steps m.errors m.winner m.stuffed m.six m.ten s are room o is end valid) m.driven
      won.station won.inside won.sends chase catch n less)

  few_at_all : (n : ℕ) → n < end → since_edge s bits n ≤ 9
  few_at_all n less = (course m.steps m.errors m.winner m.stuffed m.six m.ten s are room o is end valid).few n less

  -- a bit is there at the sample that each station would make of it
  due_there : (n i k : ℕ) → n < end → i < s.count → k < s.count → tick k (dues n k) + s.delay k i ≤ tick i (dues n i + sample_at (s.lengths i))
  due_there n i k less inside there =
      is_there t are_there enough (λ w. true) (suc (since_edge s bits n)) (let f = few_at_all n less in omega arith)
      (record { drives = λ w. true; joins = λ w. false; due = dues n; place = dues n; from = dues n }) (λ w lt x. refl)
      (λ a b low high other some. drifted t (since_edge s bits n) a b ((bits n).place a) ((bits n).place b) (close_at n less a b low high other some))
      i k inside there refl refl

  gone : (a n i w : ℕ) → a < n → n < end → i < s.count → w < s.count → bus n ≡ false → tick w ((bits (suc a)).from w) + s.delay w i ≤ tick i (S n i)
  gone a n i w less inside_n inside there e =
      let down = tick_next s are w there ((bits (suc a)).from w) (dues a w) (from_low m.steps m.errors m.winner m.stuffed m.six m.ten m.driven s are room o is end valid a w) in
      let come = due_there a i w (omega arith) inside there in
      let sample = tick_next s are i inside (dues a i + sample_at (s.lengths i)) (S n i) (due_sample m.steps m.errors m.winner m.stuffed m.six m.ten m.driven s are room o is end valid a n i inside less e) in
      omega arith

  -- the CRC delimiter reaches each station by its sample of it
  delimiter_there : (i k : ℕ) → i < s.count → k < s.count → tick k ((bits end).place k) + s.delay k i ≤ tick i (S end i)
  delimiter_there i k inside there =
      let e = z_is in
      let come = due_there z i k (omega arith) inside there in
      let here : tick k ((bits end).place k) ≡ tick k (dues z k) = ap (tick k) (delimiter_place m s are room o is end valid over won k) in
      let mine : tick i (S end i) ≡ tick i (dues z i + sample_at (s.lengths i)) = ap (λ q. tick i (q + sample_at (s.lengths i))) (delimiter_place m s are room o is end valid over won i) in
      omega arith

  -- no slot comes before that sample
  pub slot_later : (i k : ℕ) → i < s.count → k < s.count → tick i (S end i) < tick k ((bits (suc end)).from k) + s.delay k i
  slot_later i k inside there = (heard m s are room o is end valid over won chase catch enough (λ w. 0)).not_early i k inside there

  -- up to that sample a station finds what the stuffed part drives
  pub found_was : (i q : ℕ) → i < s.count → q ≤ S end i → driven s.count s.delay drove i (tick i q) ≡ driven s.count s.delay was i (tick i q)
  found_was i q inside by_end =
      m.driven.same s.count s.delay drove was i (tick i q)
      (λ k there come. (let later = slot_later i k inside there in
      let up = tick_next s are i inside q (S end i) by_end in
      drove_before m s are room o is end valid over won chase catch enough k (tick i q - s.delay k i) there (omega arith)))

  -- after a recessive last bit nothing comes up to that sample
  pub silent_delimiter : (i q : ℕ) → i < s.count → bus z ≡ false → S z i < q → q ≤ S end i → found i q ≡ false
  silent_delimiter i q inside quiet after by_end =
      found_was i q inside by_end
      ∙ false_from_ne_true (driven s.count s.delay was i (tick i q)) (λ e. (let x = driving_at m.steps m.errors m.winner m.stuffed m.six m.ten m.driven s are room o is end valid i (tick i q) e in
      let e_z = z_is in
      let high = x.high_bit in
      let less = x.inside_bits in
      let come = x.come in
      elim (cases_lt x.bit z) [
        | inl before ↦
            (let g = gone x.bit z i x.by before (omega arith) inside x.there quiet in
            let up = tick_next s are i inside (S z i) q (omega arith) in
            absurd (omega arith))
        | inr here ↦
            (let f : z ≡ x.bit = omega arith in
            let y = on_bus m.steps m.errors m.winner m.stuffed m.six m.ten m.driven s are room o is end valid z x.by x.there (ap (λ n. wants s o n x.by) f ∙ x.dominant) in
            cc)
      ]))

  -- the samples
  pub right_delimiter : (i : ℕ) → i < s.count → found i (S end i) ≡ false
  right_delimiter i inside = (heard m s are room o is end valid over won chase catch enough (λ w. 0)).before i inside

  pub right_slot : (i : ℕ) → i < s.count → found i (S (suc end) i) ≡ true
  right_slot i inside = (heard m s are room o is end valid over won chase catch enough (λ w. 0)).dominant i inside

  over_place : (i : ℕ) → (bits (suc (suc end))).from i ≡ (bits (suc (suc end))).place i
  over_place i = ap (λ b. b.from i) (over_is m s are room o is end valid over won) ∙ sym (ap (λ b. b.place i) (over_is m s are room o is end valid over won))

  pub silent_then : (i q : ℕ) → i < s.count → S (suc (suc end)) i ≤ q → found i q ≡ false
  silent_then i q inside from =
      (let same : S (suc (suc end)) i ≡ (bits (suc (suc end))).from i + sample_at (s.lengths i) = ap (λ p. p + sample_at (s.lengths i)) (sym (over_place i)) in
      let up = tick_next s are i inside ((bits (suc (suc end))).from i + sample_at (s.lengths i)) q (omega arith) in
      (heard m s are room o is end valid over won chase catch enough (λ w. suc (tick i q))).silent i (tick i q) inside up (λ k there. omega arith))

  -- the slot, between the samples of the CRC delimiter and of itself
  abbrev pub d : ℕ → Bool
  d = wants s o (suc end)

  abbrev pub e : Start
  e = edge_start s d (dues end)

  pub due_slot : (i k : ℕ) → i < s.count → k < s.count → tick k (dues end k) + s.delay k i ≤ tick i (dues end i + sample_at (s.lengths i))
  due_slot i k inside there =
      let near = close m s are room o is end valid over won chase catch enough in
      let f = few m s are room o is end valid over won in
      is_there t are_there enough (λ w. true) (suc (suc (since_edge s bits z))) (omega arith) (record { drives = λ w. true; joins = λ w. false; due = dues end; place = dues end; from = dues end }) (λ w lt x. refl)
      (λ a b low high other some. drifted t (suc (since_edge s bits z)) a b ((bits end).place a) ((bits end).place b) (near a b low high other some))
      i k inside there refl refl

  -- the ACK delimiter reaches no station before its sample of the slot
  pub over_later : (i k : ℕ) → i < s.count → k < s.count → tick i (S (suc end) i) < tick k ((bits (suc (suc end))).from k) + s.delay k i
  over_later i k inside there = elim (cases_eq i k) [
    | inl same ↦
        (let after = over_after m s are room o is end valid over won chase catch enough i inside in
        let loop = are.line.later i i inside inside in
        let up = tick_next s are i inside (S (suc end) i) ((bits (suc (suc end))).from i) (omega arith) in
        subst (λ w. tick i (S (suc end) i) < tick w ((bits (suc (suc end))).from w) + s.delay w i) same (omega arith))
    | inr other ↦
        (let near = (heard m s are room o is end valid over won chase catch enough (λ w. 0)).close 0 i k inside there other (inl refl) in
        let fits = enough.not_early i k inside there other refl in
        let mine = instant_more s are i k inside there ((bits (suc end)).place i) (sample_at (s.lengths i)) in
        let theirs = instant_more s are k i there inside ((bits (suc end)).place k) (bit_quanta (s.lengths k)) in
        let bit : bit_quanta (s.lengths i) * shared_quantum s i k ≡ sample_at (s.lengths i) * shared_quantum s i k + (s.lengths i).ps2 * shared_quantum s i k = omega arith in
        let from : (bits (suc (suc end))).from k ≡ (bits (suc end)).place k + bit_quanta (s.lengths k) = ap (λ b. b.from k) (over_is m s are room o is end valid over won) in
        let f : shared_instant s k i ((bits (suc (suc end))).from k) ≡ shared_instant s k i ((bits (suc end)).place k + bit_quanta (s.lengths k)) = ap (shared_instant s k i) from in
        let first : shared_instant s i k ((bits (suc end)).place i + 0 * bit_quanta (s.lengths i)) ≡ shared_instant s i k ((bits (suc end)).place i) =
        ap (shared_instant s i k) (let g : (bits (suc end)).place i + 0 * bit_quanta (s.lengths i) ≡ (bits (suc end)).place i = omega arith in g) in
        let second : shared_instant s k i ((bits (suc end)).place k + 0 * bit_quanta (s.lengths k)) ≡ shared_instant s k i ((bits (suc end)).place k) =
        ap (shared_instant s k i) (let g : (bits (suc end)).place k + 0 * bit_quanta (s.lengths k) ≡ (bits (suc end)).place k = omega arith in g) in
        ticks_before s are i k inside there ((bits (suc end)).place i + sample_at (s.lengths i)) ((bits (suc (suc end))).from k) (s.delay k i) (omega arith))
  ]

  pub record Answerer (i q : ℕ) : Type 0 where
    pub by : ℕ
    pub there : by < s.count
    pub dominant : d by ≡ true
    pub reaches : reaches_at s e by i ≤ tick i q

  reaches_same : (i k : ℕ) → reaches_at s (bits (suc end)) k i ≡ reaches_at s e k i
  reaches_same i k = ap (λ b. reaches_at s b k i) (slot_is m s are room o is end valid over won)

  answerer_by : (i q k : ℕ) → i < s.count → S end i < q → k < s.count → s.delay k i ≤ tick i q → drove k (tick i q - s.delay k i) ≡ true → Answerer i q
  answerer_by i q k inside after there come dominant = elim (cases_lt (tick i q - s.delay k i) (tick k ((bits (suc end)).from k))) [
    | inl before ↦
        (let first = delimiter_there i k inside there in
        let up = tick_next s are i inside (S end i) q (omega arith) in
        absurd (both_ways (drove k (tick i q - s.delay k i))
        (drove_before m s are room o is end valid over won chase catch enough k (tick i q - s.delay k i) there before
        ∙ was_quiet m s are room o is end valid over won chase catch enough k (tick i q - s.delay k i) there (omega arith)) dominant))
    | inr from ↦ elim (cases_lt (tick i q - s.delay k i) (tick k ((bits (suc (suc end))).from k))) [
      | inl within ↦
          (let same = reaches_same i k in
          record {
            by = k;
            there = there;
            dominant = sym (drove_slot m s are room o is end valid over won chase catch enough k (tick i q - s.delay k i) there from within) ∙ dominant;
            reaches = omega arith;
          })
      | inr past ↦
          absurd (both_ways (drove k (tick i q - s.delay k i)) (drove_after m s are room o is end valid over won chase catch enough k (tick i q - s.delay k i) there from past) dominant)
    ]
  ]

  pub answerer : (i q : ℕ) → i < s.count → S end i < q → found i q ≡ true → Answerer i q
  answerer i q inside after x =
      let w = m.driven.dominant_by s.count s.delay drove i (tick i q) x in
      answerer_by i q w.0 inside after w.1 w.2 w.3

  pub answer_found : (i q k : ℕ) → i < s.count → k < s.count → d k ≡ true → reaches_at s e k i ≤ tick i q → q ≤ S (suc end) i → found i q ≡ true
  answer_found i q k inside there dominant reach by_next =
      let later = over_later i k inside there in
      let up = tick_next s are i inside q (S (suc end) i) by_next in
      let same = reaches_same i k in
      let drives = drove_slot m s are room o is end valid over won chase catch enough k (tick i q - s.delay k i) there (omega arith) (omega arith) ∙ dominant in
      m.driven.dominant_from s.count s.delay drove k i (tick i q) there (omega arith) drives

  pub delimiter_wants : (i : ℕ) → i < s.count → wants s o end i ≡ false
  delimiter_wants = placing.delimiter_wants m s are room o is end valid over won

  pub samples_up : (a n i : ℕ) → i < s.count → a ≤ n → S a i ≤ S n i
  samples_up = placing.samples_up m s are room o is end valid over won

  later : (i k : ℕ) → i < s.count → Drives s (bits (suc end)) i k → tick i (S end i) < reaches_at s (bits (suc end)) k i
  later i k inside drives = slot_later i k inside drives.inside

  pub begins_after : (place n i : ℕ) → place ≤ 12 → end + place ≡ suc n → i < s.count → S n i < (bits (suc n)).from i
  begins_after place n i small at inside = placing.begins_after m s are room o is end valid over won i inside (λ k drives. later i k inside drives) place n small at
