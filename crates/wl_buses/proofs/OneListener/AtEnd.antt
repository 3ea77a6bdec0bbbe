-- A station that only listens finds the end of a frame, if what it drives reaches no other one in time.
use Rattle.std.proofs.Common.{◌≡◌, ◌≢◌, ◌∙◌, ◌⊎◌, inl, inr, refl, sym, ap, subst, ℕ, suc, ◌+◌, ◌-◌, ◌*◌, ◌<◌, ◌≤◌, not, Bool, true, false, Some, None, arith}
use Rattle.std.specs.Prelude.{◌==◌}
use Rattle.std.proofs.lemmas.Bool.{both_ways, cases_eq, cases_lt, eq-eqb, false_from_ne_true, ne_eqb}
use Rattle.std.proofs.Math.Nat.{mul-le-mul_right}
use Rattle.wl_segments.specs.Lengths.{bit_quanta, sample_at}
use Rattle.wl_topology.specs.Driven.{driven}
use Rattle.wl_machine.specs.Frames.{stuffed_end}
use Rattle.wl_phase.specs.Clocks.{steady_tick}
use Rattle.wl_buses.specs.OneFrame.Stations.{AreStations, HaveRoom, ReachesBy, Stations, bit_drift, shared_instant, shared_quantum, with_longer_ways}
use Rattle.wl_buses.specs.OneFrame.Starts.{BeginsAlone, Drives, FollowsSoft, Start, reaches_at}
use Rattle.wl_buses.specs.OneFrame.OneBit.{FollowsOne}
use Rattle.wl_buses.specs.OneFrame.Course.{bus_bit, since_edge, still_sends}
use Rattle.wl_buses.specs.OneFrame.Machines.{HasWon, bus_levels}
use Rattle.wl_buses.specs.OneFrame.Acknowledged.{IsAnsweredByAll, answering, gathered_by}
use Rattle.wl_buses.specs.OneFrame.Expected.{IsOutset, Outset, edge_start, expected_bits, expected_drove, expected_end, expected_sample, most, settled, wants}
use Rattle.wl_buses.specs.FrameEnd.Finds.{FindsTheEnd, IsAnsweredBy, finds_at, ack_slot}
use Rattle.wl_buses.specs.OneListener.Beside.{AreCloseBeside, HearsTheEnd, ListensToTheEnd, with_listener, no_listener, others_answering}
use Rattle.wl_buses.specs.OneListener.Ends.{CanBeHeard, HasRoomToRestBeside, IsUnheard}
use Rattle.wl_buses.proofs.OneFrame.Acks.{another}
use Rattle.wl_buses.proofs.OneFrame.AckWays.{answering_stations, close_if_one_answers}
use Rattle.wl_buses.proofs.OneFrame.Expecting.{course}
use Rattle.wl_buses.proofs.OneFrame.Measures.{drifted, instant_more, tick_next, ticks_before}
use Rattle.wl_buses.proofs.OneFrame.Passing.{same_places, still_allowed}
use Rattle.wl_buses.proofs.OneFrame.Seeing.{driving_at, due_sample, from_low, on_bus, sends_on}
use Rattle.wl_buses.proofs.OneFrame.Settling.{low}
use Rattle.wl_buses.proofs.FrameEnd.Below.{MachineLaws}
use Rattle.wl_buses.proofs.FrameEnd.Delimiter as delimiter
use Rattle.wl_buses.proofs.FrameEnd.Placing as placing
use Rattle.wl_buses.proofs.OneListener.Hearing as hearing

module _ (m : MachineLaws) (s : Stations) (are : AreStations (with_listener s)) (room : HaveRoom (with_listener s)) (mute : s.may_send s.count ≡ false) (o : Outset) (is : IsOutset (with_listener s) o) (end : ℕ)
    (valid : (n : ℕ) → n < end → stuffed_end (bus_levels (with_listener s) (expected_bits (with_listener s) o) n) ≡ None)
    (over : stuffed_end (bus_levels (with_listener s) (expected_bits (with_listener s) o) end) ≡ Some end) (won : HasWon (with_listener s) (expected_bits (with_listener s) o) o.frames end)
    (way : ℕ → ℕ → ℕ) (chase more : ℕ → ℕ) (can : CanBeHeard s won.station way chase more) (unheard : IsUnheard s o end) where
  abbrev l : ℕ
  l = s.count

  abbrev x : Stations
  x = with_listener s

  abbrev winner : ℕ
  winner = won.station

  abbrev bits : ℕ → Start
  bits = expected_bits x o

  abbrev tick : ℕ → ℕ → ℕ
  tick k q = steady_tick (s.clocks k) q

  abbrev dues : ℕ → ℕ → ℕ
  dues n i = (bits n).place i + bit_quanta (s.lengths i)

  abbrev S : ℕ → ℕ → ℕ
  S n i = expected_sample x o n i

  abbrev d : ℕ → Bool
  d = wants x o (suc end)

  abbrev e : Start
  e = edge_start x d (dues end)

  abbrev drove : ℕ → ℕ → Bool
  drove = expected_drove x o (end + 13)

  abbrev was : ℕ → ℕ → Bool
  was = expected_drove x o end

  abbrev gathered : ℕ → ℕ → ℕ
  gathered = gathered_by x way winner chase

  abbrev p : Stations
  p = others_answering s gathered

  abbrev q : Stations
  q = with_longer_ways p more

  abbrev late : ℕ → ℕ → ℕ
  late = q.way

  inside_l : l < x.count
  inside_l = omega arith

  beside_l : (k : ℕ) → k < s.count → k < x.count
  beside_l k there = omega arith

  not_it : (k : ℕ) → k < s.count → no_listener s k ≡ true
  not_it k there = ap not (ne_eqb k s.count (λ f. omega arith))

  -- the listener sends nothing
  sends_none : (n : ℕ) → still_sends x bits n l ≡ true → ⊥
  sends_none n f = (let may = still_allowed x bits is.allowed n l inside_l f in cc)

  winner_other : winner ≢ l
  winner_other f = sends_none end (subst (λ w. still_sends x bits end w ≡ true) f won.sends)

  winner_inside : winner < s.count
  winner_inside = (let inside = won.inside in let other = winner_other in omega (arith, other))

  speaks : (k : ℕ) → k < x.count → x.may_send k ≡ true → no_listener s k ≡ true
  speaks k inside may = ap not (ne_eqb k s.count (λ f. (let same : s.may_send k ≡ s.may_send s.count = ap s.may_send f in cc)))

  -- any two are close, up to the CRC delimiter
  abbrev z : ℕ
  z = delimiter.last m x are room o is end valid over won

  z_is : suc z ≡ end
  z_is = delimiter.last_is m x are room o is end valid over won

  few_z : since_edge x bits z ≤ 8
  few_z = delimiter.few m x are room o is end valid over won

  the_few : (n : ℕ) → n < end → since_edge x bits n ≤ 9
  the_few n less = (course m.steps m.errors m.winner m.stuffed m.six m.ten x are room o is end valid).few n less

  close_at : (n : ℕ) → n < end → AreCloseBeside s gathered (since_edge x bits n) (bits n).place
  close_at n less =
      close_if_one_answers x are room bits was end (λ k. expected_end x o end) (course m.steps m.errors m.winner m.stuffed m.six m.ten x are room o is end valid) m.driven
      winner won.inside won.sends chase can.catch (no_listener s) way can.ways speaks n less

  abbrev since : ℕ
  since = suc (since_edge x bits z)

  few : since ≤ 9
  few = (let f = few_z in omega arith)

  near : AreCloseBeside s gathered since (bits end).place
  near =
      same_places p (no_listener s) since (λ i. (bits z).place i + bit_quanta (s.lengths i)) (bits end).place (λ i inside. delimiter.delimiter_place m x are room o is end valid over won i)
      (λ i k inside there other some. drifted p (since_edge x bits z) i k ((bits z).place i) ((bits z).place k) (close_at z (let f = z_is in omega arith) i k inside there other some))

  -- no slot that begins by itself reaches another station before its sample of the CRC delimiter
  alone_heard : (i k : ℕ) → i < x.count → k < s.count → i ≢ k → settled x d (dues end) k ≡ dues end k → tick i (S end i) < reaches_at x e k i
  alone_heard i k inside there other from =
      let close = near i k inside (beside_l k there) other (inr (not_it k there)) in
      let fits = can.room.not_early i k inside (beside_l k there) other (not_it k there) in
      let drift : suc since * bit_drift s i k ≤ 10 * bit_drift s i k = mul-le-mul_right (bit_drift s i k) (let f = few in let g : suc since ≤ 10 = omega arith in g) in
      let one : suc since * bit_drift s i k ≡ since * bit_drift s i k + bit_drift s i k = omega arith in
      let mine = instant_more x are i k inside (beside_l k there) ((bits end).place i) (sample_at (s.lengths i)) in
      let theirs = instant_more x are k i (beside_l k there) inside ((bits end).place k) (bit_quanta (s.lengths k)) in
      let bit : bit_quanta (s.lengths i) * shared_quantum s i k ≡ sample_at (s.lengths i) * shared_quantum s i k + (s.lengths i).ps2 * shared_quantum s i k = omega arith in
      let f : shared_instant s k i (settled x d (dues end) k) ≡ shared_instant s k i ((bits end).place k + bit_quanta (s.lengths k)) = ap (shared_instant s k i) from in
      ticks_before x are i k inside (beside_l k there) ((bits end).place i + sample_at (s.lengths i)) (settled x d (dues end) k) (s.delay k i) (omega arith)

  up_due : (i : ℕ) → i < x.count → tick i (S end i) ≤ tick i (dues end i)
  up_due i inside = tick_next x are i inside (S end i) (dues end i) (omega arith)

  alone : (i k : ℕ) → i < x.count → k < x.count → i ≢ k → settled x d (dues end) k ≡ dues end k → tick i (S end i) < reaches_at x e k i
  alone i k inside there other from = elim (cases_lt k s.count) [
    | inl heard ↦ alone_heard i k inside heard other from
    | inr past ↦
        (let same : l ≡ k = omega arith in
        let here : i < s.count = omega (arith, other) in
        let far = unheard i i here here in
        let up = up_due i inside in
        subst (λ w. tick i (S end i) < reaches_at x e w i) same (omega arith))
  ]

  -- what the others find of each other
  low_due : (k : ℕ) → e.from k ≤ dues end k
  low_due k = low x are d (dues end) (suc (most x.count (λ w. tick w (dues end w)))) k

  far_edge : (i k : ℕ) → i < s.count → k < s.count → reaches_at x e k i < s.delay l i
  far_edge i k inside there =
      (let far = unheard i k inside there in
      let down = tick_next x are k (beside_l k there) (e.from k) (dues end k) (low_due k) in
      omega arith)

  drives_there : (i k : ℕ) → i < s.count → Drives s e i k → Drives x e i k
  drives_there i k inside h = record { inside = beside_l k h.inside; other = h.other; dominant = h.dominant }

  wanted : (k : ℕ) → k < x.count → d k ≡ not (k == winner)
  wanted = delimiter.slot_wants m x are room o is end valid over won alone

  answers : (k : ℕ) → k < x.count → k ≢ winner → d k ≡ true
  answers k inside other = wanted k inside ∙ ap not (ne_eqb k winner other)

  by_other : (i : ℕ) → i < s.count → (soft : FollowsSoft x e i) → soft.by ≢ l
  by_other i inside soft mine =
      let seen = soft.finds.finds.seen in
      let reach : s.delay l i ≤ reaches_at x e soft.by i = subst (λ w. s.delay l i ≤ reaches_at x e w i) (sym mine) (omega arith) in
      elim (cases_eq i winner) [
        | inl wins ↦
            (let k = another winner in
            let two = can.two in
            let here : k.0 < s.count = (let h = k.1 in omega arith) in
            let apart : k.0 ≢ i = (λ f. k.2 (f ∙ wins)) in
            let first = soft.finds.first k.0 (record { inside = beside_l k.0 here; other = apart; dominant = answers k.0 (beside_l k.0 here) k.2 }) in
            let far = far_edge i k.0 inside here in
            omega arith)
        | inr loses ↦
            (let early = soft.early (answers i (beside_l i inside) loses) in
            let up = tick_next x are i (beside_l i inside) soft.found (dues end i) early in
            let far = unheard i i inside inside in
            omega arith)
      ]

  begin_them : (i : ℕ) → i < s.count → BeginsAlone (answering s late) e i ⊎ FollowsSoft (answering s late) e i
  begin_them i inside = elim (delimiter.begin_slot m x are room o is end valid over won alone i (beside_l i inside)) [
    | inl itself ↦
        inl (record {
          dominant = itself.dominant;
          place = itself.place;
          from = itself.from;
          unfound = λ k h. itself.unfound k (record { inside = beside_l k h.inside; other = h.other; dominant = h.dominant });
        })
    | inr soft ↦
        (let by : soft.by < s.count = (let low = soft.finds.by.inside in let other = by_other i inside soft in omega (arith, low, other)) in
        inr (record {
          by = soft.by;
          found = soft.found;
          finds = record {
            by = record { inside = by; other = soft.finds.by.other; dominant = soft.finds.by.dominant };
            later = soft.finds.later;
            finds = soft.finds.finds;
            first = λ k h. soft.finds.first k (record { inside = beside_l k h.inside; other = h.other; dominant = h.dominant });
          };
          place = soft.place;
          early = soft.early;
          from_low = soft.from_low;
          from_high = soft.from_high;
          not_before = soft.not_before;
        }))
  ]

  next_them : (k : ℕ) → k < s.count → (e.from k ≡ dues end k) ⊎ FollowsOne (answering s late) e k
  next_them k there = elim (delimiter.slot_next m x are room o is end valid over won alone late k (beside_l k there)) [
    | inl from ↦ inl from
    | inr moved ↦ elim (cases_eq moved.0 l) [
      | inl mine ↦
          (let found = moved.2 in
          let reach : s.delay l k ≤ reaches_at x e moved.0 k = subst (λ w. s.delay l k ≤ reaches_at x e w k) (sym mine) (omega arith) in
          let down = tick_next x are k (beside_l k there) (e.from k) (dues end k) (low_due k) in
          let far = unheard k k there there in
          absurd (omega arith))
      | inr other ↦
          inr (moved.0, record { inside = (let low = moved.1.inside in omega (arith, low, other)); other = moved.1.other; dominant = moved.1.dominant }, moved.2)
    ]
  ]

  slot_is : bits (suc end) ≡ e
  slot_is = delimiter.slot_is m x are room o is end valid over won

  abbrev past : ℕ → ℕ
  past = (bits (suc (suc end))).from

  past_is : (k : ℕ) → past k ≡ e.place k + bit_quanta (s.lengths k)
  past_is k = delimiter.over_from m x are room o is end valid over won k ∙ ap (λ b. b.place k + bit_quanta (s.lengths k)) slot_is

  from_is : (k : ℕ) → tick k ((bits (suc end)).from k) ≡ tick k (e.from k)
  from_is k = ap (λ b. tick k (b.from k)) slot_is

  quiet : (k u : ℕ) → k < x.count → tick k ((bits end).place k) ≤ u → u < tick k (e.from k) → drove k u ≡ false
  quiet k u there from less =
      (let same = from_is k in
      delimiter.drove_before m x are room o is end valid over won k u there (omega arith) ∙ delimiter.was_quiet m x are room o is end valid over won k u there from)

  within : (k u : ℕ) → k < x.count → tick k (e.from k) ≤ u → u < tick k (past k) → drove k u ≡ d k
  within k u there from less = (let same = from_is k in delimiter.drove_slot m x are room o is end valid over won alone k u there (omega arith) less)

  rests : (k u : ℕ) → k < x.count → tick k (past k) ≤ u → drove k u ≡ false
  rests k u there from =
      (let up = delimiter.slot_up m x are room o is end valid over won alone k there in delimiter.drove_after m x are room o is end valid over won alone k u there (omega arith) from)

  after_slot : (k : ℕ) → k < x.count → (bits end).place k + sample_at (s.lengths k) < e.from k
  after_slot = delimiter.slot_after m x are room o is end valid over won alone

  module _ (until : ℕ → ℕ) where
    answered : IsAnsweredByAll s late winner (bits end).place e past drove until
    answered = record {
      some = can.two;
      answers = λ k there other. answers k (beside_l k there) other;
      waits = wanted winner (beside_l winner winner_inside) ∙ ap not (eq-eqb winner winner refl);
      due = λ k there. refl;
      after = λ k there. after_slot k (beside_l k there);
      next = λ k there right. next_them k there;
      begin = λ right k there. begin_them k there;
      later = λ k there. (let same = past_is k in let low_ps2 = (are.line.book k (beside_l k there)).lengths.ps2_low in omega arith);
      ends = λ k there right. past_is k;
      quiet = λ k u there from less. quiet k u (beside_l k there) from less;
      drives = λ k u there right from less. within k u (beside_l k there) from less;
      rests = λ k u there right from less. rests k u (beside_l k there) from;
    }

    listens : ListensToTheEnd s (bits end).place e past drove until
    listens = record {
      answers = answers l inside_l (λ f. winner_other (sym f));
      due = refl;
      begin = delimiter.begin_slot m x are room o is end valid over won alone l inside_l;
      ends = past_is l;
      quiet = λ u from less. quiet l u inside_l from less;
      rests = λ u from less. rests l u inside_l from;
    }

    are_p : AreStations p
    are_p = answering_stations x are.line (no_listener s) gathered (record {
      there_and_back = λ i k inside there pair may. (let h = can.ways.there_and_back i k inside there pair may in omega arith);
      over = λ i k a inside there third pair apart other may. (let h = can.ways.over i k a inside there third pair apart other may in omega arith);
      straight = λ i k inside there pair may. (let h = can.ways.straight i k inside there pair may in omega arith);
    })

    heard : HearsTheEnd s late (bits end).place e past drove until
    heard = hearing.hears_it s gathered more are_p can.fits can.room can.listens winner (bits end).place e past drove until answered listens since few near m.driven

  abbrev no_until : ℕ → ℕ
  no_until = λ w. 0

  abbrev point : ℕ
  point = sample_at (s.lengths l)

  reaches_same : (k i : ℕ) → reaches_at x (ack_slot x o end) k i ≡ reaches_at x e k i
  reaches_same k i = ap (λ b. reaches_at x b k i) slot_is

  S_slot : S (suc end) l ≡ e.place l + point
  S_slot = ap (λ b. b.place l + point) slot_is

  other_inside : (k : ℕ) → Drives x (ack_slot x o end) l k → k < s.count
  other_inside k h = (let low = h.inside in let other = h.other in omega (arith, low, other))

  -- what one of the others begins up to eleven bits' drift later than its way, and what the listener begins
  there : (n k a c : ℕ) → k < s.count → n ≤ 11 → ReachesBy q n k l a c → tick k a + s.delay k l ≤ tick l (c + point)
  there = hearing.there s gathered more (are_p no_until) can.fits can.room can.listens winner (bits end).place e past drove no_until (answered no_until) (listens no_until) since few near m.driven

  own_there : (a : ℕ) → tick l a + s.delay l l ≤ tick l (a + point)
  own_there = hearing.own_there s gathered more (are_p no_until) can.fits can.room can.listens winner (bits end).place e past drove no_until (answered no_until) (listens no_until) since few near m.driven

  delimiter_there : (k : ℕ) → k < s.count → tick k ((bits end).place k) + s.delay k l ≤ tick l (S end l)
  delimiter_there =
      hearing.delimiter_there s gathered more (are_p no_until) can.fits can.room can.listens winner (bits end).place e past drove no_until (answered no_until) (listens no_until) since few near m.driven

  over_later : (k : ℕ) → k < s.count → tick l (e.place l + point) < tick k (past k) + s.delay k l
  over_later =
      hearing.over_later s gathered more (are_p no_until) can.fits can.room can.listens winner (bits end).place e past drove no_until (answered no_until) (listens no_until) since few near m.driven

  due_there : (n k : ℕ) → n < end → k < s.count → tick k (dues n k) + s.delay k l ≤ tick l (dues n l + point)
  due_there n k less inside =
      there (suc (since_edge x bits n)) k (dues n k) (dues n l) inside (let f = the_few n less in omega arith)
      (let close = drifted p (since_edge x bits n) k l ((bits n).place k) ((bits n).place l) (close_at n less k l (beside_l k inside) inside_l (λ f. omega arith) (inl (not_it k inside))) in omega arith)

  in_time : (k : ℕ) → k < s.count → tick k (dues end k) + s.delay k l ≤ tick l (dues end l + point)
  in_time k inside =
      there (suc since) k (dues end k) (dues end l) inside (let f = few in omega arith)
      (let close = drifted p since k l ((bits end).place k) ((bits end).place l) (near k l (beside_l k inside) inside_l (λ f. omega arith) (inl (not_it k inside))) in omega arith)

  later : (k : ℕ) → k < s.count → tick l (S end l) < reaches_at x e k l
  later k inside = (heard no_until).not_early k inside

  -- up to its sample of the CRC delimiter the listener finds what the stuffed part drives
  slot_later : (k : ℕ) → k < x.count → tick l (S end l) < tick k (e.from k) + s.delay k l
  slot_later k inside = elim (cases_lt k s.count) [
    | inl other ↦ later k other
    | inr past_it ↦
        (let same : l ≡ k = omega arith in
        let after = after_slot l inside_l in
        let up = tick_next x are l inside_l (S end l) (e.from l) (omega arith) in
        let loop = are.line.later l l inside_l inside_l in
        subst (λ w. tick l (S end l) < tick w (e.from w) + s.delay w l) same (omega arith))
  ]

  found_was : (n : ℕ) → n ≤ S end l → finds_at x o end l n ≡ driven x.count s.delay was l (tick l n)
  found_was n by_end =
      m.driven.same x.count s.delay drove was l (tick l n)
      (λ k inside come. (let after = slot_later k inside in
      let up = tick_next x are l inside_l n (S end l) by_end in
      let same = from_is k in
      delimiter.drove_before m x are room o is end valid over won k (tick l n - s.delay k l) inside (omega arith)))

  gone : (a n w : ℕ) → a < n → n < end → w < s.count → bus_bit x bits n ≡ false → tick w ((bits (suc a)).from w) + s.delay w l ≤ tick l (S n l)
  gone a n w less inside_n inside f =
      let down = tick_next x are w (beside_l w inside) ((bits (suc a)).from w) (dues a w) (from_low m.steps m.errors m.winner m.stuffed m.six m.ten m.driven x are room o is end valid a w) in
      let come = due_there a w (omega arith) inside in
      let sample = tick_next x are l inside_l (dues a l + point) (S n l) (due_sample m.steps m.errors m.winner m.stuffed m.six m.ten m.driven x are room o is end valid a n l inside_l less f) in
      omega arith

  before : (n t : ℕ) → suc n ≡ end → bus_bit x bits n ≡ false → S n l < t → t ≤ S end l → finds_at x o end l t ≡ false
  before n t last recessive after by_end =
      found_was t by_end
      ∙ false_from_ne_true (driven x.count s.delay was l (tick l t)) (λ f. (let y = driving_at m.steps m.errors m.winner m.stuffed m.six m.ten m.driven x are room o is end valid l (tick l t) f in
      let high = y.high_bit in
      let less = y.inside_bits in
      let come = y.come in
      let heard_by : y.by ≢ l = (λ g. sends_none (suc y.bit) (subst (λ w. still_sends x bits (suc y.bit) w ≡ true) g (sends_on m.steps m.errors m.winner m.stuffed m.six m.ten m.driven x are room o is end valid y.bit y.by less y.there y.dominant))) in
      let by : y.by < s.count = (let low = y.there in omega (arith, low, heard_by)) in
      elim (cases_lt y.bit n) [
        | inl sooner ↦
            (let g = gone y.bit n y.by sooner (omega arith) by recessive in
            let up = tick_next x are l inside_l (S n l) t (omega arith) in
            absurd (omega arith))
        | inr here ↦
            (let g : n ≡ y.bit = omega arith in
            let z = on_bus m.steps m.errors m.winner m.stuffed m.six m.ten m.driven x are room o is end valid n y.by y.there (ap (λ k. wants x o k y.by) g ∙ y.dominant) in
            cc)
      ]))

  -- after that sample it finds acknowledgements
  first_there : (k : ℕ) → k < x.count → tick k ((bits end).place k) + s.delay k l ≤ tick l (S end l)
  first_there k inside = elim (cases_lt k s.count) [
    | inl other ↦ delimiter_there k other
    | inr past_it ↦ (let same : l ≡ k = omega arith in subst (λ w. tick w ((bits end).place w) + s.delay w l ≤ tick l (S end l)) same (own_there ((bits end).place l)))
  ]

  answered_by : (t k : ℕ) → S end l < t → k < x.count → s.delay k l ≤ tick l t → drove k (tick l t - s.delay k l) ≡ true → IsAnsweredBy x o end l t
  answered_by t k after inside come dominant = elim (cases_lt (tick l t - s.delay k l) (tick k (e.from k))) [
    | inl sooner ↦
        (let first = first_there k inside in
        let up = tick_next x are l inside_l (S end l) t (omega arith) in
        absurd (both_ways (drove k (tick l t - s.delay k l)) (quiet k (tick l t - s.delay k l) inside (omega arith) sooner) dominant))
    | inr from ↦ elim (cases_lt (tick l t - s.delay k l) (tick k (past k))) [
      | inl inner ↦
          (let same = reaches_same k l in
          record {
            by = k;
            there = inside;
            dominant = ap (λ b. b.drives k) slot_is ∙ sym (within k (tick l t - s.delay k l) inside from inner) ∙ dominant;
            reaches = omega arith;
          })
      | inr gone_by ↦ absurd (both_ways (drove k (tick l t - s.delay k l)) (rests k (tick l t - s.delay k l) inside gone_by) dominant)
    ]
  ]

  answered_at : (t : ℕ) → S end l < t → finds_at x o end l t ≡ true → IsAnsweredBy x o end l t
  answered_at t after f = (let w = m.driven.dominant_by x.count s.delay drove l (tick l t) f in answered_by t w.0 after w.1 w.2 w.3)

  lasts : (k t : ℕ) → Drives x (ack_slot x o end) l k → reaches_at x (ack_slot x o end) k l ≤ tick l t → t ≤ S (suc end) l → finds_at x o end l t ≡ true
  lasts k t drives reach by_next =
      let by = other_inside k drives in
      let same = reaches_same k l in
      let at = S_slot in
      let last = over_later k by in
      let up = tick_next x are l inside_l t (e.place l + point) (omega arith) in
      m.driven.dominant_from x.count s.delay drove k l (tick l t) drives.inside (omega arith)
      (within k (tick l t - s.delay k l) drives.inside (omega arith) (omega arith) ∙ ap (λ b. b.drives k) (sym slot_is) ∙ drives.dominant)

  past_place : (bits (suc (suc end))).place l ≡ past l
  past_place =
      ap (λ b. b.place l) (delimiter.over_is m x are room o is end valid over won) ∙ sym (ap (λ b. b.from l) (delimiter.over_is m x are room o is end valid over won))

  silent : (t : ℕ) → S (suc (suc end)) l ≤ t → finds_at x o end l t ≡ false
  silent t from =
      let at = past_place in
      let up = tick_next x are l inside_l (past l + point) t (omega arith) in
      (heard (λ w. suc (tick l t))).silent (tick l t) up (λ k inside. omega arith)

  pub other_wins : winner ≢ l
  other_wins = winner_other

  pub finds_the_end : FindsTheEnd x o end l
  finds_the_end = record {
    begin = subst (λ b. BeginsAlone x b l ⊎ FollowsSoft x b l) (sym slot_is) (delimiter.begin_slot m x are room o is end valid over won alone l inside_l);
    later = λ k drives. (let after = later k (other_inside k drives) in let same = reaches_same k l in omega arith);
    in_time = λ k drives. in_time k (other_inside k drives);
    before = before;
    delimiter = (heard no_until).before;
    answered = answered_at;
    lasts = lasts;
    slot = ap (finds_at x o end l) S_slot ∙ (heard no_until).dominant;
    silent = silent;
  }

  -- and the next start of frame finds it at rest
  last_place : (i : ℕ) → (bits (end + 12)).place i ≡ e.place i + 11 * bit_quanta (s.lengths i)
  last_place i = placing.last_place m x are room o is end valid over won i ∙ ap (λ b. b.place i + 11 * bit_quanta (s.lengths i)) slot_is

  pub at_rest : HasRoomToRestBeside s late → (k : ℕ) → k < s.count → tick l (S (end + 12) l) < tick k ((bits (end + 12)).place k + bit_quanta (s.lengths k)) + s.delay k l
  at_rest rest k inside =
      let close = (heard no_until).close 11 k inside in
      let fits = rest k inside in
      let mine = instant_more x are l k inside_l (beside_l k inside) ((bits (end + 12)).place l) point in
      let theirs = instant_more x are k l (beside_l k inside) inside_l ((bits (end + 12)).place k) (bit_quanta (s.lengths k)) in
      let bit : bit_quanta (s.lengths l) * shared_quantum s l k ≡ point * shared_quantum s l k + (s.lengths l).ps2 * shared_quantum s l k = omega arith in
      let first : shared_instant s l k ((bits (end + 12)).place l) ≡ shared_instant s l k (e.place l + 11 * bit_quanta (s.lengths l)) = ap (shared_instant s l k) (last_place l) in
      let second : shared_instant s k l ((bits (end + 12)).place k) ≡ shared_instant s k l (e.place k + 11 * bit_quanta (s.lengths k)) = ap (shared_instant s k l) (last_place k) in
      ticks_before x are l k inside_l (beside_l k inside) ((bits (end + 12)).place l + point) ((bits (end + 12)).place k + bit_quanta (s.lengths k)) (s.delay k l) (omega arith)
