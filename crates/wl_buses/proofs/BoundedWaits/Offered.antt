-- What stations have to send before each frame of a line, by their queues, and when each decides to.
use Rattle.std.proofs.Common.{◌≡◌, ◌≢◌, ◌∙◌, ◌⊎◌, inl, inr, refl, sym, ap, subst, ℕ, zero, suc, ◌+◌, ◌-◌, ◌*◌, ◌<◌, ◌≤◌, ◌&&◌, not, Bool, true, false, List, length, Some, arith}
use Rattle.std.specs.Prelude.{◌==◌, nat_lt}
use Rattle.std.specs.Int.{div_ceil}
use Rattle.std.proofs.lemmas.Bool.{and_from, and_parts, both_ways, cases_Bool, cases_eq, cases_lt, eq-eqb, eqb-true, le-ltb, lt-ltb}
use Rattle.std.proofs.lemmas.Grind.{div_ceil_times}
use Rattle.std.proofs.lemmas.List.{nil_from_length}
use Rattle.wl_segments.specs.Lengths.{Lengths, bit_quanta, sample_at}
use Rattle.wl_topology.specs.Driven.{any_below}
use Rattle.wl_topology.proofs.Callers.{any_from, any_one}
use Rattle.wl_frame.specs.Grammar.{Content}
use Rattle.wl_node.specs.declared.setup.NodeSetup.{NodeSetup}
use Rattle.wl_node.specs.declared.setup.Queued.{Queued}
use Rattle.wl_wire.specs.Winner.{Beats}
use Rattle.wl_buses.specs.BothProofs.Queues.{decides_at, head_at, queued_contents, ready_at, wakes_at}
use Rattle.wl_buses.proofs.BothProofs.Heads.{same_length, some_then, unsent_first}
use Rattle.wl_buses.proofs.FirstFrame.Deciding as waiting
use Rattle.wl_buses.proofs.FirstFrame.Deciding.{whole_begins}
use Rattle.wl_buses.specs.OneFrame.Expected.{expected_bits}
use Rattle.wl_buses.specs.OneFrame.Starts.{Start}
use Rattle.wl_buses.specs.OneFrame.Stations.{AreOnALine, AreStations, HaveRoom, Stations}
use Rattle.wl_buses.specs.FirstFrame.FirstStarts.{AreIdle, HandTheFirst, Waiting, decision_quantum, first_outset, first_start, has_first}
use Rattle.wl_buses.specs.NextFrames.Frames.{Frame, IsBegun, IsBegunAfter, resting_of}
use Rattle.wl_buses.specs.NextFrames.NextStarts.{AreResting, Resting, begins_next, decision_next, has_next, start_next}
use Rattle.wl_buses.specs.NextFrames.Queues.{DecidesByQueue, decides_after}
use Rattle.wl_buses.proofs.NextFrames.Queueing.{has_none, has_some}
use Rattle.wl_buses.specs.SentFrames.Sending.{unsent_with}
use Rattle.wl_buses.specs.CleanLines.Lines.{FramesOfLine, HaveSegments, decision_of, waiting_with}
use Rattle.wl_buses.specs.TakesPart.Takes.{BeganWith, Offers, TakePart, first_offers, next_offers}
use Rattle.wl_buses.specs.BoundedWaits.Messages.{AreReadyLate}

-- the bit of a decision
ceil_high : (x b : ℕ) → 0 < b → div_ceil x b * b < x + b
ceil_high x b some = (div_ceil_times x b some).1

ceil_none : (b : ℕ) → 0 < b → div_ceil 0 b ≡ 0
ceil_none b some = elim (cases_eq (div_ceil 0 b) 0) [
  | inl none ↦ none
  | inr more ↦
      (let h = ceil_high 0 b some in
      let e : div_ceil 0 b ≡ suc (div_ceil 0 b - 1) = omega (arith, more) in
      let m : div_ceil 0 b * b ≡ suc (div_ceil 0 b - 1) * b = ap (λ n. n * b) e in
      let n : suc (div_ceil 0 b - 1) * b ≡ b + (div_ceil 0 b - 1) * b = omega arith in
      absurd (omega arith))
]

soon_after : (l : Lengths) (place ready : ℕ) → 0 < bit_quanta l → decides_after l place ready ≢ 0 → place + decides_after l place ready * bit_quanta l + sample_at l < ready + bit_quanta l
soon_after l place ready some later = elim (cases_eq (ready - (place + sample_at l)) 0) [
  | inl none ↦ absurd (later (ap (λ x. div_ceil x (bit_quanta l)) none ∙ ceil_none (bit_quanta l) some))
  | inr more ↦ (let h = ceil_high (ready - (place + sample_at l)) (bit_quanta l) some in omega (arith, more))
]

soon_at : (l : Lengths) (ready : ℕ) → 0 < bit_quanta l → 10 * bit_quanta l + sample_at l ≤ ready → decides_at l ready * bit_quanta l + sample_at l < ready + bit_quanta l
soon_at l ready some late = elim (cases_lt (div_ceil (ready - sample_at l) (bit_quanta l)) 10) [
  | inl few ↦
      (let e : decides_at l ready ≡ 10 = omega arith in
      let f : decides_at l ready * bit_quanta l ≡ 10 * bit_quanta l = ap (λ n. n * bit_quanta l) e in
      omega arith)
  | inr more ↦
      (let e : decides_at l ready ≡ div_ceil (ready - sample_at l) (bit_quanta l) = omega arith in
      let f : decides_at l ready * bit_quanta l ≡ div_ceil (ready - sample_at l) (bit_quanta l) * bit_quanta l = ap (λ n. n * bit_quanta l) e in
      let h = ceil_high (ready - sample_at l) (bit_quanta l) some in
      omega arith)
]

-- the laws on what stations begin
abbrev pub Readies : Type 0
Readies = (r : Resting) → AreOnALine r.stations → AreResting r → (i : ℕ) → i < r.stations.count → has_next r i ≡ true → r.decides i ≡ 0 → begins_next r i ≡ true

abbrev pub Parts : Type 0
Parts = (r : Resting) → AreOnALine r.stations → AreResting r → TakePart r.stations (next_offers r) (start_next r)

abbrev pub FirstParts : Type 0
FirstParts = (w : Waiting) → AreOnALine w.stations → AreIdle w → TakePart w.stations (first_offers w) (first_start w)

pub record BeganLaws : Type 0 where
  pub first : (w : Waiting) (f : Frame) → AreStations w.stations → HaveRoom w.stations → AreIdle w → (is : IsBegun w.stations f) → f.outset ≡ first_outset w → (k : ℕ) → k < w.stations.count → k ≢ is.won.station
      → f.outset.start.drives k ≡ true → BeganWith w.frames w.which k is.won.frame
  pub next : (s : Stations) (a b : Frame) → AreStations s → HaveRoom s → IsBegun s a → (is : IsBegun s b) → (after : IsBegunAfter s a b) → (k : ℕ) → k < s.count → k ≢ is.won.station
      → b.outset.start.drives k ≡ true → BeganWith a.outset.frames after.which k is.won.frame

-- what the stations of a line have for each frame
module _ (setups : ℕ → NodeSetup) (s : Stations) (bus : FramesOfLine setups (waiting_with setups s)) where
  -- what a queue has left before frame n
  abbrev pub left : ℕ → ℕ → List Queued
  left i n = unsent_with s setups bus.frames bus.by.winner bus.by.content i n

  abbrev pub has_entry : ℕ → ℕ → Bool
  has_entry i n = nat_lt 0 (length (left i n))

  abbrev pub wakes : ℕ → ℕ → ℕ
  wakes i n = wakes_at (setups i) (left i n)

  -- the bit with whose sample a station decides to send after frame n
  abbrev pub decides_then : ℕ → ℕ → ℕ
  decides_then i n = decides_after (s.lengths i) ((expected_bits s (bus.frames n).outset ((bus.frames n).bits + 12)).place i) (wakes i (suc n))

  abbrev pub is_prompt : ℕ → ℕ → Bool
  is_prompt n i = has_entry i (suc n) && (decides_then i n == 0)

  -- None has a frame ready at its third bit of the intermission.
  abbrev pub gap_before : ℕ → Bool
  gap_before zero = true
  gap_before (suc n) = not (any_below s.count (is_prompt n))

  abbrev pub start_of : ℕ → Start
  start_of n = (bus.frames n).outset.start

  -- A station has begun frame n with the head of its queue at its decision: it has won with that, or the winner's frame beats it.
  pub record HasHead (n i decision : ℕ) : Type 0 where
    pub frame : Content
    pub is : head_at (setups i) (left i n) decision ≡ Some frame
    pub role : ((i ≡ bus.by.winner n) × (frame ≡ bus.by.content n)) ⊎ Beats (bus.by.content n) frame

  pub record IsOffered (n : ℕ) : Type 0 where
    pub offers : Offers
    pub part : TakePart s offers (start_of n)
    pub has : (i : ℕ) → i < s.count → offers.has i ≡ has_entry i n
    pub due : (i : ℕ) → i < s.count → offers.due i ≡ offers.decision i + (s.lengths i).ps2
    pub soon : (i : ℕ) → i < s.count → 0 < length (left i n) → ((start_of n).drives i ≡ false) ⊎ (gap_before n ≡ true) → offers.decision i < wakes i n + bit_quanta (s.lengths i)
    pub own : head_at (setups (bus.by.winner n)) (left (bus.by.winner n) n) (offers.decision (bus.by.winner n)) ≡ Some (bus.by.content n)
    pub head : (i : ℕ) → i < s.count → (start_of n).drives i ≡ true → HasHead n i (offers.decision i)

  module _ (of : HaveSegments setups s) (are : AreStations s) (room : HaveRoom s) (began : BeganLaws)
      (handed : (n : ℕ) (less : n < bus.count) → head_at (setups (bus.by.winner n)) (left (bus.by.winner n) n) (decision_of setups (waiting_with setups s) bus n less) ≡ Some (bus.by.content n)) where
    long : (i : ℕ) → i < s.count → 0 < bit_quanta (s.lengths i)
    long i inside = omega arith

    won_is : (n : ℕ) (less : n < bus.count) → (bus.are.each n less).won.station ≡ bus.by.winner n
    won_is n less = bus.by.wins n less

    -- the head of the winner, and that of a loser
    head_by_role : (n : ℕ) (less : n < bus.count) (i decision : ℕ) → (i ≡ bus.by.winner n → decision ≡ decision_of setups (waiting_with setups s) bus n less)
        → (i ≢ (bus.are.each n less).won.station → (g : Content) × (head_at (setups i) (left i n) decision ≡ Some g) × Beats (bus.are.each n less).won.frame g) → HasHead n i decision
    head_by_role n less i decision own lost = elim (cases_eq i (bus.by.winner n)) [
      | inl same ↦
          record {
            frame = bus.by.content n;
            is = ap (head_at (setups i) (left i n)) (own same) ∙ subst (λ k. head_at (setups k) (left k n) (decision_of setups (waiting_with setups s) bus n less) ≡ Some (bus.by.content n)) (sym same) (handed n less);
            role = inl (same, refl);
          }
      | inr apart ↦
          (let g = lost (λ e. apart (e ∙ won_is n less)) in
          record { frame = g.0; is = g.1; role = inr (subst (λ c. Beats c g.0) (bus.by.wins_with n less) g.2) })
    ]

    -- the first frame
    module _ (some : 0 < bus.count) (hands : HandTheFirst (waiting_with setups s) setups) (first : FirstParts) (idle : AreIdle (waiting_with setups s)) (late : AreReadyLate s setups) where
      has_is_first : (i : ℕ) → i < s.count → has_first (waiting_with setups s) i ≡ has_entry i 0
      has_is_first i inside =
          waiting.has_is setups (λ i. queued_contents (setups i).queue) s of (λ i inside. (let e = ap bit_quanta (of i inside) in let some = long i inside in omega arith)) (λ i. whole_begins (setups i)) i inside
          ∙ ap (λ u. nat_lt 0 (length u)) (sym (unsent_first (setups i)))

      ready_first : (i : ℕ) → wakes i 0 ≡ ready_at (setups i).queue 0
      ready_first i = ap (wakes_at (setups i)) (unsent_first (setups i))

      decides_first : (i : ℕ) → i < s.count → decides_at (setups i).segments (ready_at (setups i).queue 0) ≡ decides_at (s.lengths i) (ready_at (setups i).queue 0)
      decides_first i inside = ap (λ l. decides_at l (ready_at (setups i).queue 0)) (sym (of i inside))

      first_lost : (i : ℕ) → i < s.count → (start_of 0).drives i ≡ true → i ≢ (bus.are.each 0 some).won.station
          → (g : Content) × (head_at (setups i) (left i 0) (decision_quantum (waiting_with setups s) i) ≡ Some g) × Beats (bus.are.each 0 some).won.frame g
      first_lost i inside drives apart =
          let b = began.first (waiting_with setups s) (bus.frames 0) are room idle (bus.are.each 0 some) bus.first i inside apart drives in
          let there = some_then ((waiting_with setups s).frames i) ((waiting_with setups s).which i) b.frame b.is in
          (b.frame, ap (λ u. head_at (setups i) u (decision_quantum (waiting_with setups s) i)) (unsent_first (setups i)) ∙ hands.ready i inside (lt-ltb _ _ there) ∙ b.is, b.beaten)

      pub offered_first : IsOffered 0
      offered_first = record {
        offers = first_offers (waiting_with setups s);
        part = subst (λ o. TakePart s (first_offers (waiting_with setups s)) o.start) (sym bus.first) (first (waiting_with setups s) are.line idle);
        has = has_is_first;
        due = λ i inside. omega arith;
        soon = λ i inside some either.
            (let wake = ready_first i in
            let same = ap length (unsent_first (setups i)) in
            let all = same_length (setups i).queue in
            let h = soon_at (s.lengths i) (ready_at (setups i).queue 0) (long i inside) (late i inside (omega arith)) in
            let e : decides_at (setups i).segments (ready_at (setups i).queue 0) * bit_quanta (s.lengths i) ≡ decides_at (s.lengths i) (ready_at (setups i).queue 0) * bit_quanta (s.lengths i) =
            ap (λ d. d * bit_quanta (s.lengths i)) (decides_first i inside) in
            omega arith);
        own = handed 0 some;
        head = λ i inside drives. head_by_role 0 some i (decision_quantum (waiting_with setups s) i) (λ e. ap (decision_quantum (waiting_with setups s)) e) (first_lost i inside drives);
      }

    -- each later one
    module _ (readies : Readies) (parts : Parts) (n : ℕ) (less : suc n < bus.count)
        (rests : AreResting (resting_of s (bus.frames n) (bus.frames (suc n)) (bus.are.next n less))) where
      abbrev pub r : Resting
      r = resting_of s (bus.frames n) (bus.frames (suc n)) (bus.are.next n less)

      pub start_is : start_of (suc n) ≡ start_next r
      start_is = ap (λ o. o.start) (bus.are.next n less).is

      by : (i : ℕ) → i < s.count → DecidesByQueue r i (setups i) (left i (suc n))
      by i inside = bus.by.queues i n less inside

      pub has_is : (i : ℕ) → i < s.count → has_next r i ≡ has_entry i (suc n)
      has_is i inside = elim (cases_lt 0 (length (left i (suc n)))) [
        | inl some ↦ has_some r i (setups i) (left i (suc n)) (by i inside) (long i inside) some ∙ sym (lt-ltb 0 (length (left i (suc n))) some)
        | inr none ↦ has_none r i (setups i) (left i (suc n)) (by i inside) (long i inside) (nil_from_length (left i (suc n)) (let e : length (left i (suc n)) ≡ 0 = omega arith in e)) ∙ sym (le-ltb 0 (length (left i (suc n))) none)
      ]

      pub decides_is : (i : ℕ) → i < s.count → r.decides i ≡ decides_then i n
      decides_is i inside = (by i inside).decides

      pub bits_are : (i : ℕ) → i < s.count → r.decides i * bit_quanta (s.lengths i) ≡ decides_then i n * bit_quanta (s.lengths i)
      bits_are i inside = ap (λ d. d * bit_quanta (s.lengths i)) (decides_is i inside)

      not_prompt : (i : ℕ) → i < s.count → 0 < length (left i (suc n)) → ((start_of (suc n)).drives i ≡ false) ⊎ (gap_before (suc n) ≡ true) → decides_then i n ≢ 0
      not_prompt i inside some (inl none) e =
          (let yes = readies r are.line rests i inside (has_is i inside ∙ lt-ltb 0 (length (left i (suc n))) some) (decides_is i inside ∙ e) in
          let drives : (start_of (suc n)).drives i ≡ true = ap (λ b. b.drives i) start_is ∙ yes in
          both_ways ((start_of (suc n)).drives i) none drives)
      not_prompt i inside some (inr gap) e =
          (let prompt : is_prompt n i ≡ true = and_from (has_entry i (suc n)) (decides_then i n == 0) (lt-ltb 0 (length (left i (suc n))) some) (eq-eqb (decides_then i n) 0 e) in
          let any = any_from s.count i (is_prompt n) inside prompt in
          let none : gap_before (suc n) ≡ false = ap not any in
          both_ways (gap_before (suc n)) none gap)

      next_lost : (i : ℕ) → i < s.count → (start_of (suc n)).drives i ≡ true → i ≢ (bus.are.each (suc n) less).won.station
          → (g : Content) × (head_at (setups i) (left i (suc n)) (decision_next r i) ≡ Some g) × Beats (bus.are.each (suc n) less).won.frame g
      next_lost i inside drives apart =
          let b = began.next s (bus.frames n) (bus.frames (suc n)) are room (bus.are.each n (omega arith)) (bus.are.each (suc n) less) (bus.are.next n less) i inside apart drives in
          (b.frame, sym (by i inside).which ∙ b.is, b.beaten)

      pub offered_next : IsOffered (suc n)
      offered_next = record {
        offers = next_offers r;
        part = subst (λ b. TakePart s (next_offers r) b) (sym start_is) (parts r are.line rests);
        has = has_is;
        due = λ i inside. omega arith;
        soon = λ i inside some either.
            (let h = soon_after (s.lengths i) (r.place i) (wakes i (suc n)) (long i inside) (not_prompt i inside some either) in
            let e = bits_are i inside in
            omega arith);
        own = handed (suc n) less;
        head = λ i inside drives. head_by_role (suc n) less i (decision_next r i) (λ e. ap (decision_next r) e) (next_lost i inside drives);
      }

      -- who is prompt begins by the bit after the third one of the intermission
      pub prompt_place : (i : ℕ) → i < s.count → 0 < length (left i (suc n)) → r.decides i ≡ 0 → (start_of (suc n)).place i ≤ r.place i + bit_quanta (s.lengths i)
      prompt_place i inside some now =
          let low = (parts r are.line rests).by_due i inside (has_is i inside ∙ lt-ltb 0 (length (left i (suc n))) some) in
          let place : (start_of (suc n)).place i ≡ (start_next r).place i = ap (λ b. b.place i) start_is in
          let due : r.place i + suc (r.decides i) * bit_quanta (s.lengths i) ≡ r.place i + 1 * bit_quanta (s.lengths i) = ap (λ c. r.place i + suc c * bit_quanta (s.lengths i)) now in
          omega arith

      -- without a gap some station is prompt
      pub one_prompt : gap_before (suc n) ≡ false → (k : ℕ) × (k < s.count) × (has_next r k ≡ true) × (r.decides k ≡ 0)
      one_prompt none =
          let any : any_below s.count (is_prompt n) ≡ true = elim (cases_Bool (any_below s.count (is_prompt n))) [
            | inl found ↦ found
            | inr free ↦ absurd (both_ways (gap_before (suc n)) none (ap not free))
          ] in
          let k = any_one s.count (is_prompt n) any in
          let p = and_parts (has_entry k.0 (suc n)) (decides_then k.0 n == 0) k.2 in
          (k.0, k.1, has_is k.0 k.1 ∙ p.0, decides_is k.0 k.1 ∙ eqb-true (decides_then k.0 n) 0 p.1)
