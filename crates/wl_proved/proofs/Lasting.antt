-- By which tick the frames of a plan have gone.
use Rattle.std.proofs.Common.{◌≡◌, ◌∙◌, ◌⊎◌, refl, sym, ap, subst, inl, inr, ℕ, zero, suc, ◌+◌, ◌-◌, ◌*◌, ◌<◌, ◌≤◌, max, List, [], ◌∷◌, get_or, length, drop, true, Some, arith}
use Rattle.std.specs.Int.{div_ceil}
use Rattle.std.proofs.lemmas.Bool.{cases_eq, cases_lt, ltb-true}
use Rattle.std.proofs.lemmas.Grind.{div_ceil_times}
use Rattle.std.proofs.lemmas.List.Elements.{All-get_or}
use Rattle.std.proofs.Math.Nat.{mul-le-mul_right, mul_assoc}
use Rattle.wl_clock.specs.Timing.{tick_of}
use Rattle.wl_segments.specs.Lengths.{AreLengths, Lengths, bit_quanta, sample_at}
use Rattle.wl_node.specs.declared.setup.Queued.{Queued}
use Rattle.wl_plan.specs.declared.plan.Plan.{Plan}
use Rattle.wl_plan.specs.PlanLine.{line_of, no_setup, setup_at}
use Rattle.wl_plan.specs.Sound.{IsCausal}
use Rattle.wl_phase.specs.Clocks.{steady_tick}
use Rattle.wl_phase.proofs.Callers.{rate_tick}
use Rattle.wl_bound.specs.Verdicts.{has_frames}
use Rattle.wl_buses.specs.BothProofs.Queues.{decides_at}
use Rattle.wl_buses.specs.BothProofs.Queues.{first_ready}
use Rattle.wl_buses.specs.OneFrame.Expected.{Outset, expected_sample}
use Rattle.wl_buses.specs.OneFrame.Plans.{IsPlanOf}
use Rattle.wl_buses.specs.OneFrame.Stations.{Stations}
use Rattle.wl_buses.specs.FirstFrame.FirstFrames.{HasFirstFrames, queues_of, waiting_of}
use Rattle.wl_buses.specs.FirstFrame.FirstStarts.{Waiting, due_first, edge_first, eleventh, hard_place, has_first, looks_first}
use Rattle.wl_buses.specs.NextFrames.Frames.{resting_of, third_sample}
use Rattle.wl_buses.specs.NextFrames.NextStarts.{Resting, due_next, edge_next, has_next, looks_next}
use Rattle.wl_buses.specs.NextFrames.Queues.{decides_after}
use Rattle.wl_buses.specs.CleanPlans.Clean.{AllGetThrough}
use Rattle.wl_buses.specs.SentFrames.Sending.{unsent_with}
use Rattle.wl_buses.specs.SentFrames.Winners.{passed_with}
use Rattle.wl_buses.proofs.Callers.{has_is, has_none, wakes_one}
use Rattle.wl_proved.specs.LateEnds.{EndsLate}
use Rattle.wl_proved.proofs.Queues.{no_frame}
use Rattle.wl_proved.proofs.Starting.{begins_by, place_high}

-- the frame with which a queue goes on
ready_at : (queue : List Queued) (n : ℕ) → n < length queue → first_ready (drop n queue) ≡ (get_or queue n no_frame).ready
ready_at [] n h = absurd (omega arith)
ready_at (q ∷ more) zero h = refl
ready_at (q ∷ more) (suc n) h = ready_at more n (omega arith)

-- when a node's next frame is due: two bits later than that is ready and it rests, at the latest
due_soon : (l : Lengths) (place ready : ℕ) → 0 < bit_quanta l
    → (place + suc (decides_after l place ready) * bit_quanta l ≤ place + 2 * bit_quanta l) ⊎ (place + suc (decides_after l place ready) * bit_quanta l ≤ ready + 2 * bit_quanta l)
due_soon l place ready some =
    let far = (div_ceil_times (ready - (place + sample_at l)) (bit_quanta l) some).1 in
    elim (cases_lt ready (place + sample_at l)) [
      | inl early ↦ inl (omega arith)
      | inr later ↦ inr (omega arith)
    ]

first_due_soon : (l : Lengths) (ready : ℕ) → 0 < bit_quanta l
    → (suc (decides_at l ready) * bit_quanta l ≤ 11 * bit_quanta l) ⊎ (suc (decides_at l ready) * bit_quanta l ≤ ready + 2 * bit_quanta l)
first_due_soon l ready some =
    let far = (div_ceil_times (ready - sample_at l) (bit_quanta l) some).1 in
    elim (cases_lt 10 (div_ceil (ready - sample_at l) (bit_quanta l))) [
      | inl more ↦
          (let is : max 10 (div_ceil (ready - sample_at l) (bit_quanta l)) ≡ div_ceil (ready - sample_at l) (bit_quanta l) = omega arith in
          let all = ap (λ d. suc d * bit_quanta l) is in
          inr (omega arith))
      | inr few ↦
          (let is : max 10 (div_ceil (ready - sample_at l) (bit_quanta l)) ≡ 10 = omega arith in
          let all = ap (λ d. suc d * bit_quanta l) is in
          inl (omega arith))
    ]

module _ (plan : Plan) (s : Stations) (of : IsPlanOf plan s) (late : EndsLate plan) (causal : IsCausal (line_of plan)) where
  abbrev pub T : ℕ → ℕ → ℕ
  T i k = steady_tick (s.clocks i) k

  -- the ticks that a bit takes at most, and a frame
  abbrev pub u : ℕ
  u = late.width * late.quantum

  abbrev pub one_frame : ℕ
  one_frame = late.way + (late.bits + 24) * u

  node : (i : ℕ) → i < s.count → i < length plan.nodes
  node i h = let e = of.count in omega arith

  pub tick_is : (i k : ℕ) → i < s.count → T i k ≡ tick_of (setup_at plan i).clock k
  tick_is i k h = sym (rate_tick (of.rates i h) k)

  rises : (i a n : ℕ) → i < s.count → T i a + n ≤ T i (a + n)
  rises i a zero h = let e : T i (a + 0) ≡ T i a = ap (T i) (let z : a + 0 ≡ a = omega arith in z) in omega arith
  rises i a (suc n) h =
      let before = rises i a n h in
      let here = causal.clocks i (a + n) (node i h) in
      let one = tick_is i (a + n) h in
      let next = tick_is i (suc (a + n)) h in
      let e : T i (a + suc n) ≡ T i (suc (a + n)) = ap (T i) (let z : a + suc n ≡ suc (a + n) = omega arith in z) in
      omega arith

  pub up : (i a b : ℕ) → i < s.count → a ≤ b → T i a ≤ T i b
  up i a b h less = let r = rises i a (b - a) h in let e : T i (a + (b - a)) ≡ T i b = ap (T i) (let z : a + (b - a) ≡ b = omega arith in z) in omega arith

  far : (i k : ℕ) → i < s.count → k ≤ T i k
  far i k h = let r = rises i 0 k h in let e : T i (0 + k) ≡ T i k = ap (T i) (let z : 0 + k ≡ k = omega arith in z) in omega arith

  slow : (i a n : ℕ) → i < s.count → T i (a + n) ≤ T i a + n * late.quantum
  slow i a zero h = let e : T i (a + 0) ≡ T i a = ap (T i) (let z : a + 0 ≡ a = omega arith in z) in omega arith
  slow i a (suc n) h =
      let before = slow i a n h in
      let here = late.quanta i (a + n) (node i h) in
      let one = tick_is i (a + n) h in
      let next = tick_is i (suc (a + n)) h in
      let e : T i (a + suc n) ≡ T i (suc (a + n)) = ap (T i) (let z : a + suc n ≡ suc (a + n) = omega arith in z) in
      omega arith

  -- so many bits later
  pub bits_later : (i a b n x : ℕ) → i < s.count → b ≤ a + n * late.width → T i a ≤ x → T i b ≤ x + n * u
  bits_later i a b n x h near base =
      let more = up i b (a + n * late.width) h near in
      let ticks = slow i a (n * late.width) h in
      let e = mul_assoc n late.width late.quantum in
      omega arith

  wide : (i : ℕ) → i < s.count → bit_quanta (s.lengths i) + (s.lengths i).sjw ≤ late.width
  wide i h = let e = ap (λ l. bit_quanta l + l.sjw) (of.lengths i h) in let w = late.widths i (node i h) in omega arith

  some_bit : (i : ℕ) → 0 < bit_quanta (s.lengths i)
  some_bit i = omega arith

  -- a queue's frames are ready by then
  pub ready_by : (k n : ℕ) → k < s.count → n < length (setup_at plan k).queue → T k (first_ready (drop n (setup_at plan k).queue)) ≤ late.ready
  ready_by k n h inside =
      let e = ready_at (setup_at plan k).queue n inside in
      let r = late.all_ready k (node k h) n no_frame inside in
      let f = ap (T k) e in
      let t = tick_is k (get_or (setup_at plan k).queue n no_frame).ready h in
      omega arith

  pub begun_by : (k : ℕ) → k < s.count → T k 0 ≤ late.ready
  begun_by k h = let t = tick_is k 0 h in let b = late.begun k (node k h) in omega arith

  pub short : (i : ℕ) → i < s.count → (s.lengths i).sjw ≤ bit_quanta (s.lengths i)
  short i h =
      let e = of.lengths i h in
      let l = All-get_or (λ x. AreLengths x.segments) plan.nodes i no_setup (node i h) of.checked.segments in
      let jump = l.sjw_ps1 in
      subst (λ x. x.sjw ≤ bit_quanta x) (sym e) (omega arith)

  sampled_within : (i : ℕ) → i < s.count → suc (sample_at (s.lengths i)) ≤ bit_quanta (s.lengths i)
  sampled_within i h =
      let e = of.lengths i h in
      let l = All-get_or (λ x. AreLengths x.segments) plan.nodes i no_setup (node i h) of.checked.segments in
      let some = l.ps2_low in
      subst (λ x. suc (sample_at x) ≤ bit_quanta x) (sym e) (omega arith)

  -- from the start of a frame to its end
  frame_later : (o : Outset) (bits i x : ℕ) → i < s.count → bits ≤ late.bits → T i (o.start.place i) ≤ x → T i (suc (expected_sample s o (bits + 12) i)) ≤ x + (late.bits + 13) * u
  frame_later o bits i x h few base =
      let high = place_high s i (short i h) o late.width (bits + 12) (wide i h) in
      let all : (bits + 12) * late.width ≤ (late.bits + 12) * late.width = mul-le-mul_right late.width (let r : bits + 12 ≤ late.bits + 12 = omega arith in r) in
      let w = wide i h in
      let within = sampled_within i h in
      bits_later i (o.start.place i) (suc (expected_sample s o (bits + 12) i)) (late.bits + 13) x h (omega arith) base

  module _ (all : AllGetThrough plan s) (has : HasFirstFrames plan (queues_of plan) s)
      (grows : (n bit i : ℕ) → suc n < all.bus.count → i < s.count → third_sample s (all.bus.frames n) i < expected_sample s (all.bus.frames (suc n)).outset bit i)
      (few : (n : ℕ) → n < all.bus.count → (all.bus.frames n).bits ≤ late.bits) where
    way_of : (k i : ℕ) → k < s.count → i < s.count → s.delay k i ≤ late.way
    way_of k i nk ni = let e = of.delays k i nk ni in let w = late.ways k i (node k nk) (node i ni) in omega arith

    -- the frame of a start that is due by then has gone a frame later
    gone_from : (o : Outset) (bits i k due x : ℕ) → i < s.count → k < s.count → bits ≤ late.bits → T i (o.start.place i) ≤ T k due + s.delay k i → T k due ≤ x + 11 * u
        → T i (suc (expected_sample s o (bits + 12) i)) ≤ x + one_frame
    gone_from o bits i k due x ni nk few_bits start soon =
        let way = way_of k i nk ni in
        let after = frame_later o bits i (x + 11 * u + late.way) ni few_bits (omega arith) in
        omega arith

    abbrev w : Waiting
    w = waiting_of plan (queues_of plan) s

    first_due : (k : ℕ) → k < s.count → has_frames (setup_at plan k) ≡ true → T k (due_first w k) ≤ late.ready + 11 * u
    first_due k nk some =
        let l = of.lengths k nk in
        let wide_k = wide k nk in
        let same : due_first w k ≡ suc (decides_at (s.lengths k) (first_ready (setup_at plan k).queue)) * bit_quanta (s.lengths k) =
        ap (λ x. suc (decides_at x (first_ready (setup_at plan k).queue)) * bit_quanta (s.lengths k)) (sym l) in
        let eleven : 11 * bit_quanta (s.lengths k) ≤ 11 * late.width = omega arith in
        elim (first_due_soon (s.lengths k) (first_ready (setup_at plan k).queue) (some_bit k)) [
          | inl idle ↦ bits_later k 0 (due_first w k) 11 late.ready nk (omega arith) (begun_by k nk)
          | inr ready ↦ bits_later k (first_ready (setup_at plan k).queue) (due_first w k) 11 late.ready nk (omega arith) (ready_by k 0 nk (ltb-true 0 (length (setup_at plan k).queue) some))
        ]

    first_gone : (i : ℕ) → i < s.count → T i (suc (third_sample s (all.bus.frames 0) i)) ≤ late.ready + one_frame
    first_gone i ni =
        let k = has.has.some.0 in
        let nk = has.has.some.1 in
        let some = has.has.some.2 in
        let sends : has_first w k ≡ true = has_is (setup_at plan) (queues_of plan) s of.lengths (λ j nj. (let e = ap bit_quanta (of.lengths j nj) in let some_j = some_bit j in omega arith)) has.has.begin k nk ∙ some in
        let zero_first : T i 0 ≤ T k (due_first w k) + s.delay k i =
        elim (cases_eq i k) [
          | inl own ↦ (let before = up k 0 (due_first w k) nk (omega arith) in let e = ap (λ j. T j 0) own in omega arith)
          | inr other ↦ (let idle = has.idle i k ni nk other some in let before = up i 0 _ ni (let r : 0 ≤ eleventh w i = omega arith in r) in omega arith)
        ] in
        let start = begins_by s up far (has_first w) (due_first w) (looks_first w) i k ni nk sends refl (edge_first w i) refl (λ e. zero_first) in
        let place : T i ((all.bus.frames 0).outset.start.place i) ≤ T k (due_first w k) + s.delay k i =
        subst (λ o. T i (o.start.place i) ≤ T k (due_first w k) + s.delay k i) (sym all.bus.first) start in
        gone_from (all.bus.frames 0).outset (all.bus.frames 0).bits i k (due_first w k) late.ready ni nk (few 0 all.bus.some) place (first_due k nk some)

    module _ (n : ℕ) (less : suc n < all.bus.count) (x : ℕ) (ready : late.ready ≤ x) (before : (i : ℕ) → i < s.count → T i (suc (third_sample s (all.bus.frames n) i)) ≤ x) where
      abbrev r : Resting
      r = resting_of s (all.bus.frames n) (all.bus.frames (suc n)) (all.bus.are.next n less)

      rested_by : (k : ℕ) → k < s.count → T k (r.place k) ≤ x
      rested_by k nk = let earlier = up k (r.place k) (suc (third_sample s (all.bus.frames n) k)) nk (omega arith) in let b = before k nk in omega arith

      next_due : (k : ℕ) → k < s.count → has_next r k ≡ true → T k (due_next r k) ≤ x + 11 * u
      next_due k nk some =
          let q = all.bus.by.queues k n less nk in
          let wide_k = wide k nk in
          let one = wakes_one (setup_at plan k) (passed_with s all.bus.frames all.bus.by.winner all.bus.by.content k (suc n)) (some_left k nk some) in
          let due : due_next r k ≡ r.place k + suc (decides_after (s.lengths k) (r.place k) (first_ready (drop one.0 (setup_at plan k).queue))) * bit_quanta (s.lengths k) =
          ap (λ d. r.place k + suc d * bit_quanta (s.lengths k)) (q.decides ∙ ap (decides_after (s.lengths k) (r.place k)) one.2) in
          elim (due_soon (s.lengths k) (r.place k) (first_ready (drop one.0 (setup_at plan k).queue)) (some_bit k)) [
            | inl soon ↦ bits_later k (r.place k) (due_next r k) 11 x nk (omega arith) (rested_by k nk)
            | inr soon ↦
                bits_later k (first_ready (drop one.0 (setup_at plan k).queue)) (due_next r k) 11 x nk (omega arith) (let by = ready_by k one.0 nk one.1 in omega arith)
          ]
        where
          some_left : (k : ℕ) → k < s.count → has_next r k ≡ true → 0 < length (unsent_with s (setup_at plan) all.bus.frames all.bus.by.winner all.bus.by.content k (suc n))
          some_left k nk some = by (unsent_with s (setup_at plan) all.bus.frames all.bus.by.winner all.bus.by.content k (suc n)) refl
            where
              by : (u : List Queued) → unsent_with s (setup_at plan) all.bus.frames all.bus.by.winner all.bus.by.content k (suc n) ≡ u → 0 < length (unsent_with s (setup_at plan) all.bus.frames all.bus.by.winner all.bus.by.content k (suc n))
              by [] e = (let none = has_none r k (setup_at plan k) (unsent_with s (setup_at plan) all.bus.frames all.bus.by.winner all.bus.by.content k (suc n)) (all.bus.by.queues k n less nk) (some_bit k) e in cc)
              by (q ∷ more) e = (let l = ap length e in omega arith)

      next_gone : (i : ℕ) → i < s.count → T i (suc (third_sample s (all.bus.frames (suc n)) i)) ≤ x + one_frame
      next_gone i ni =
          let next = all.bus.are.next n less in
          let k = next.more.some.0 in
          let some = next.more.some.1 in
          let nk = next.more.inside k some in
          let later = grows n 0 i less ni in
          let is : (all.bus.frames (suc n)).outset.start.place i ≡ hard_place (due_next r i) (edge_next r i) = ap (λ o. o.start.place i) next.is in
          let zero_first : edge_next r i ≡ Some 0 → T i 0 ≤ T k (due_next r k) + s.delay k i =
          λ e. (let none : hard_place (due_next r i) (edge_next r i) ≡ 0 = ap (hard_place (due_next r i)) e in absurd (omega arith)) in
          let start = begins_by s up far (has_next r) (due_next r) (looks_next r) i k ni nk some refl (edge_next r i) refl zero_first in
          let f = ap (T i) is in
          gone_from (all.bus.frames (suc n)).outset (all.bus.frames (suc n)).bits i k (due_next r k) x ni nk (few (suc n) less) (omega arith) (next_due k nk some)

    pub gone_by : (n : ℕ) → n < all.bus.count → (i : ℕ) → i < s.count → T i (suc (third_sample s (all.bus.frames n) i)) ≤ late.ready + suc n * one_frame
    gone_by zero less i ni = let first = first_gone i ni in omega arith
    gone_by (suc n) less i ni =
        let before = gone_by n (omega arith) in
        let next = next_gone n less (late.ready + suc n * one_frame) (omega arith) before i ni in
        omega arith
