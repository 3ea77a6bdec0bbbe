-- The nodes of a plan are idle when the first frame of any becomes ready, and each is handed its first frame.
use Rattle.std.proofs.Common.{◌≡◌, ◌≢◌, ◌∙◌, inl, inr, sym, ap, ℕ, zero, suc, ◌+◌, ◌*◌, ◌<◌, ◌≤◌, length, not, true, false, List, [], ◌∷◌, Option, Some, None, arith}
use Rattle.std.specs.Prelude.{nat_lt, slice_get}
use Rattle.std.proofs.lemmas.Bool.{cases_lt, lt-ltb}
use Rattle.std.proofs.lemmas.List.{get_or_past}
use Rattle.wl_clock.specs.Timing.{tick_of}
use Rattle.wl_segments.specs.Lengths.{Lengths, bit_quanta, sample_at}
use Rattle.wl_frame.specs.Grammar.{Content}
use Rattle.wl_node.specs.declared.setup.NodeSetup.{NodeSetup}
use Rattle.wl_node.specs.declared.setup.Queued.{Queued}
use Rattle.wl_phase.specs.Clocks.{steady_tick}
use Rattle.wl_phase.proofs.Callers.{rate_tick, tick_up}
use Rattle.wl_plan.specs.declared.plan.Plan.{Plan}
use Rattle.wl_plan.specs.PlanLine.{line_of, no_setup, setup_at}
use Rattle.wl_plan.specs.Sound.{IsCausal}
use Rattle.wl_bound.specs.Verdicts.{idle_at, is_ready_from}
use Rattle.wl_buses.specs.BothProofs.Queues.{first_head, place_among, wakes_at}
use Rattle.wl_buses.proofs.FirstFrame.Deciding as waiting
use Rattle.wl_buses.proofs.FirstFrame.Deciding.{alone_begins, decided_after}
use Rattle.wl_wire.specs.InStep.{Has}
use Rattle.wl_buses.specs.OneFrame.Plans.{IsPlanOf}
use Rattle.wl_buses.specs.OneFrame.Stations.{AreOnALine, Stations}
use Rattle.wl_buses.specs.FirstFrame.FirstFrames.{AreIdleWhenReady, BeginAsQueues, HasFirstFrames, HasFrames, content_alone, first_frames_of, waiting_of}
use Rattle.wl_buses.specs.FirstFrame.FirstStarts.{AreIdle, HandTheFirst, Waiting, due_first, eleventh, has_first}

-- a frame that becomes ready from a tick on
ready_after : (setup : NodeSetup) (q : List Queued) (t : ℕ) → nat_lt 0 (length q) ≡ true → is_ready_from setup q t ≡ true → t ≤ tick_of setup.clock (wakes_at setup q)
ready_after setup [] t e h = cc
ready_after setup (x ∷ more) t e h = elim (cases_lt (tick_of setup.clock x.ready) t) [
  | inl early ↦ (let f = ap not (lt-ltb (tick_of setup.clock x.ready) t early) in cc)
  | inr late ↦ late
]

module _ (plan : Plan) (queues : ℕ → List Content) (s : Stations) (of : IsPlanOf plan s) (begin : BeginAsQueues plan queues) (line : AreOnALine s) (causal : IsCausal (line_of plan)) where
  abbrev w : Waiting
  w = waiting_of plan queues s

  abbrev q_of : ℕ → List Queued
  q_of i = (setup_at plan i).queue

  abbrev l_of : ℕ → Lengths
  l_of i = (setup_at plan i).segments

  abbrev ready : ℕ → ℕ
  ready i = wakes_at (setup_at plan i) (q_of i)

  long : (i : ℕ) → i < s.count → (0 < bit_quanta (l_of i)) × (sample_at (l_of i) < bit_quanta (l_of i))
  long i inside =
      let e : bit_quanta (s.lengths i) ≡ bit_quanta (l_of i) = ap bit_quanta (of.lengths i inside) in
      let f : sample_at (s.lengths i) ≡ sample_at (l_of i) = ap sample_at (of.lengths i inside) in
      let low = (line.book i inside).lengths.low in
      let two = (line.book i inside).lengths.ps2_low in
      (omega arith, omega arith)

  tick_is : (i k : ℕ) → i < s.count → tick_of (setup_at plan i).clock k ≡ steady_tick (s.clocks i) k
  tick_is i k inside = rate_tick (of.rates i inside) k

  up : (i k n : ℕ) → i < s.count → k ≤ n → steady_tick (s.clocks i) k ≤ steady_tick (s.clocks i) n
  up i k n inside h = tick_up (s.clocks i) (line.steady i inside).divides k n h

  later : (i k : ℕ) → i < s.count → steady_tick (s.clocks i) k < steady_tick (s.clocks i) (suc k)
  later i k inside =
      let count = of.count in
      let h = causal.clocks i k (omega arith) in
      let a = tick_is i k inside in
      let b = tick_is i (suc k) inside in
      omega arith

  has_is : (i : ℕ) → has_first w i ≡ nat_lt 0 (length (q_of i))
  has_is i = elim (cases_lt i s.count) [
    | inl inside ↦ waiting.has_is (setup_at plan) queues s of.lengths (λ i inside. (long i inside).0) begin i inside
    | inr past ↦
        (let count = of.count in
        let none : q_of i ≡ [] = ap (λ x. x.queue) (get_or_past plan.nodes i no_setup (omega arith)) in
        waiting.none_first (setup_at plan) queues s of.lengths (λ i inside. (long i inside).0) begin i none ∙ sym (ap (λ q. nat_lt 0 (length q)) none))
  ]

  in_plan : (i : ℕ) → has_first w i ≡ true → i < s.count
  in_plan i e = elim (cases_lt i s.count) [
    | inl less ↦ less
    | inr past ↦
        (let count = of.count in
        let none : q_of i ≡ [] = ap (λ x. x.queue) (get_or_past plan.nodes i no_setup (omega arith)) in
        let f : has_first w i ≡ false = has_is i ∙ ap (λ q. nat_lt 0 (length q)) none in
        cc)
  ]

  pub hands : HandTheFirst w (setup_at plan)
  hands = waiting.hands (setup_at plan) queues s of.lengths (λ i inside. (long i inside).0) begin

  pub idle : HasFirstFrames plan queues s → AreIdle w
  idle first = record {
    frames = first.has.frames;
    inside = in_plan;
    may = λ i e. first.has.may i (in_plan i e) (sym (has_is i) ∙ e);
    some = (first.has.some.0, has_is first.has.some.0 ∙ first.has.some.2);
    later = λ i. omega arith;
    idle = λ i k inside apart e. first.idle i k inside (in_plan k e) apart (sym (has_is k) ∙ e);
  }

  -- all nodes are idle by then
  module _ (has : HasFrames plan queues s) (by : AreIdleWhenReady plan s) where
    ready_from : (i k : ℕ) → i < s.count → i ≢ k → has_first w k ≡ true → steady_tick (s.clocks i) (11 * bit_quanta (l_of i)) ≤ steady_tick (s.clocks k) (ready k)
    ready_from i k inside apart e =
        let there = in_plan k e in
        let h = ready_after (setup_at plan k) (q_of k) (idle_at (setup_at plan i)) (sym (has_is k) ∙ e) (by i k inside there apart) in
        let a = tick_is i (11 * bit_quanta (l_of i)) inside in
        let b = tick_is k (ready k) there in
        omega arith

    before_due : (i k : ℕ) → i < s.count → i ≢ k → has_first w k ≡ true → steady_tick (s.clocks i) (eleventh w i) < steady_tick (s.clocks k) (due_first w k)
    before_due i k inside apart e =
        let there = in_plan k e in
        let li : eleventh w i ≡ 10 * bit_quanta (l_of i) + sample_at (l_of i) = ap (λ m. 10 * bit_quanta m + sample_at m) (of.lengths i inside) in
        let lk : due_first w k ≡ suc (w.decides k) * bit_quanta (l_of k) = ap (λ m. suc (w.decides k) * bit_quanta m) (of.lengths k there) in
        let short = (long i inside).1 in
        let shorter = (long k there).1 in
        let next = later i (eleventh w i) inside in
        let more = up i (suc (eleventh w i)) (11 * bit_quanta (l_of i)) inside (omega arith) in
        let from = ready_from i k inside apart e in
        let decided = decided_after (l_of k) (ready k) (long k there).0 in
        let bit : suc (w.decides k) * bit_quanta (l_of k) ≡ w.decides k * bit_quanta (l_of k) + bit_quanta (l_of k) = omega arith in
        let last = up k (ready k) (due_first w k) there (omega arith) in
        omega arith

    pub first_frames : HasFirstFrames plan queues s
    first_frames = record {
      has = has;
      idle = λ i k inside there apart e. (let before = before_due i k inside apart (has_is k ∙ e) in omega arith);
    }

-- the first frames alone
has_first_of : (list : List Content) (h : Option Content) (c : Content) → slice_get list (place_among h list) ≡ h → (n : ℕ) × (slice_get (content_alone h) n ≡ Some c) → (n : ℕ) × (slice_get list n ≡ Some c)
has_first_of list None c b (n, e) = cc
has_first_of list (Some d) c b (zero, e) = (place_among (Some d) list, b ∙ e)
has_first_of list (Some d) c b (suc n, e) = cc

pub alone : (plan : Plan) (queues : ℕ → List Content) (s : Stations) → HasFirstFrames plan queues s → HasFirstFrames plan (first_frames_of plan) s
alone plan queues s first =
    let fs = first.has.frames in
    let has : (k : ℕ) (c : Content) → Has (first_frames_of plan) k c → Has queues k c = λ k c h. has_first_of (queues k) (first_head (setup_at plan k)) c (first.has.begin k) h in
    record {
      has = record {
        begin = λ i. alone_begins (first_head (setup_at plan i));
        frames = record {
          two = fs.two;
          content = λ k c less h. fs.content k c less (has k c h);
          apart = λ j k a b lj lk apart hj hk. fs.apart j k a b lj lk apart (has j a hj) (has k b hk);
        };
        may = first.has.may;
        some = first.has.some;
      };
      idle = first.idle;
    }
