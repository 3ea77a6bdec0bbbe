-- A bus with one sender from its power-up to its end: frame after frame, or silence.
use Rattle.std.proofs.Common.{◌≡◌, ◌∙◌, inl, inr, refl, sym, ap, subst, ℕ, zero, suc, ◌+◌, ◌-◌, ◌*◌, ◌<◌, ◌≤◌, min, max, length, List, [], ◌∷◌, ◌++◌, true, false, cond, Option, Some, None, append-nil, append_assoc, length-append, arith}
use Rattle.std.specs.Prelude.{◌==◌, count_by, slice_get}
use Rattle.std.proofs.lemmas.Bool.{cases_lt, cases_eq, eq-eqb, ne_eqb}
use Rattle.std.proofs.Math.Bridge.{le_prop}
use Rattle.std.proofs.Math.Nat.{mul-le-mul_right, mul-le-mul_left}
use Rattle.wl_level.specs.declared.Level.{Level}
use Rattle.wl_level.specs.declared.Level.TheVariants.{Recessive}
use Rattle.wl_segments.specs.Lengths.{sample_at, bit_quanta}
use Rattle.wl_frame.specs.Grammar.{Content}
use Rattle.wl_node.specs.declared.setup.Passed.{Passed}
use Rattle.wl_node.specs.declared.setup.Queued.{Queued}
use Rattle.wl_node.specs.History.{is_sent}
use Rattle.wl_phase.specs.Clocks.{steady_tick}
use Rattle.wl_plan.specs.Line.{Line}
use Rattle.wl_plan.specs.Simulation.{AreInside}
use Rattle.wl_buses.specs.OneSender.OneSender.{SenderBus, IsBus, IsListener, IsInStepWithAll, SendsFirst, lengths_of}
use Rattle.wl_buses.specs.OneSender.Through.{AreFrames, GetThrough, EndsInSlots, MaySend, history_at, sender_queue, due_quantum}
use Rattle.wl_buses.specs.BothProofs.Queues.{ComeFrom, head_at, queued_contents, ready_at, unsent_after, wakes_at}
use Rattle.wl_buses.proofs.BothProofs.Heads.{awake_by, awake_later, come_first, come_length, come_next, fifo_next, handed_some, head_in, same_length, unsent_in, unsent_none}
use Rattle.wl_buses.proofs.OneSender.Calm as calm
use Rattle.wl_buses.proofs.BothProofs.Expecting.{seen_by_quanta}
use Rattle.wl_buses.proofs.OneSender.Counted.{IsGood, decides_first, far, find, frames_are, good_from, of_node, ready_before, sent_later, still_good, strict}
use Rattle.wl_buses.proofs.OneSender.Following as following
use Rattle.wl_buses.proofs.OneSender.Leasts.{split}
use Rattle.wl_buses.proofs.OneSender.Passing.{IsPassed, contents_long, none_passed, still_passed}
use Rattle.wl_buses.proofs.OneSender.Planned.{Laws}
use Rattle.wl_buses.proofs.OneSender.Replies as replies
use Rattle.wl_buses.proofs.OneSender.Choosing.{StayLaws}
use Rattle.wl_buses.proofs.OneSender.Resting as resting
use Rattle.wl_buses.proofs.OneSender.Resting.{Rests, SendsNext, rests_first}
use Rattle.wl_buses.proofs.OneSender.Silence.{CountsTo, Decides, counts_to, integrating, left_of}
use Rattle.wl_buses.proofs.OneSender.Speaking as speaking
use Rattle.wl_buses.proofs.OneSender.Through as through
use Rattle.wl_buses.proofs.BothProofs.Small.{zero_first}

module _ (laws : Laws) (stay : StayLaws) (b : SenderBus) (stuffed : Content → List Level) (lengths : ℕ → ℕ) (is : IsBus b) (sends : SendsFirst b) (frames : AreFrames b stuffed lengths) (meets : IsInStepWithAll b)
    (slots : EndsInSlots b) where
  abbrev l : Line
  l = b.line

  abbrev a : ℕ
  a = b.sender

  abbrev S : ℕ → ℕ
  S i = sample_at (lengths_of b i)

  abbrev B : ℕ → ℕ
  B i = bit_quanta (lengths_of b i)

  abbrev tick : ℕ → ℕ → ℕ
  tick i k = steady_tick (b.clocks i) k

  -- at rest after n frames
  pub record Epoch (t n : ℕ) : Type 0 where
    pub rest : Rests laws.clocks b is t
    -- the frames that the sender has begun, and those that its queue still has
    pub line : List Content
    pub whole : length line ≡ n
    pub from : ComeFrom (b.setups a) line (queued_contents (left_of (b.setups a) ((rest.node a is.sender).waits.passed 10)))
    pub kept : (i : ℕ) → (inside : i < l.nodes) → (c : ℕ) → (k : ℕ) × IsPassed (b.setups a) line (i == b.sender) k ((rest.node i inside).waits.passed c)
    pub sent : IsPassed (b.setups a) line true n ((rest.node a is.sender).waits.passed 10)
    pub received : (j : ℕ) → (p : IsListener b j) → IsPassed (b.setups a) line false n ((rest.node j p.0).waits.passed 10)
    pub spaced : (m : ℕ) (head : Content) → Decides (b.setups a) ((rest.node a is.sender).waits.passed 10) (rest.node a is.sender).base (S a) (B a) head m
        → (j : ℕ) → (p : IsListener b j)
        → tick j ((rest.node j p.0).base + ((rest.node j p.0).waits.enough - 1) * B j + S j) < tick a ((rest.node a is.sender).base + suc m * B a) + l.delay a j
    -- how many have passed by then, each listener first
    pub low : (i : ℕ) → (inside : i < l.nodes) → (c : ℕ) → n ≤ suc (length ((rest.node i inside).waits.passed c))
    pub early_own : (c : ℕ) → c ≤ 7 → length ((rest.node a is.sender).waits.passed c) ≤ n - 1
    pub late_own : (c : ℕ) → 7 < c → length ((rest.node a is.sender).waits.passed c) ≡ n
    pub late_other : (j : ℕ) → (p : IsListener b j) → (c : ℕ) → 6 < c → n ≤ length ((rest.node j p.0).waits.passed c)
    pub order : 0 < n → (j : ℕ) → (p : IsListener b j)
        → tick j ((rest.node j p.0).base + 6 * B j + S j) ≤ tick a ((rest.node a is.sender).base + 7 * B a + S a)
    pub due : (rest.node a is.sender).base + 7 * B a + S a < due_quantum b lengths n

  abbrev long : ℕ → ℕ → ℕ
  long i k = length (history_at b i k).frames

  module _ (t n : ℕ) (ep : Epoch t n) where
    abbrev base : ℕ
    base = (ep.rest.node a is.sender).base

    abbrev gone : List Passed
    gone = (ep.rest.node a is.sender).waits.passed 10

    abbrev left : List Queued
    left = left_of (b.setups a) gone

    abbrev ready : ℕ → Option Content
    ready c = head_at (b.setups a) left (base + c * B a + S a)

    -- how many are left, and when one is ready
    left_length : n + length left ≡ length (sender_queue b)
    left_length =
        let all = come_length (b.setups a) ep.line (queued_contents left) ep.from in
        let whole = ep.whole in
        let same = same_length left in
        omega arith

    wakes : wakes_at (b.setups a) left ≤ max (due_quantum b lengths n) (ready_at (sender_queue b) n)
    wakes =
        awake_by (b.setups a) gone (max (due_quantum b lengths n) (ready_at (sender_queue b) n)) (λ j few. elim (cases_eq j n) [
          | inl last ↦ (let e = ap (ready_at (sender_queue b)) last in omega arith)
          | inr other ↦ (let count = ep.sent.count in let before = ready_before b lengths j n (omega (arith, other)) in omega arith)
        ])

    -- how many frames have passed the nodes by a quantum
    pub record OwnCount (k : ℕ) : Type 0 where
      pub early : k ≤ base + 7 * B a + S a → long a k ≤ n - 1
      pub late : base + 7 * B a + S a < k → n ≤ long a k
      pub high : long a k ≤ n
      pub low : n ≤ suc (long a k)

    pub record OtherCount (j : ℕ) (p : IsListener b j) (k : ℕ) : Type 0 where
      pub late : (ep.rest.node j p.0).base + 6 * B j + S j < k → n ≤ long j k
      pub low : n ≤ suc (long j k)

    own_by : (k count : ℕ) → (history_at b a k).frames ≡ (ep.rest.node a is.sender).waits.passed (min count 10) → CountsTo base (S a) (B a) k count → OwnCount k
    own_by k count e c =
        let f = ap length e in
        elim (cases_lt 7 count) [
          | inl over ↦
              (let h = ep.late_own (min count 10) (omega arith) in
              let past = c.less 7 (omega arith) over in
              record { early = λ w. absurd (omega arith); late = λ w. omega arith; high = omega arith; low = omega arith })
          | inr few ↦
              (let h = ep.early_own (min count 10) (omega arith) in
              let g = ep.low a is.sender (min count 10) in
              record { early = λ w. omega arith; late = λ w. (let more = c.more 7 (omega arith) w in absurd (omega arith)); high = omega arith; low = omega arith })
        ]

    other_by : (j : ℕ) (p : IsListener b j) (k count : ℕ) → (history_at b j k).frames ≡ (ep.rest.node j p.0).waits.passed (min count 10)
        → CountsTo (ep.rest.node j p.0).base (S j) (B j) k count → OtherCount j p k
    other_by j p k count e c =
        let f = ap length e in
        let g = ep.low j p.0 (min count 10) in
        record {
          late = λ w. (let more = c.more 6 (omega arith) w in let h = ep.late_other j p (min count 10) (omega arith) in omega arith);
          low = omega arith;
        }

    -- what is sent has been received
    pair_by : (j : ℕ) (p : IsListener b j) (k q : ℕ) → OwnCount k → OtherCount j p q → l.instant a k ≤ l.instant j q → long a k ≤ long j q
    pair_by j p k q own other later = elim (cases_lt (base + 7 * B a + S a) k) [
      | inr early ↦ (let e = own.early early in let g = other.low in omega arith)
      | inl late ↦ elim (cases_eq n 0) [
        | inl none ↦ (let e = own.high in omega arith)
        | inr some ↦
            (let e = own.high in
            let o = ep.order (omega arith) j p in
            let rise = strict laws b is a (base + 7 * B a + S a) k is.sender late in
            let here = is.ticks a k is.sender in
            let there = is.ticks j q p.0 in
            let past : (ep.rest.node j p.0).base + 6 * B j + S j < q = elim (cases_lt ((ep.rest.node j p.0).base + 6 * B j + S j) q) [
              | inl less ↦ less
              | inr more ↦ (let up = resting.up laws.clocks b is j p.0 q ((ep.rest.node j p.0).base + 6 * B j + S j) more in absurd (omega arith))
            ] in
            let h = other.late past in
            omega arith)
      ]
    ]

    -- and what was due was sent, unless that is one more
    due_by : (k m : ℕ) → OwnCount k → due_quantum b lengths m ≤ k → (due_quantum b lengths (suc n) ≤ k → m ≤ n) → m ≤ long a k
    due_by k m own by unless = elim (cases_lt (base + 7 * B a + S a) k) [
      | inr early ↦
          (let d = ep.due in
          let less : m < n = elim (cases_lt m n) [
            | inl less ↦ less
            | inr more ↦ (let mono = sent_later b lengths n m more in absurd (omega arith))
          ] in
          let e = own.low in
          omega arith)
      | inl late ↦
          (let e = own.late late in
          elim (cases_lt n m) [
            | inl more ↦ (let mono = sent_later b lengths (suc n) m more in let g = unless (omega arith) in omega arith)
            | inr few ↦ omega arith
          ])
    ]

    own_start : (k : ℕ) → k ≡ (ep.rest.node a is.sender).start → OwnCount k
    own_start k e =
        let r = ep.rest.node a is.sender in
        subst OwnCount (sym e)
        (own_by r.start r.state.count
        (frames_are laws b is a r.start is.sender (resting.actual laws.clocks b is a) (r.waits.passed (min r.state.count 10)) r.state.stretch Recessive r.state.going.does (seen_by_quanta l a r.start))
        (counts_to laws.clocks (b.setups a) (is.book a is.sender) (resting.actual laws.clocks b is a) r.base r.waits r.start r.state))

    -- no frame is ready up to the end
    module _ (none : (c : ℕ) → 10 ≤ c → c < l.stop → ready c ≡ None) where
      never : (c : ℕ) → 10 ≤ c → tick a (base + c * B a + S a) < l.stop → ready c ≡ None
      never c many soon =
          let far_off = far laws b is a (base + c * B a + S a) is.sender in
          let e = is.ticks a (base + c * B a + S a) is.sender in
          let some = (is.book a is.sender).lengths.low in
          let bits : c * 1 ≤ c * B a = mul-le-mul_left c (let h : 1 ≤ B a = omega arith in h) in
          none c many (omega arith)

      good_calm : (i k : ℕ) → (inside : i < l.nodes) → (ep.rest.node i inside).start ≤ k → AreInside l i k → IsGood laws b is ep.line i k
      good_calm i k inside late soon =
          let r = ep.rest.node i inside in
          let s = calm.still laws b is t ep.rest sends.alone never i inside k late (λ q less. (let e = is.ticks i q inside in let f = soon q less in omega arith)) in
          good_from laws b is ep.line i k inside (calm.lv laws b is t ep.rest sends.alone never i) (r.waits.passed (min s.count 10)) s.stretch Recessive s.going.does
          (calm.lists_then laws b is t ep.rest sends.alone never i k inside soon) (ep.kept i inside (min s.count 10))

      own_calm : (k : ℕ) → (ep.rest.node a is.sender).start ≤ k → AreInside l a k → OwnCount k
      own_calm k late soon =
          let r = ep.rest.node a is.sender in
          let s = calm.still laws b is t ep.rest sends.alone never a is.sender k late (λ q less. (let e = is.ticks a q is.sender in let f = soon q less in omega arith)) in
          own_by k s.count
          (frames_are laws b is a k is.sender (calm.lv laws b is t ep.rest sends.alone never a) (r.waits.passed (min s.count 10)) s.stretch Recessive s.going.does
          (calm.lists_then laws b is t ep.rest sends.alone never a k is.sender soon))
          (counts_to laws.clocks (b.setups a) (is.book a is.sender) (calm.lv laws b is t ep.rest sends.alone never a) r.base r.waits k s)

      other_calm : (j : ℕ) (p : IsListener b j) (k : ℕ) → (ep.rest.node j p.0).start ≤ k → AreInside l j k → OtherCount j p k
      other_calm j p k late soon =
          let r = ep.rest.node j p.0 in
          let s = calm.still laws b is t ep.rest sends.alone never j p.0 k late (λ q less. (let e = is.ticks j q p.0 in let f = soon q less in omega arith)) in
          other_by j p k s.count
          (frames_are laws b is j k p.0 (calm.lv laws b is t ep.rest sends.alone never j) (r.waits.passed (min s.count 10)) s.stretch Recessive s.going.does
          (calm.lists_then laws b is t ep.rest sends.alone never j k p.0 soon))
          (counts_to laws.clocks (b.setups j) (is.book j p.0) (calm.lv laws b is t ep.rest sends.alone never j) r.base r.waits k s)

      -- it would have been ready by then
      calm_due : (k : ℕ) → AreInside l a k → n < length (sender_queue b) → due_quantum b lengths (suc n) ≤ k → ⊥
      calm_due k soon more by =
          let d = ep.due in
          let some = (is.book a is.sender).lengths.low in
          let w = wakes in
          let r = split (wakes_at (b.setups a) left - (base + 10 * B a + S a)) (B a) (omega arith) in
          let cut = r.3 in
          let inside = r.2 in
          let bits : (10 + suc r.0) * B a ≡ 10 * B a + r.0 * B a + B a = omega arith in
          let weight : 15 * B a ≤ (lengths n + 15) * B a = mul-le-mul_right (B a) (omega arith) in
          let here : base + (10 + suc r.0) * B a + S a < k = omega arith in
          let ready_then : wakes_at (b.setups a) left ≤ base + (10 + suc r.0) * B a + S a = omega arith in
          let never_then = never (10 + suc r.0) (omega arith)
          (let f = soon (base + (10 + suc r.0) * B a + S a) here in let e = is.ticks a (base + (10 + suc r.0) * B a + S a) is.sender in omega arith) in
          let more_left = left_length in
          let asleep = awake_later (b.setups a) left (base + (10 + suc r.0) * B a + S a) (omega arith) never_then in
          omega arith

    -- a frame begins after bit m
    module _ (m : ℕ) (head : Content) (decides : Decides (b.setups a) gone base (S a) (B a) head m) where
      abbrev from : ℕ
      from = base + suc m * B a

      -- it is one of the queue
      place : (k : ℕ) × (slice_get (queued_contents (sender_queue b)) k ≡ Some head)
      place = let k = head_in (b.setups a) left (base + m * B a + S a) head decides.ready in unsent_in (b.setups a) gone k.0 head k.1

      may_send : MaySend b n head
      may_send = record {
        some = place;
        order = λ fifo. ap (slice_get (queued_contents (sender_queue b))) (sym ep.sent.count) ∙ fifo_next (b.setups a) gone (base + m * B a + S a) head fifo decides.ready;
      }

      short : length (stuffed head) ≤ lengths n
      short = frames.short n head may_send

      sends_next : SendsNext laws.clocks b is t ep.rest head (stuffed head) from m
      sends_next =
          let k = place in
          record {
            content = frames.content k.0 head k.1;
            stuffs = frames.stuffs k.0 head k.1;
            decides = decides;
            from_is = refl;
            alone = sends.alone;
            spaced = ep.spaced m head decides;
          }

      first : (i : ℕ) × through.IsFirst laws stay b is meets slots t ep.rest head (stuffed head) from m sends_next i
      first = through.the_first laws stay b is meets slots t ep.rest head (stuffed head) from m sends_next

      at_slot : through.SlotSample laws stay b is meets slots t ep.rest head (stuffed head) from m sends_next first.0 first.1
      at_slot = through.slot_sampled_at laws stay b is meets slots t ep.rest head (stuffed head) from m sends_next first.0 first.1

      abbrev after_it : ℕ
      after_it = through.next_rest laws stay b is meets slots t ep.rest head (stuffed head) from m sends_next first.0 first.1 at_slot

      abbrev cut : ℕ
      cut = through.cut laws stay b is meets slots t ep.rest head (stuffed head) from m sends_next first.0 first.1 at_slot

      later : t < after_it
      later =
          let before = speaking.rest_before laws.clocks laws.frame b is meets t ep.rest head (stuffed head) from m sends_next in
          let low = through.q_late laws stay b is meets slots t ep.rest head (stuffed head) from m sends_next first.0 first.1 at_slot in
          let some = (is.book a is.sender).lengths.low in
          let next_tick = is.causal.clocks a from is.sender in
          let e = is.ticks a from is.sender in
          let g = is.ticks a (suc from) is.sender in
          let zero_bits = speaking.begins_from laws.clocks laws.frame b is meets t ep.rest head (stuffed head) from m sends_next in
          let rise = resting.up laws.clocks b is a is.sender (suc from) (at_slot.quantum + 5 * B a) (omega arith) in
          omega arith

      abbrev longer : List Content
      longer = ep.line ++ head ∷ []

      -- with the frame the line comes from the queue
      come_on : (p : Passed) → p.sent ≡ true → p.frame ≡ head → ComeFrom (b.setups a) longer (queued_contents (left_of (b.setups a) (gone ++ p ∷ [])))
      come_on p own same =
          subst (λ c. ComeFrom (b.setups a) (ep.line ++ c ∷ []) (queued_contents (left_of (b.setups a) (gone ++ p ∷ [])))) same
          (come_next (b.setups a) gone p (base + m * B a + S a) ep.line own (decides.ready ∙ ap Some (sym same)) ep.from)

      good_frame : (i k : ℕ) → (inside : i < l.nodes) → (ep.rest.node i inside).start ≤ k → ((q : ℕ) → q < k → l.instant i q < cut) → IsGood laws b is longer i k
      good_frame i k inside late soon = elim (cases_eq i a) [
        | inl here ↦
            subst (λ v. (h : v < l.nodes) → (ep.rest.node v h).start ≤ k → ((q : ℕ) → q < k → l.instant v q < cut) → IsGood laws b is longer v k) (sym here)
            (λ h. subst (λ h. (ep.rest.node a h).start ≤ k → ((q : ℕ) → q < k → l.instant a q < cut) → IsGood laws b is longer a k) (le_prop is.sender h) own) inside late soon
        | inr apart ↦ other (inside, apart) late soon
      ]
        where
          own : (ep.rest.node a is.sender).start ≤ k → ((q : ℕ) → q < k → l.instant a q < cut) → IsGood laws b is longer a k
          own late soon =
              let few : k ≤ at_slot.quantum + 11 * B a = elim (cases_lt (at_slot.quantum + 5 * B a) k) [
                | inl over ↦ (let f = soon (at_slot.quantum + 5 * B a) over in let e = is.ticks a (at_slot.quantum + 5 * B a) is.sender in absurd (omega arith))
                | inr fits ↦ omega arith
              ] in
              let d = through.doing_own laws stay b is meets slots t ep.rest head (stuffed head) from m sends_next first.0 first.1 at_slot k late few in
              good_from laws b is longer a k is.sender (replies.lv laws stay b is meets slots t ep.rest head (stuffed head) from m sends_next a) d.passed d.stretch d.drive d.does
              (through.lists_then laws stay b is meets slots t ep.rest head (stuffed head) from m sends_next first.0 first.1 at_slot a k is.sender soon)
              (elim d.gone [
                | inl e ↦
                    (let r = ep.kept a is.sender (min d.count 10) in
                    (r.0, subst (IsPassed (b.setups a) longer (a == b.sender) r.0) (sym e.0) (still_passed (b.setups a) ep.line (head ∷ []) (a == b.sender) r.0 ((ep.rest.node a is.sender).waits.passed (min d.count 10)) r.1)))
                | inr e ↦ elim (cases_lt 7 (min d.count 10)) [
                  | inl over ↦ (
                    suc n,
                    of_node laws b is longer a true (suc n) d.passed ((through.after_own laws stay b is meets slots t ep.rest head (stuffed head) from m sends_next first.0 first.1 at_slot).passed (min d.count 10)) (eq-eqb a a refl) e.0
                        (following.own_late laws stay b is meets slots t ep.rest head (stuffed head) from m sends_next first.0 first.1 at_slot ep.line n ep.whole ep.sent ep.received (min d.count 10) over),
                  )
                  | inr early ↦ (
                    n,
                    of_node laws b is longer a true n d.passed ((through.after_own laws stay b is meets slots t ep.rest head (stuffed head) from m sends_next first.0 first.1 at_slot).passed (min d.count 10)) (eq-eqb a a refl) e.0
                        (following.own_early laws stay b is meets slots t ep.rest head (stuffed head) from m sends_next first.0 first.1 at_slot ep.line n ep.whole ep.sent ep.received (min d.count 10) early),
                  )
                ]
              ])

          other : (p : IsListener b i) → (ep.rest.node i p.0).start ≤ k → ((q : ℕ) → q < k → l.instant i q < cut) → IsGood laws b is longer i k
          other p late soon =
              let w = replies.plan_of laws stay b is meets slots t ep.rest head (stuffed head) from m sends_next i p in
              let start : (ep.rest.node i w.nat.heard.listener.0).start ≤ k = subst (λ h. (ep.rest.node i h).start ≤ k) (le_prop p.0 w.nat.heard.listener.0) late in
              let d = replies.doing laws stay b is meets slots t ep.rest head (stuffed head) from m sends_next i w k start in
              good_from laws b is longer i k w.nat.heard.listener.0 (replies.lv laws stay b is meets slots t ep.rest head (stuffed head) from m sends_next i) d.passed d.stretch d.drive d.does
              (through.lists_then laws stay b is meets slots t ep.rest head (stuffed head) from m sends_next first.0 first.1 at_slot i k w.nat.heard.listener.0 soon)
              (elim d.gone [
                | inl e ↦
                    (let r = ep.kept i w.nat.heard.listener.0 (min d.count 10) in (
                      r.0,
                      subst (IsPassed (b.setups a) longer (i == b.sender) r.0) (sym e.0)
                          (still_passed (b.setups a) ep.line (head ∷ []) (i == b.sender) r.0 ((ep.rest.node i w.nat.heard.listener.0).waits.passed (min d.count 10)) r.1),
                    ))
                | inr e ↦ elim (cases_lt 6 (min d.count 10)) [
                  | inl over ↦ (
                    suc n,
                    of_node laws b is longer i false (suc n) d.passed ((through.after laws stay b is meets slots t ep.rest head (stuffed head) from m sends_next i w).passed (min d.count 10)) (ne_eqb i a w.nat.heard.listener.1) e
                        (following.other_late laws stay b is meets slots t ep.rest head (stuffed head) from m sends_next first.0 first.1 at_slot ep.line n ep.whole ep.sent ep.received i w (min d.count 10) over),
                  )
                  | inr early ↦ (
                    n,
                    of_node laws b is longer i false n d.passed ((through.after laws stay b is meets slots t ep.rest head (stuffed head) from m sends_next i w).passed (min d.count 10)) (ne_eqb i a w.nat.heard.listener.1) e
                        (following.other_early laws stay b is meets slots t ep.rest head (stuffed head) from m sends_next first.0 first.1 at_slot ep.line n ep.whole ep.sent ep.received i w (min d.count 10) early),
                  )
                ]
              ])

      -- it begins soon after it is ready
      from_soon : from ≤ max (base + 11 * B a) (wakes_at (b.setups a) left + 2 * B a)
      from_soon =
          let bits : suc m * B a ≡ m * B a + B a = omega arith in
          elim (cases_eq m 10) [
            | inl ten ↦ (let e : m * B a ≡ 10 * B a = ap (λ x. x * B a) ten in omega arith)
            | inr more ↦
                (let many = decides.idle in
                let none = decides.unready (m - 1) (omega arith) (omega arith) in
                let less =
                awake_later (b.setups a) left (base + (m - 1) * B a + S a) (handed_some (b.setups a) left (base + m * B a + S a) head decides.ready) none in
                let one : (m - 1) * B a + B a ≡ m * B a = (let e : m - 1 + 1 ≡ m = omega arith in let f : (m - 1 + 1) * B a ≡ m * B a = ap (λ x. x * B a) e in omega arith) in
                omega arith)
          ]

      due_next : at_slot.quantum + (lengths_of b a).ps2 + 7 * B a + S a < due_quantum b lengths (suc n)
      due_next =
          let soon = from_soon in
          let high = at_slot.high in
          let d = ep.due in
          let jump = (is.book a is.sender).lengths.sjw_half in
          let many = (is.book a is.sender).lengths.low in
          let few = (is.book a is.sender).lengths.ps2_low in
          let w = wakes in
          let bits : suc (length (stuffed head)) * B a ≡ length (stuffed head) * B a + B a = omega arith in
          let weight : (lengths n + 15) * B a ≡ lengths n * B a + 15 * B a = omega arith in
          let few_bits : length (stuffed head) * B a ≤ lengths n * B a = mul-le-mul_right (B a) short in
          omega arith

      own_frame : (k : ℕ) → (ep.rest.node a is.sender).start ≤ k → ((q : ℕ) → q < k → l.instant a q < cut) → OwnCount k
      own_frame k late soon =
          let few : k ≤ at_slot.quantum + 5 * B a = elim (cases_lt (at_slot.quantum + 5 * B a) k) [
            | inl over ↦ (let f = soon (at_slot.quantum + 5 * B a) over in let e = is.ticks a (at_slot.quantum + 5 * B a) is.sender in absurd (omega arith))
            | inr fits ↦ fits
          ] in
          let bits : 5 * B a ≤ 11 * B a = mul-le-mul_right (B a) (omega arith) in
          let d = through.doing_own laws stay b is meets slots t ep.rest head (stuffed head) from m sends_next first.0 first.1 at_slot k late (omega arith) in
          let e = frames_are laws b is a k is.sender (replies.lv laws stay b is meets slots t ep.rest head (stuffed head) from m sends_next a) d.passed d.stretch d.drive d.does (through.lists_then laws stay b is meets slots t ep.rest head (stuffed head) from m sends_next first.0 first.1 at_slot a k is.sender soon) in
          elim d.gone [
            | inl g ↦ own_by k d.count (e ∙ g.0) g.1
            | inr g ↦
                (let some = decides.idle in
                let less : d.count ≤ 7 = elim (cases_lt 7 d.count) [
                  | inl over ↦ (let past = g.1.less 7 (omega arith) over in absurd (omega arith))
                  | inr fits ↦ fits
                ] in
                let p = (following.own_early laws stay b is meets slots t ep.rest head (stuffed head) from m sends_next first.0 first.1 at_slot ep.line n ep.whole ep.sent ep.received (min d.count 10) (omega arith)).long in
                let f = ap length (e ∙ g.0) in
                let past = g.2 in
                let begun : 11 * B a ≤ suc m * B a = mul-le-mul_right (B a) (omega arith) in
                record { early = λ w. absurd (omega arith); late = λ w. omega arith; high = omega arith; low = omega arith })
          ]

      other_frame : (j : ℕ) (p : IsListener b j) (k : ℕ) → (ep.rest.node j p.0).start ≤ k → ((q : ℕ) → q < k → l.instant j q < cut) → OtherCount j p k
      other_frame j p k late soon =
          let w = replies.plan_of laws stay b is meets slots t ep.rest head (stuffed head) from m sends_next j p in
          subst (λ h. OtherCount j (h, p.1) k) (le_prop w.nat.heard.listener.0 p.0)
          (let start : (ep.rest.node j w.nat.heard.listener.0).start ≤ k = subst (λ h. (ep.rest.node j h).start ≤ k) (le_prop p.0 w.nat.heard.listener.0) late in
          let d = replies.doing laws stay b is meets slots t ep.rest head (stuffed head) from m sends_next j w k start in
          let e = frames_are laws b is j k w.nat.heard.listener.0 (replies.lv laws stay b is meets slots t ep.rest head (stuffed head) from m sends_next j) d.passed d.stretch d.drive d.does (through.lists_then laws stay b is meets slots t ep.rest head (stuffed head) from m sends_next first.0 first.1 at_slot j k w.nat.heard.listener.0 soon) in
          elim d.gone [
            | inl g ↦ other_by j (w.nat.heard.listener.0, p.1) k d.count (e ∙ g.0) g.1
            | inr g ↦ elim (cases_lt 6 (min d.count 10)) [
              | inl over ↦
                  (let x = (following.other_late laws stay b is meets slots t ep.rest head (stuffed head) from m sends_next first.0 first.1 at_slot ep.line n ep.whole ep.sent ep.received j w (min d.count 10) over).long in
                  let f = ap length (e ∙ g) in
                  record { late = λ z. omega arith; low = omega arith })
              | inr early ↦
                  (let x = (following.other_early laws stay b is meets slots t ep.rest head (stuffed head) from m sends_next first.0 first.1 at_slot ep.line n ep.whole ep.sent ep.received j w (min d.count 10) early).long in
                  let f = ap length (e ∙ g) in
                  record { late = λ z. omega arith; low = omega arith })
            ]
          ])

      -- before the next rest that one isn't due
      too_early : (k : ℕ) → ((q : ℕ) → q < k → l.instant a q < cut) → due_quantum b lengths (suc n) ≤ k → ⊥
      too_early k soon by =
          let d = due_next in
          let many = (is.book a is.sender).lengths.low in
          let f = soon (at_slot.quantum + 5 * B a) (omega arith) in
          let e = is.ticks a (at_slot.quantum + 5 * B a) is.sender in
          omega arith

      module _ (in_time : after_it ≤ l.stop) where
        abbrev node : (v : ℕ) → (inside : v < l.nodes) → following.NextNode laws stay b is meets slots t ep.rest head (stuffed head) from m sends_next first.0 first.1 at_slot in_time v inside
        node = following.next_node laws stay b is meets slots t ep.rest head (stuffed head) from m sends_next first.0 first.1 at_slot in_time

        next_rests : Rests laws.clocks b is after_it
        next_rests = record {
          quiet = following.quiet_then laws stay b is meets slots t ep.rest head (stuffed head) from m sends_next first.0 first.1 at_slot in_time;
          node = λ v inside. (node v inside).rests;
          soon =
              (let base_is = (node a is.sender).own_base refl in
              let start_is = (node a is.sender).own_start refl in
              omega arith);
        }

        next_kept : (v : ℕ) → (inside : v < l.nodes) → (c : ℕ)
            → (k : ℕ) × IsPassed (b.setups a) longer (v == b.sender) k ((node v inside).rests.waits.passed c)
        next_kept v inside c = elim (cases_eq v a) [
          | inl here ↦
              (let e = ap (λ f. f c) ((node v inside).own_gone here) in
              elim (cases_lt 7 c) [
                | inl over ↦ (
                  suc n,
                  of_node laws b is longer v true (suc n) ((node v inside).rests.waits.passed c) ((through.after_own laws stay b is meets slots t ep.rest head (stuffed head) from m sends_next first.0 first.1 at_slot).passed c) (eq-eqb v a here) e
                      (following.own_late laws stay b is meets slots t ep.rest head (stuffed head) from m sends_next first.0 first.1 at_slot ep.line n ep.whole ep.sent ep.received c over),
                )
                | inr early ↦ (
                  n,
                  of_node laws b is longer v true n ((node v inside).rests.waits.passed c) ((through.after_own laws stay b is meets slots t ep.rest head (stuffed head) from m sends_next first.0 first.1 at_slot).passed c) (eq-eqb v a here) e
                      (following.own_early laws stay b is meets slots t ep.rest head (stuffed head) from m sends_next first.0 first.1 at_slot ep.line n ep.whole ep.sent ep.received c early),
                )
              ])
          | inr apart ↦
              (let g = (node v inside).gone apart in
              let e = ap (λ f. f c) g.1 in
              elim (cases_lt 6 c) [
                | inl over ↦ (
                  suc n,
                  of_node laws b is longer v false (suc n) ((node v inside).rests.waits.passed c) ((through.after laws stay b is meets slots t ep.rest head (stuffed head) from m sends_next v g.0).passed c) (ne_eqb v a apart) e
                      (following.other_late laws stay b is meets slots t ep.rest head (stuffed head) from m sends_next first.0 first.1 at_slot ep.line n ep.whole ep.sent ep.received v g.0 c over),
                )
                | inr early ↦ (
                  n,
                  of_node laws b is longer v false n ((node v inside).rests.waits.passed c) ((through.after laws stay b is meets slots t ep.rest head (stuffed head) from m sends_next v g.0).passed c) (ne_eqb v a apart) e
                      (following.other_early laws stay b is meets slots t ep.rest head (stuffed head) from m sends_next first.0 first.1 at_slot ep.line n ep.whole ep.sent ep.received v g.0 c early),
                )
              ])
        ]

        next_low : (v : ℕ) → (inside : v < l.nodes) → (c : ℕ) → suc n ≤ suc (length ((node v inside).rests.waits.passed c))
        next_low v inside c = elim (cases_eq v a) [
          | inl here ↦
              (let e = ap (λ f. length (f c)) ((node v inside).own_gone here) in
              elim (cases_lt 7 c) [
                | inl over ↦ (let h = (following.own_late laws stay b is meets slots t ep.rest head (stuffed head) from m sends_next first.0 first.1 at_slot ep.line n ep.whole ep.sent ep.received c over).long in omega arith)
                | inr early ↦ (let h = (following.own_early laws stay b is meets slots t ep.rest head (stuffed head) from m sends_next first.0 first.1 at_slot ep.line n ep.whole ep.sent ep.received c early).long in omega arith)
              ])
          | inr apart ↦
              (let g = (node v inside).gone apart in
              let e = ap (λ f. length (f c)) g.1 in
              elim (cases_lt 6 c) [
                | inl over ↦ (let h = (following.other_late laws stay b is meets slots t ep.rest head (stuffed head) from m sends_next first.0 first.1 at_slot ep.line n ep.whole ep.sent ep.received v g.0 c over).long in omega arith)
                | inr early ↦ (let h = (following.other_early laws stay b is meets slots t ep.rest head (stuffed head) from m sends_next first.0 first.1 at_slot ep.line n ep.whole ep.sent ep.received v g.0 c early).long in omega arith)
              ])
        ]

        next_from : ComeFrom (b.setups a) longer (queued_contents (left_of (b.setups a) ((node a is.sender).rests.waits.passed 10)))
        next_from =
            subst (λ f. ComeFrom (b.setups a) longer (queued_contents (left_of (b.setups a) f)))
            (sym (ap (λ f. f 10) ((node a is.sender).own_gone refl)
            ∙ following.own_more laws stay b is meets slots t ep.rest head (stuffed head) from m sends_next first.0 first.1 at_slot ep.line n ep.whole ep.sent ep.received 10 (omega arith)))
            (come_on (following.own_frame laws stay b is meets slots t ep.rest head (stuffed head) from m sends_next first.0 first.1 at_slot ep.line n ep.whole ep.sent ep.received) refl refl)

        next_epoch : Epoch after_it (suc n)
        unfolding next_rests
        next_epoch = record {
          rest = next_rests;
          line = longer;
          whole = (let whole = ep.whole in let sum = length-append ep.line (head ∷ []) in omega arith);
          from = next_from;
          kept = next_kept;
          sent =
              subst (IsPassed (b.setups a) longer true (suc n)) (sym (ap (λ f. f 10) ((node a is.sender).own_gone refl)))
              (following.own_late laws stay b is meets slots t ep.rest head (stuffed head) from m sends_next first.0 first.1 at_slot ep.line n ep.whole ep.sent ep.received 10 (omega arith));
          received = λ j p.
              (let g = (node j p.0).gone p.1 in
              subst (IsPassed (b.setups a) longer false (suc n)) (sym (ap (λ f. f 10) g.1))
              (following.other_late laws stay b is meets slots t ep.rest head (stuffed head) from m sends_next first.0 first.1 at_slot ep.line n ep.whole ep.sent ep.received j g.0 10 (omega arith)));
          spaced = λ k h d j p.
              (let e = (node a is.sender).own_base refl in
              let s = (node j p.0).spaced p.1 k d.idle in
              subst (λ x. tick j ((node j p.0).rests.base + ((node j p.0).rests.waits.enough - 1) * B j + S j) < tick a (x + suc k * B a) + l.delay a j) (sym e) s);
          low = λ i inside c. next_low i inside c;
          early_own = λ c early.
              (let e = ap (λ f. f c) ((node a is.sender).own_gone refl) in
              let p = (following.own_early laws stay b is meets slots t ep.rest head (stuffed head) from m sends_next first.0 first.1 at_slot ep.line n ep.whole ep.sent ep.received c early).long in
              let f = ap length e in
              omega arith);
          late_own = λ c late.
              (let e = ap (λ f. f c) ((node a is.sender).own_gone refl) in
              ap length e ∙ (following.own_late laws stay b is meets slots t ep.rest head (stuffed head) from m sends_next first.0 first.1 at_slot ep.line n ep.whole ep.sent ep.received c late).long);
          late_other = λ j p c late.
              (let g = (node j p.0).gone p.1 in
              let e = ap (λ f. length (f c)) g.1 in
              let h = (following.other_late laws stay b is meets slots t ep.rest head (stuffed head) from m sends_next first.0 first.1 at_slot ep.line n ep.whole ep.sent ep.received j g.0 c late).long in
              omega arith);
          order = λ some j p.
              (let e = (node a is.sender).own_base refl in
              let g = (node j p.0).base_is p.1 in
              let before = through.received_before laws stay b is meets slots t ep.rest head (stuffed head) from m sends_next first.0 first.1 at_slot j g.0 in
              subst (λ x. tick j (x + 6 * B j + S j) ≤ tick a ((node a is.sender).rests.base + 7 * B a + S a)) (sym g.1)
              (subst (λ x. tick j (through.sample laws stay b is meets slots t ep.rest head (stuffed head) from m sends_next j g.0 + (lengths_of b j).ps2 + 6 * B j + S j) ≤ tick a (x + 7 * B a + S a)) (sym e) before));
          due = (let e = (node a is.sender).own_base refl in let d = due_next in omega arith);
        }

  -- what holds from a rest on
  pub record Later (t n : ℕ) (ep : Epoch t n) : Type 0 where
    -- all frames that the sender begins up to the end, and those that its queue has then
    pub line : List Content
    pub more : List Content
    pub on : ep.line ++ more ≡ line
    pub left : List Content
    pub from : ComeFrom (b.setups a) line left
    pub good : (i k : ℕ) → (inside : i < l.nodes) → (ep.rest.node i inside).start ≤ k → AreInside l i k → IsGood laws b is line i k
    pub low : (i k : ℕ) → (inside : i < l.nodes) → (ep.rest.node i inside).start ≤ k → AreInside l i k → n ≤ suc (long i k)
    pub pair : (j : ℕ) (p : IsListener b j) (k q : ℕ) → (ep.rest.node a is.sender).start ≤ k → (ep.rest.node j p.0).start ≤ q → AreInside l a k → AreInside l j q
        → l.instant a k ≤ l.instant j q → long a k ≤ long j q
    pub due : (k m : ℕ) → (ep.rest.node a is.sender).start ≤ k → AreInside l a k → m ≤ length (sender_queue b) → due_quantum b lengths m ≤ k → m ≤ long a k

  -- by the counts of the sender and of the others, where one more frame isn't due
  with_longer_ways : (t n : ℕ) (ep : Epoch t n) (more left : List Content) → ComeFrom (b.setups a) (ep.line ++ more) left
      → ((i k : ℕ) → (inside : i < l.nodes) → (ep.rest.node i inside).start ≤ k → AreInside l i k → IsGood laws b is (ep.line ++ more) i k) → ((k : ℕ) → (ep.rest.node a is.sender).start ≤ k → AreInside l a k → OwnCount t n ep k)
      → ((j : ℕ) (p : IsListener b j) (k : ℕ) → (ep.rest.node j p.0).start ≤ k → AreInside l j k → OtherCount t n ep j p k)
      → ((k : ℕ) → (ep.rest.node a is.sender).start ≤ k → AreInside l a k → n < length (sender_queue b) → due_quantum b lengths (suc n) ≤ k → ⊥) → Later t n ep
  with_longer_ways t n ep more left from good own other none = record {
    line = ep.line ++ more;
    more = more;
    on = refl;
    left = left;
    from = from;
    good = good;
    low = λ i k inside late soon. low_by t n ep own other i k inside late soon;
    pair = λ j p k q late later soon sooner after. pair_by t n ep j p k q (own k late soon) (other j p q later sooner) after;
    due = λ k m late soon few by. due_by t n ep k m (own k late soon) by (λ one_more. elim (cases_lt n m) [
      | inl later ↦ absurd (none k late soon (omega arith) one_more)
      | inr fits ↦ fits
    ]);
  }
    where
      low_by : (t n : ℕ) (ep : Epoch t n) → ((k : ℕ) → (ep.rest.node a is.sender).start ≤ k → AreInside l a k → OwnCount t n ep k)
          → ((j : ℕ) (p : IsListener b j) (k : ℕ) → (ep.rest.node j p.0).start ≤ k → AreInside l j k → OtherCount t n ep j p k)
          → (i k : ℕ) → (inside : i < l.nodes) → (ep.rest.node i inside).start ≤ k → AreInside l i k → n ≤ suc (long i k)
      low_by t n ep own other i k inside late soon = elim (cases_eq i a) [
        | inl here ↦
            subst (λ v. (h : v < l.nodes) → (ep.rest.node v h).start ≤ k → AreInside l v k → n ≤ suc (long v k)) (sym here)
            (λ h. subst (λ h. (ep.rest.node a h).start ≤ k → AreInside l a k → n ≤ suc (long a k)) (le_prop is.sender h) (λ late soon. (own k late soon).low)) inside late soon
        | inr apart ↦ (other i (inside, apart) k late soon).low
      ]

  -- and where it is, and the next rest comes
  module _ (t n : ℕ) (ep : Epoch t n) (m : ℕ) (head : Content) (decides : Decides (b.setups a) ((ep.rest.node a is.sender).waits.passed 10) (ep.rest.node a is.sender).base (S a) (B a) head m)
      (in_time : after_it t n ep m head decides ≤ l.stop) (then : Later (after_it t n ep m head decides) (suc n) (next_epoch t n ep m head decides in_time)) where
    abbrev next_one : Epoch (after_it t n ep m head decides) (suc n)
    next_one = next_epoch t n ep m head decides in_time

    before_cut : (i k : ℕ) → (inside : i < l.nodes) → k < ((next_epoch t n ep m head decides in_time).rest.node i inside).start → AreInside l i k
        → (q : ℕ) → q < k → l.instant i q < cut t n ep m head decides
    before_cut i k inside less soon q few =
        let f = ((next_epoch t n ep m head decides in_time).rest.node i inside).before q (omega arith) in
        let e = is.ticks i q inside in
        let g = soon q few in
        omega arith

    -- its line goes on
    next_on : longer t n ep m head decides ++ then.more ≡ then.line
    unfolding next_epoch
    next_on = then.on

    later_next : Later t n ep
    later_next = record {
      line = then.line;
      more = head ∷ then.more;
      on = sym (append_assoc ep.line (head ∷ []) then.more) ∙ next_on;
      left = then.left;
      from = then.from;
      good = λ i k inside late soon. elim (cases_lt k (next_one.rest.node i inside).start) [
        | inl early ↦
            still_good laws b is (longer t n ep m head decides) then.more then.line i k next_on
            (good_frame t n ep m head decides i k inside late (before_cut i k inside early soon))
        | inr past ↦ then.good i k inside past soon
      ];
      low = λ i k inside late soon. elim (cases_lt k (next_one.rest.node i inside).start) [
        | inl early ↦ low_early i k inside late early soon
        | inr past ↦ (let e = then.low i k inside past soon in omega arith)
      ];
      pair = λ j p k q late later soon sooner after. elim (cases_lt k (next_one.rest.node a is.sender).start) [
        | inl early ↦
            (let own = own_frame t n ep m head decides k late (before_cut a k is.sender early soon) in
            elim (cases_lt q (next_one.rest.node j p.0).start) [
              | inl sooner_too ↦ pair_by t n ep j p k q own (other_frame t n ep m head decides j p q later (before_cut j q p.0 sooner_too sooner)) after
              | inr past ↦ (let e = then.low j q p.0 past sooner in let h = own.high in omega arith)
            ])
        | inr past ↦ elim (cases_lt q (next_one.rest.node j p.0).start) [
          | inl early ↦
              (let f = (next_one.rest.node j p.0).before q early in
              let g = (next_one.rest.node a is.sender).after in
              let rise = resting.up laws.clocks b is a is.sender (next_one.rest.node a is.sender).start k past in
              let here = is.ticks a k is.sender in
              let there = is.ticks j q p.0 in
              absurd (omega arith))
          | inr past_too ↦ then.pair j p k q past past_too soon sooner after
        ]
      ];
      due = λ k x late soon few by. elim (cases_lt k (next_one.rest.node a is.sender).start) [
        | inl early ↦
            due_by t n ep k x (own_frame t n ep m head decides k late (before_cut a k is.sender early soon)) by
            (λ one_more. absurd (too_early t n ep m head decides k (before_cut a k is.sender early soon) one_more))
        | inr past ↦ then.due k x past soon few by
      ];
    }
      where
        low_early : (i k : ℕ) → (inside : i < l.nodes) → (ep.rest.node i inside).start ≤ k → k < (next_one.rest.node i inside).start → AreInside l i k → n ≤ suc (long i k)
        low_early i k inside late early soon = elim (cases_eq i a) [
          | inl here ↦
              subst (λ v. (h : v < l.nodes) → (ep.rest.node v h).start ≤ k → k < (next_one.rest.node v h).start → AreInside l v k → n ≤ suc (long v k)) (sym here)
              (λ h. subst (λ h. (ep.rest.node a h).start ≤ k → k < (next_one.rest.node a h).start → AreInside l a k → n ≤ suc (long a k)) (le_prop is.sender h)
              (λ late early soon. (own_frame t n ep m head decides k late (before_cut a k is.sender early soon)).low)) inside late early soon
          | inr apart ↦ (other_frame t n ep m head decides i (inside, apart) k late (before_cut i k inside early soon)).low
        ]

  -- from a rest on, if that holds from each next one
  later_from : (t n : ℕ) (ep : Epoch t n)
      → ((m : ℕ) (head : Content) (d : Decides (b.setups a) (gone t n ep) (base t n ep) (S a) (B a) head m) (in_time : after_it t n ep m head d ≤ l.stop)
      → Later (after_it t n ep m head d) (suc n) (next_epoch t n ep m head d in_time)) → Later t n ep
  later_from t n ep go = elim (find (b.setups a) (gone t n ep) (base t n ep) (S a) (B a) l.stop) [
    | inr none ↦
        with_longer_ways t n ep [] (queued_contents (left t n ep)) (subst (λ x. ComeFrom (b.setups a) x (queued_contents (left t n ep))) (sym (append-nil ep.line)) ep.from)
        (λ i k inside late soon. subst (λ x. IsGood laws b is x i k) (sym (append-nil ep.line)) (good_calm t n ep none i k inside late soon)) (λ k late soon. own_calm t n ep none k late soon)
        (λ j p k late soon. other_calm t n ep none j p k late soon) (λ k late soon more by. calm_due t n ep none k soon more by)
    | inl found ↦ elim (cases_lt l.stop (after_it t n ep found.0 found.1 found.2)) [
      | inl beyond ↦
          with_longer_ways t n ep (found.1 ∷ [])
          (queued_contents (left_of (b.setups a) (gone t n ep ++ record { sent = true; quantum = 0; frame = found.1 } ∷ [])))
          (come_on t n ep found.0 found.1 found.2 (record { sent = true; quantum = 0; frame = found.1 }) refl refl)
          (λ i k inside late soon. good_frame t n ep found.0 found.1 found.2 i k inside late (λ q less. (let f = soon q less in omega arith)))
          (λ k late soon. own_frame t n ep found.0 found.1 found.2 k late (λ q less. (let f = soon q less in omega arith)))
          (λ j p k late soon. other_frame t n ep found.0 found.1 found.2 j p k late (λ q less. (let f = soon q less in omega arith)))
          (λ k late soon more by. too_early t n ep found.0 found.1 found.2 k (λ q less. (let f = soon q less in omega arith)) by)
      | inr in_time ↦ later_next t n ep found.0 found.1 found.2 in_time (go found.0 found.1 found.2 in_time)
    ]
  ]

  later_all : (fuel t n : ℕ) (ep : Epoch t n) → l.stop ≤ t + fuel → Later t n ep
  later_all zero t n ep over = later_from t n ep (λ m head d in_time. (let up = later t n ep m head d in absurd (omega arith)))
  later_all (suc fuel) t n ep over =
      later_from t n ep (λ m head d in_time. (let up = later t n ep m head d in later_all fuel (after_it t n ep m head d) (suc n) (next_epoch t n ep m head d in_time) (omega arith)))

  first_epoch : Epoch 0 0
  unfolding rests_first integrating
  first_epoch = record {
    rest = rests_first laws.clocks b is;
    line = [];
    whole = refl;
    from = come_first (b.setups a);
    kept = λ i inside c. (0, none_passed (b.setups a) [] (i == b.sender));
    sent = none_passed (b.setups a) [] true;
    received = λ j p. none_passed (b.setups a) [] false;
    spaced = λ m head d j p.
        (let here = decides_first b sends m head d in
        let e = sends.others j p in
        let bits : suc m * B a ≡ suc b.decides * B a = ap (λ n. suc n * B a) here in
        let from : suc b.decides * B a + 0 * B a ≡ 0 + suc m * B a = omega arith in
        let from_tick = ap (steady_tick (b.clocks a)) from in
        let ten = ap (steady_tick (b.clocks j)) (zero_first (10 * B j) (S j)) in
        omega arith);
    low = λ i inside c. omega arith;
    early_own = λ c h. omega arith;
    late_own = λ c h. refl;
    late_other = λ j p c h. omega arith;
    order = λ h. absurd (omega arith);
    due = (let low = (is.book a is.sender).lengths.ps2_low in omega arith);
  }

  start_first : (i : ℕ) → (inside : i < l.nodes) → (first_epoch.rest.node i inside).start ≤ 0
  unfolding first_epoch rests_first
  start_first i inside = omega arith

  all : Later 0 0 first_epoch
  all = later_all l.stop 0 0 first_epoch (omega arith)

  good : (i k : ℕ) → i < l.nodes → AreInside l i k → IsGood laws b is all.line i k
  good i k inside soon = let e = start_first i inside in all.good i k inside (omega arith) soon

  pub gets_through : GetThrough b lengths
  gets_through = record {
    fine = λ i k inside soon. (good i k inside soon).fine;
    counters = λ i k inside soon. (good i k inside soon).counters;
    line = all.line;
    left = all.left;
    queue = all.from;
    frames = λ i k inside soon. (let g = good i k inside soon in (g.passed.rest, g.passed.whole));
    roles = λ i k inside soon.
        (let g = good i k inside soon in
        g.passed.count ∙ ap (λ n. cond (i == b.sender) n 0) (sym g.passed.long));
    sent = λ n k few soon by.
        (let e = start_first a is.sender in
        let d = all.due k n (omega arith) soon few by in
        let f = contents_long (history_at b a k).frames in
        omega arith);
    unsent = λ i k inside soon. elim (cases_eq i a) [
      | inl own ↦ unsent_own i k inside soon own
      | inr other ↦
          (let g = good i k inside soon in
          let none = ap length (unsent_none (b.setups i) (history_at b i k).frames (sends.alone i (inside, other))) in
          let empty = ap length (sends.alone i (inside, other)) in
          let count = g.passed.count ∙ ap (λ v. cond v g.count 0) (ne_eqb i a other) in
          omega arith)
    ];
    received = λ j k q p soon sooner after.
        (let e = start_first a is.sender in
        let g = start_first j p.0 in
        let d = all.pair j p k q (omega arith) (omega arith) soon sooner after in
        let f = contents_long (history_at b a k).frames in
        let h = contents_long (history_at b j q).frames in
        omega arith);
  }
    where
      unsent_own : (i k : ℕ) → i < l.nodes → AreInside l i k → i ≡ a → length (unsent_after (b.setups i) (history_at b i k).frames) + count_by is_sent (history_at b i k).frames ≡ length (b.setups i).queue
      unsent_own i k inside soon own =
          let g = good i k inside soon in
          let left = g.passed.left (eq-eqb i a own) in
          let count = g.passed.count ∙ ap (λ v. cond v g.count 0) (eq-eqb i a own) in
          let same = ap (λ v. length (unsent_after (b.setups v) (history_at b i k).frames)) own in
          let long = ap (λ v. length (b.setups v).queue) own in
          omega arith
